-- The header is put, and each turn puts the next row.
use Rattle.std.proofs.Common.{◌≡◌, ℕ, ◌-◌, length, drop, arith, ap, sym, ◌∙◌}
use Rattle.std.proofs.lemmas.List.{length-take, length-drop}
use Rattle.std.proofs.Math.Seq.{length-take-le}
use Rattle.distances.proofs.Slots.{at_fits, arcs_are}
use Rattle.table_rows.specs.Layout.{row_start_lem}
use Rattle.table_rows.specs.Inner.{rank_of}
use Rattle.table_rows.proofs.Layouts.{readable, bytewise}
use Rattle.table_rows.proofs.KeyLaw.{within, weighable, keyed}
use Rattle.table_rows.proofs.Putting.{begun_none, filled_more, filled_all}
use Rattle.table_rows.proofs.unchecked.fill.Goals as goal

pub weights_of-weights-requires : goal.weights_of-weights-requires
weights_of-weights-requires c = weighable c.requires.0

pub slice_bounds-put_header-end : goal.slice_bounds-put_header-end
unfolding row_start_lem
slice_bounds-put_header-end c = omega (arith, c.row_start-header.ensures, c.requires.1)

pub slice_bounds-put_header-end-2 : goal.slice_bounds-put_header-end-2
unfolding row_start_lem
slice_bounds-put_header-end-2 c = sym (length-take-le _ c.args.out.now (omega (arith, c.row_start-header.ensures, c.requires.1)))

pub overflow_cast-n : goal.overflow_cast-n
overflow_cast-n c = omega (arith, (within c.requires.0).most)

pub put_header-requires : goal.put_header-requires
unfolding row_start_lem
put_header-requires c =
    (bytewise, length-take-le c.row_start-header.result c.args.out.now (omega (arith, c.row_start-header.ensures, c.requires.1)) ∙ c.row_start-header.ensures)

pub loop-u-init : goal.loop-u-init
loop-u-init c = rw (c.put_header.ensures, c.row_start-header.ensures, begun_none)

pub at-requires : goal.at-requires
at-requires c = at_fits (within c.requires.0) c.loop-u.u c.loop-u-test.true c.requires.0.holds.out

pub sort_keys-requires : goal.sort_keys-requires
sort_keys-requires c =
    let w = within c.requires.0 in
    let turn = c.loop-u-test.true in
    (rw (arcs_are w c.loop-u.u turn c.requires.0.holds.out _ c.at.ensures) (keyed c.requires.0 c.weights_of-weights.ensures c.loop-u.u turn), omega (arith, w.most))

pub row_start-first-requires : goal.row_start-first-requires
row_start-first-requires c = (readable, omega (arith, c.loop-u-test.true, (within c.requires.0).most))

pub row_start-end-requires : goal.row_start-end-requires
row_start-end-requires c = (readable, omega (arith, c.loop-u-test.true, (within c.requires.0).most))

pub slice_bounds-put_row-count : goal.slice_bounds-put_row-count
unfolding row_start_lem
slice_bounds-put_row-count c = omega (arith, c.row_start-first.ensures, c.row_start-end.ensures)

pub slice_bounds-put_row-start : goal.slice_bounds-put_row-start
unfolding row_start_lem
slice_bounds-put_row-start c = omega (arith, c.row_start-first.ensures, c.row_start-end.ensures, c.loop-u-test.true, c.requires.1)

pub slice_bounds-put_row-end : goal.slice_bounds-put_row-end
unfolding row_start_lem
slice_bounds-put_row-end c = omega (arith, c.row_start-first.ensures, c.row_start-end.ensures, c.loop-u-test.true, c.requires.1)

pub bounds-ranks-u : goal.bounds-ranks-u
bounds-ranks-u c = omega (arith, c.loop-u-test.true, (within c.requires.0).most)

pub put_row-requires : goal.put_row-requires
unfolding row_start_lem
put_row-requires c = (
  bytewise,
  omega (arith, ap length c.first.ensures, length-take {A = ℕ}, c.from-most.ensures, c.requires.0.limit_most),
  length-take-le (c.row_start-end.result - c.row_start-first.result) (drop c.row_start-first.result c.loop-u.out)
      (omega (arith, length-drop c.row_start-first.result c.loop-u.out, c.row_start-first.ensures, c.row_start-end.ensures, c.loop-u-test.true, c.requires.1))
      ∙ omega (arith, c.row_start-first.ensures, c.row_start-end.ensures),
)

pub loop-u-preserved : goal.loop-u-preserved
unfolding rank_of
loop-u-preserved c =
    let w = within c.requires.0 in
    let turn = c.loop-u-test.true in
    rw (c.row_start-first.ensures, c.row_start-end.ensures, c.loop-u.invariant)
    (filled_more c.requires.0 c.args.out.now c.weights_of-weights.ensures c.ranks_of-ranks.ensures c.loop-u.u turn c.put_row.new.row
    (rw (c.put_row.ensures, c.first.ensures, c.sort_keys.ensures, arcs_are w c.loop-u.u turn c.requires.0.holds.out _ c.at.ensures, c.from-most.ensures)))

pub returns : goal.returns
returns c =
    let all : c.loop-u.u ≡ c.args.t.now.routers = omega arith in
    rw all at c.loop-u.invariant ∙ filled_all c.requires.0 c.args.out.now
