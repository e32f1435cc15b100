-- The front is put, and 255 behind it; each turn puts the next place.
use Rattle.std.proofs.Common.{◌≡◌, ◌≤◌, length, arith, ◌∙◌}
use Rattle.std.proofs.lemmas.List.{length-map, take_all}
use Rattle.topology_types.specs.Topology.{padded}
use Rattle.table_rows.proofs.Layouts.{row_wide, row_is}
use Rattle.table_rows.proofs.Padding.{row_begun, row_next}
use Rattle.table_rows.proofs.writing.put_row.Goals as goal

pub loop-i-init : goal.loop-i-init
loop-i-init c = row_begun c.args.row.now (c.requires.2 ∙ row_wide c.args.l c.requires.0) _ _ _ _ (c.fill.ensures.after (λ y e. e))

pub loop-i-preserved : goal.loop-i-preserved
loop-i-preserved c = rw c.loop-i.invariant (row_next c.args.keys.now c.requires.1 _ _ _ c.loop-i-test.true)

pub returns : goal.returns
unfolding padded
returns c =
    let all : length c.args.keys.now ≤ c.loop-i.i = omega arith in
    let count : c.loop-i.i ≡ length c.args.keys.now = omega arith in
    c.loop-i.invariant ∙ rw (row_is c.args.l c.requires.0, length-map, take_all c.loop-i.i c.args.keys.now all, count)
