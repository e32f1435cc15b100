-- `table::fill` meets its contract: the tests are those of `filling`, in turn, and what the rows are filled with is the table's bytes.
-- Assumes nothing.
use Rattle.std.proofs.Common.{◌≡◌, ◌∙◌, ap, rules}
use Rattle.std.specs.Prelude.{Err}
use Rattle.topology_types.specs.Outcome.{answer, answer_of}
use Rattle.topology_sound.proofs.Place.{on_place_err, on_place_ok}
use Rattle.distances.proofs.Laid.{laid_out}
use Rattle.order.specs.Calls.{checking}
use Rattle.order.proofs.Decided.{judged}
use Rattle.table_rows.proofs.Layouts.{readable}
use Rattle.table.proofs.Filling.{placed, few, filling_refused, part_long, part_fillable, filling_short, filling_room, filling_whole}
use Rattle.table.proofs.fill.Goals as goal

pub returns-in_err-test_place : goal.returns-in_err-test_place
unfolding checking
returns-in_err-test_place c =
    let e : c.from_residual.result ≡ Err c.in_err-test_place.field-0.0 = search rules in
    ap (λ r. record { answer = answer_of r; buffer = c.args.out.now }) e
    ∙ filling_refused _ _ _ _ _ (on_place_err c.args.t c.args.destination.0 answer _ _ c.in_err-test_place.ensures)

pub of-a-requires : goal.of-a-requires
of-a-requires c = (on_place_ok c.args.t c.args.destination.0 c.in_ok-test_place.ensures).0

pub to-ds-requires : goal.to-ds-requires
to-ds-requires c =
    let (good, place) = on_place_ok c.args.t c.args.destination.0 c.in_ok-test_place.ensures in
    ((c.args.t, laid_out good c.of-a.ensures), place)

pub judge-requires : goal.judge-requires
judge-requires c = placed c.in_ok-test_place.ensures c.of-a.ensures c.to-ds.ensures

pub returns-in_err-judge : goal.returns-in_err-judge
returns-in_err-judge c =
    let (good, place) = on_place_ok c.args.t c.args.destination.0 c.in_ok-test_place.ensures in
    let e : c.from_residual-in_err-judge.result ≡ Err c.in_err-judge.field-0.0 = search rules in
    ap (λ r. record { answer = answer_of r; buffer = c.args.out.now }) e ∙ filling_refused _ _ _ _ _ (c.in_err-judge.ensures ∙ judged _ _ _ _ good place)

pub row_start-needed-requires : goal.row_start-needed-requires
row_start-needed-requires c = (readable, few (placed c.in_ok-test_place.ensures c.of-a.ensures c.to-ds.ensures))

pub returns-then-out-needed : goal.returns-then-out-needed
returns-then-out-needed c =
    let m = placed c.in_ok-test_place.ensures c.of-a.ensures c.to-ds.ensures in
    rw c.at.ensures (filling_short m _ c.in_ok-judge.ensures c.args.out.now _ c.row_start-needed.ensures c.if-out-needed.true)

pub reached_count-reached-requires : goal.reached_count-reached-requires
reached_count-reached-requires c = few (placed c.in_ok-test_place.ensures c.of-a.ensures c.to-ds.ensures)

pub slice_bounds-fill-end : goal.slice_bounds-fill-end
slice_bounds-fill-end c =
    let m = placed c.in_ok-test_place.ensures c.of-a.ensures c.to-ds.ensures in
    part_long m _ c.in_ok-judge.ensures c.reached_count-reached.ensures

pub fill-requires : goal.fill-requires
fill-requires c =
    let m = placed c.in_ok-test_place.ensures c.of-a.ensures c.to-ds.ensures in (
      part_fillable m _ c.in_ok-judge.ensures c.reached_count-reached.ensures,
      filling_room m _ c.in_ok-judge.ensures c.args.out.now _ c.row_start-needed.ensures c.if-out-needed.false,
    )

pub returns : goal.returns
returns c =
    let m = placed c.in_ok-test_place.ensures c.of-a.ensures c.to-ds.ensures in
    filling_whole m _ c.in_ok-judge.ensures c.args.out.now _ c.row_start-needed.ensures c.if-out-needed.false c.reached_count-reached.ensures _ c.fill.ensures
