-- `table::unchecked::build` meets its contract: the order that is built is accepted in free mode, so its table can be filled.
-- Assumes nothing.
use Rattle.std.proofs.Common.{arith}
use Rattle.distances.proofs.Laid.{laid_out}
use Rattle.order.proofs.Turn.{measured_laid}
use Rattle.order.proofs.Lending.{lent, as_many, built}
use Rattle.table_rows.specs.Layout.{row_start_lem}
use Rattle.table_rows.proofs.Layouts.{readable}
use Rattle.table.proofs.Filling.{placed_at, few, built_fits, built_within, built_fillable, built_front}
use Rattle.table.proofs.unchecked.build.Goals as goal

pub to-ds-requires : goal.to-ds-requires
to-ds-requires c = ((c.args.t.now, laid_out c.requires.0 c.requires.1), c.requires.2)

pub shared_ref_as_front-build : goal.shared_ref_as_front-build
shared_ref_as_front-build c = few (placed_at c.requires.0 c.requires.2 c.requires.1 c.to-ds.ensures)

pub build-requires : goal.build-requires
build-requires c =
    let m = placed_at c.requires.0 c.requires.2 c.requires.1 c.to-ds.ensures in
    let g = measured_laid m c.args.mode in
    ((c.args.t.now, lent g), omega (arith, as_many g, few m))

pub reached_count-reached-requires : goal.reached_count-reached-requires
reached_count-reached-requires c = few (placed_at c.requires.0 c.requires.2 c.requires.1 c.to-ds.ensures)

pub slice_bounds-order-end : goal.slice_bounds-order-end
slice_bounds-order-end c =
    let m = placed_at c.requires.0 c.requires.2 c.requires.1 c.to-ds.ensures in
    built_within m _ _ _ (built (measured_laid m c.args.mode) _ c.build.ensures) _ c.reached_count-reached.ensures

pub slice_bounds-fill-end : goal.slice_bounds-fill-end
slice_bounds-fill-end c =
    let m = placed_at c.requires.0 c.requires.2 c.requires.1 c.to-ds.ensures in
    built_fits m _ _ _ (built (measured_laid m c.args.mode) _ c.build.ensures) _ c.reached_count-reached.ensures

pub fill-requires : goal.fill-requires
unfolding row_start_lem
fill-requires c =
    let m = placed_at c.requires.0 c.requires.2 c.requires.1 c.to-ds.ensures in
    (built_fillable m _ _ _ (built (measured_laid m c.args.mode) _ c.build.ensures) _ c.reached_count-reached.ensures, omega (arith, few m))

pub row_start-requires : goal.row_start-requires
row_start-requires c = (readable, few (placed_at c.requires.0 c.requires.2 c.requires.1 c.to-ds.ensures))

pub invariant_of-result : goal.invariant_of-result
unfolding row_start_lem
invariant_of-result c =
    record { fits = omega (arith, c.row_start.ensures, few (placed_at c.requires.0 c.requires.2 c.requires.1 c.to-ds.ensures)) }

pub returns : goal.returns
returns c =
    let m = placed_at c.requires.0 c.requires.2 c.requires.1 c.to-ds.ensures in
    built_front m _ _ _ (built (measured_laid m c.args.mode) _ c.build.ensures) _ c.reached_count-reached.ensures _ c.row_start.ensures _ _ c.fill.ensures
