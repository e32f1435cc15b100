-- `table::unchecked::first_wrong` meets its contract: the room is filled with what filling would give for the table's order and its header's K, so its
-- ranks are those of the order, and the first difference is the first wrong byte.
-- Assumes nothing.
use Rattle.std.proofs.Common.{arith, sym, ◌∙◌}
use Rattle.table_rows.specs.Layout.{row_start_lem}
use Rattle.table.proofs.Differing.{first_differing}
use Rattle.table.proofs.Filling.{few, started_long, right_long, formed_fits, formed_fillable, room_right, room_long, room_fits, ranks_tell, wrong_rank, wrong_bytes_tell}
use Rattle.table.proofs.unchecked.first_wrong.Goals as goal

pub destination-destination-requires : goal.destination-destination-requires
destination-destination-requires c = omega (arith, started_long c.requires)

pub limit-limit-requires : goal.limit-limit-requires
limit-limit-requires c = omega (arith, started_long c.requires)

pub reached_count-reached-requires : goal.reached_count-reached-requires
reached_count-reached-requires c = few c.requires.measured

pub slice_bounds-fill-end : goal.slice_bounds-fill-end
slice_bounds-fill-end c = formed_fits c.requires c.reached_count-reached.ensures

pub fill-requires : goal.fill-requires
unfolding row_start_lem
fill-requires c =
    (formed_fillable c.requires c.reached_count-reached.ensures c.destination-destination.ensures c.limit-limit.ensures, omega (arith, few c.requires.measured))

pub slice_bounds-room-end : goal.slice_bounds-room-end
slice_bounds-room-end c =
    room_fits c.requires _ (room_right c.requires c.reached_count-reached.ensures c.destination-destination.ensures c.limit-limit.ensures _ _ c.fill.ensures)

pub slice_bounds-right-end : goal.slice_bounds-right-end
slice_bounds-right-end c =
    room_long c.requires _ (room_right c.requires c.reached_count-reached.ensures c.destination-destination.ensures c.limit-limit.ensures _ _ c.fill.ensures)

pub ranks_agree-requires : goal.ranks_agree-requires
unfolding row_start_lem
ranks_agree-requires c =
    let right = room_right c.requires c.reached_count-reached.ensures c.destination-destination.ensures c.limit-limit.ensures _ _ c.fill.ensures in (
      few c.requires.measured,
      omega (arith, started_long c.requires),
      rw c.of.ensures (omega (arith, started_long c.requires, room_long c.requires _ right)),
    )

pub returns-then-not-ranks_agree : goal.returns-then-not-ranks_agree
returns-then-not-ranks_agree c =
    let right = room_right c.requires c.reached_count-reached.ensures c.destination-destination.ensures c.limit-limit.ensures _ _ c.fill.ensures in
    wrong_rank c.requires (ranks_tell c.requires ∙ sym (rw (c.of.ensures, right) at c.ranks_agree.ensures) ∙ c.if-not-ranks_agree.true)

pub returns : goal.returns
returns c =
    let right = room_right c.requires c.reached_count-reached.ensures c.destination-destination.ensures c.limit-limit.ensures _ _ c.fill.ensures in
    (rw right at c.first_difference.ensures) ∙ first_differing _ _ (sym (right_long c.requires))
    ∙ wrong_bytes_tell c.requires (ranks_tell c.requires ∙ sym (rw (c.of.ensures, right) at c.ranks_agree.ensures) ∙ c.if-not-ranks_agree.false)
