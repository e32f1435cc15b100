-- `order::unchecked::judge` meets its contract: at each return the tests before it passed and the one that led there failed, which is what judging
-- answers.
-- Assumes nothing.
use Rattle.std.proofs.Common.{◌∙◌, ap}
use Rattle.topology_types.specs.Outcome.{refused}
use Rattle.topology_sound.proofs.Sound.{sound_exact}
use Rattle.order.proofs.Decided.{other_length}
use Rattle.order.proofs.Judged.{part_long, within, wrong_judged, ranked_judged, first_judged, begins, unready_judged, passed_judged}
use Rattle.order.proofs.unchecked.judge.Goals as goal

pub returns-then-order-n : goal.returns-then-order-n
returns-then-order-n c = ap refused c.at.ensures ∙ other_length _ _ _ _ c.if-order-n.true

pub reached_count-reached-requires : goal.reached_count-reached-requires
reached_count-reached-requires c = ((sound_exact _).0 c.requires.is-sound).routers_most

pub slice_bounds-wrong_rank-end : goal.slice_bounds-wrong_rank-end
slice_bounds-wrong_rank-end c = part_long c.requires c.reached_count-reached.ensures c.args.mode _ c.if-order-n.false

pub wrong_rank-requires : goal.wrong_rank-requires
wrong_rank-requires c = ((sound_exact _).0 c.requires.is-sound).routers_most

pub returns-in-Some : goal.returns-in-Some
returns-in-Some c =
    ap refused c.at-in-Some.ensures ∙ wrong_judged c.requires c.reached_count-reached.ensures c.args.mode _ c.if-order-n.false _ c.in-Some.ensures

pub rank_after-requires : goal.rank_after-requires
rank_after-requires c = within c.requires c.reached_count-reached.ensures c.args.mode _ c.if-order-n.false

pub returns-in-Some-rank_after : goal.returns-in-Some-rank_after
returns-in-Some-rank_after c =
    ap refused c.at-in-Some-rank_after.ensures
    ∙ ranked_judged c.requires c.reached_count-reached.ensures c.args.mode _ c.if-order-n.false c.in_default.ensures _ c.in-Some-rank_after.ensures

pub returns-then-order-destination : goal.returns-then-order-destination
returns-then-order-destination c =
    ap refused c.at-then-order-destination.ensures
    ∙ first_judged c.requires c.reached_count-reached.ensures c.args.mode _ c.if-order-n.false c.in_default.ensures c.in_default-rank_after.ensures
    c.if-order-destination.true

pub slice_bounds-unready_rank-end : goal.slice_bounds-unready_rank-end
slice_bounds-unready_rank-end c = part_long c.requires c.reached_count-reached.ensures c.args.mode _ c.if-order-n.false

pub unready_rank-requires : goal.unready_rank-requires
unready_rank-requires c =
    rw c.index-d.ensures
    (begins c.requires c.reached_count-reached.ensures c.args.mode _ c.if-order-n.false c.in_default.ensures c.in_default-rank_after.ensures
    c.if-order-destination.false)

pub returns-in-Some-unready_rank : goal.returns-in-Some-unready_rank
returns-in-Some-unready_rank c =
    ap refused c.at-in-Some-unready_rank.ensures
    ∙ unready_judged c.requires c.reached_count-reached.ensures c.args.mode _ c.if-order-n.false c.in_default.ensures c.in_default-rank_after.ensures
    c.if-order-destination.false _ (rw c.index-d.ensures at c.in-Some-unready_rank.ensures)

pub returns : goal.returns
returns c =
    passed_judged c.requires c.reached_count-reached.ensures c.args.mode _ c.if-order-n.false c.in_default.ensures c.in_default-rank_after.ensures
    c.if-order-destination.false (rw c.index-d.ensures at c.in_default-unready_rank.ensures)
