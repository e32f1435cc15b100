-- `order::proposal::unready_rank` meets its contract.
-- Assumes nothing.
use Rattle.std.proofs.Common.{sym, ap, arith}
use Rattle.order.specs.Calls.{first_of}
use Rattle.order.proofs.Turn.{every_arc, zeros_small, hands_out, counts_in, counted_in, first_room}
use Rattle.order.proofs.Checking.{first_turn, place, has_room, unready, again, none_unready}
use Rattle.order.proofs.proposal.unready_rank.Goals as goal

pub standings-keys-requires : goal.standings-keys-requires
standings-keys-requires c = let g = c.requires.0 in (every_arc g, zeros_small g)

pub at-requires : goal.at-requires
at-requires c = let g = c.requires.0 in hands_out g g.place

pub count_in-requires : goal.count_in-requires
count_in-requires c =
    let g = c.requires.0 in
    counts_in g g.place _ c.at.ensures _ (first_room g (zeros_small g) c.standings-keys.ensures)

pub loop-rank-init : goal.loop-rank-init
loop-rank-init c =
    let g = c.requires.0 in
    first_turn g c.requires.1 c.standings-keys.ensures (counted_in g g.place _ c.at.ensures c.count_in.ensures)

pub bounds-keys-u : goal.bounds-keys-u
bounds-keys-u c = (hands_out c.requires.0 (place c.loop-rank.invariant c.loop-rank-test.true)).0

pub returns-then-not-is_candidate : goal.returns-then-not-is_candidate
returns-then-not-is_candidate c = sym (unready c.loop-rank.invariant c.loop-rank-test.true (sym c.if-not-is_candidate.ensures))

pub at-requires-in-loop-rank : goal.at-requires-in-loop-rank
at-requires-in-loop-rank c = hands_out c.requires.0 (place c.loop-rank.invariant c.loop-rank-test.true)

pub count_in-requires-in-loop-rank : goal.count_in-requires-in-loop-rank
count_in-requires-in-loop-rank c =
    let w = c.loop-rank.invariant in
    let h = c.loop-rank-test.true in
    counts_in c.requires.0 (place w h) _ c.at-in-loop-rank.ensures _ (has_room w h (sym c.if-not-is_candidate.ensures))

pub loop-rank-preserved : goal.loop-rank-preserved
loop-rank-preserved c =
    let w = c.loop-rank.invariant in
    let h = c.loop-rank-test.true in
    again w h (sym c.if-not-is_candidate.ensures) (counted_in c.requires.0 (place w h) _ c.at-in-loop-rank.ensures c.count_in-in-loop-rank.ensures)

pub returns : goal.returns
returns c = sym (ap first_of (none_unready c.loop-rank.invariant (omega arith)))
