-- The loop of `order::proposal::unready_rank`: the standings are right for the routers passed, and each but the first was a candidate when placed.
-- Assumes nothing.
use Rattle.order.proofs.Checking.{Checking}
use Rattle.order.proofs.proposal.unready_rank.Given as goal

abbrev pub invariant-loop-rank : goal.invariant-loop-rank
invariant-loop-rank l = Checking l.t l.a l.d l.mode l.ds l.order l.keys l.rank
