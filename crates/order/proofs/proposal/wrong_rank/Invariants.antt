-- The loop of `order::proposal::wrong_rank`: no rank passed is wrong, and `held` says of each place whether it stands at one of them.
-- Assumes nothing.
use Rattle.std.proofs.Common.{ℕ, ◌≡◌, ◌<◌, false, length, get_or, take}
use Rattle.network.specs.Lists.{member}
use Rattle.order.proofs.Entries.{Right}
use Rattle.order.proofs.proposal.wrong_rank.Given as goal

abbrev pub invariant-loop-rank : goal.invariant-loop-rank
invariant-loop-rank l =
    record {
      long : length l.held ≡ 64;
      right : (r : ℕ) → r < l.rank → Right l.n l.order r;
      marks : (v : ℕ) → v < 64 → get_or l.held v false ≡ member v (take l.rank l.order);
    }
