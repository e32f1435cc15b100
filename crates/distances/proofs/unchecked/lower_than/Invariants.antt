-- The loop of `distances::unchecked::lower_than`: `lower` is how many of the numbers passed are lower.
-- Assumes nothing.
use Rattle.std.proofs.Common.{◌≡◌, length, take}
use lib.Dec.{ltb}
use Rattle.network.specs.Lists.{keep}
use Rattle.distances.proofs.unchecked.lower_than.Given as goal

abbrev pub invariant-loop-v : goal.invariant-loop-v
invariant-loop-v l = l.lower ≡ length (keep (λ x. ltb x l.limit) (take l.v l.numbers))
