-- The loop of `distances::settling::nearest`: `best` is the least key of the first `v` places.
-- Assumes nothing.
use Rattle.distances.proofs.Nearest.{Least}
use Rattle.distances.proofs.settling.nearest.Given as goal

abbrev pub invariant-loop-v : goal.invariant-loop-v
invariant-loop-v l = Least l.ds l.marks l.v l.best
