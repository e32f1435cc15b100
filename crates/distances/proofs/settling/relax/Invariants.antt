-- The loop of `distances::settling::relax`: the distances are right for the arcs passed.
-- Assumes nothing.
use Rattle.std.proofs.Common.{map, take}
use Rattle.arcs.specs.Inner.{returning}
use Rattle.distances.specs.Inner.{Relaxed}
use Rattle.distances.proofs.settling.relax.Given as goal

abbrev pub invariant-loop-arc : goal.invariant-loop-arc
invariant-loop-arc l = Relaxed (map returning (take l.arc-index l.arcs)) l.here l.fn.ds l.ds
