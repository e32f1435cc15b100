use Rattle.std.proofs.Common.{None, ◌+◌, ◌-◌}
use Rattle.forwarding_steps.specs.Inner.{before}
use Rattle.forwarding_steps.proofs.Bounds.{Known}
use Rattle.forwarding_steps.proofs.unchecked.counting.bounds_of.Given as goal

-- the places of the ranks below have their greatest hop counts
abbrev pub invariant-loop-rank : goal.invariant-loop-rank
invariant-loop-rank l = Known l.t l.table l.rank None l.bounds.by

-- and of this rank those before the place
abbrev pub invariant-loop-place : goal.invariant-loop-place
invariant-loop-place l = Known l.t l.table (l.rank + 1) l.place l.bounds.by

abbrev pub decreases-loop-place : goal.decreases-loop-place
decreases-loop-place l = 255 - before l.place
