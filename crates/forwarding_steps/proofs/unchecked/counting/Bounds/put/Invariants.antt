use Rattle.std.proofs.Common.{◌++◌, map, ◌≡◌, drop}
use Rattle.network.specs.Lists.{below}
use Rattle.forwarding_steps.specs.Inner.{bound_of}
use Rattle.forwarding_steps.proofs.unchecked.counting.Bounds.put.Given as goal

-- the first u bytes are the bounds of the first u places
abbrev pub invariant-loop-u : goal.invariant-loop-u
invariant-loop-u l = l.out ≡ map (bound_of l.self.by) (below l.u) ++ drop l.u l.fn.out
