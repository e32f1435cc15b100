use Rattle.std.proofs.Common.{◌≡◌, suc, max, drop}
use Rattle.network.specs.Lists.{greatest_by}
use Rattle.forwarding_steps.specs.Inner.{bound_of}
use Rattle.forwarding_steps.proofs.unchecked.counting.Bounds.greatest_of.Given as goal

-- with the entries that are left it is the greatest of the row
abbrev pub invariant-loop-v : goal.invariant-loop-v
invariant-loop-v l =
    max l.best (greatest_by (λ v. suc (bound_of l.self.by v)) (drop l.v-index l.row)) ≡ greatest_by (λ v. suc (bound_of l.self.by v)) l.row
