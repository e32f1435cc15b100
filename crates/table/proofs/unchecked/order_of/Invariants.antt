-- At each rank stands the first of the places passed that has it, from the last place down.
use Rattle.std.proofs.Common.{◌≡◌, ℕ, ◌-◌, ◌<◌, length, get_or}
use Rattle.network.specs.Lists.{numbers_from}
use Rattle.table.proofs.Places.{first_with}
use Rattle.table.proofs.unchecked.order_of.Given as goal

abbrev pub invariant-loop-u : goal.invariant-loop-u
invariant-loop-u l =
    (length l.order ≡ 64) × ((r : ℕ) → r < l.n → get_or l.order r 0 ≡ first_with l.table.bytes.now r (numbers_from l.u (l.n - l.u)))
