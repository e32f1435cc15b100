-- A count that stops is the lesser of the whole count and one more than the limit, and such lessers add up.
-- Assumes nothing.
use Prim.Native.Nat.{ℕ}
use mathlib.Core.List.{List, map}
use mathlib.Core.Path.{◌≡◌}
use native.Mathlib.Omega.{arith}
use lib.ListN.{length-append, length-map}
use Rattle.network.specs.Lists.{counted}
use Rattle.network.specs.Theorems.Paths.{CountsExact}

-- what stands in front of each element does not change how many there are
pub counted_map : {A B : Type 0} (g : A → B) (most total : ℕ) (xs : List A) → counted most total (map g xs) ≡ counted most total xs
unfolding counted
counted_map g most total xs = rw (length-map xs g)

pub counts_exact : CountsExact
unfolding counted
counts_exact A most xs =
    record {
      more = (λ h. omega arith, λ h. omega arith);
      how_many = λ h. omega arith;
      in-turn = λ total ys. omega (arith, length-append xs ys);
      stopped = λ total h. omega arith;
    }
