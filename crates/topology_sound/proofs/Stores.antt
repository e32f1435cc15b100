-- What stands in a slot of a list that a function makes of another, slot by slot, and of the numbers below n.
-- Assumes nothing.
use Prim.Native.Nat.{ℕ, zero, suc, ◌<◌}
use mathlib.Core.List.{List, [], ◌∷◌, map, map-id}
use mathlib.Core.Path.{◌≡◌, refl}
use native.Mathlib.Nat.{not-suc-le-zero, le_of_suc-le-suc}
use lib.ListN.{length, get_or}
use Rattle.network.specs.Lists.{below}
use Rattle.network.proofs.Below.{get_d_below}

pub get_d_mapped : {A B : Type 0} (f : A → B) (xs : List A) (i : ℕ) (y : B) (z : A) → i < length xs → get_or (map f xs) i y ≡ f (get_or xs i z)
get_d_mapped f [] i y z h = absurd (not-suc-le-zero h)
get_d_mapped f (x ∷ xs) zero y z h = refl
get_d_mapped f (x ∷ xs) (suc i) y z h = get_d_mapped f xs i y z (le_of_suc-le-suc h)

-- of the numbers below n each stands at its own place
pub get_d_number : (n u : ℕ) → u < n → get_or (below n) u 0 ≡ u
get_d_number n u h = rw map-id at (get_d_below (λ (k : ℕ). k) n u 0 h)
