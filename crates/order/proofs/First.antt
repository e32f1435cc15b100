-- The first number that passes a test, in a run of numbers: it is r if r passes and none before it does, and nothing is kept if none passes.
-- By induction on how many numbers there are.
-- Assumes nothing.
use Prim.Native.Nat.{ℕ, zero, suc, ◌+◌, ◌≤◌, ◌<◌}
use mathlib.Core.Bool.{Bool, true, false}
use mathlib.Core.List.{List, [], ◌∷◌}
use mathlib.Core.Logic.{◌⊎◌, inl, inr}
use mathlib.Core.Path.{◌≡◌, refl, ap}
use native.Mathlib.Nat.{eq-or-lt_of_le}
use native.Mathlib.Omega.{arith}
use Rattle.std.specs.Prelude.{Some}
use Rattle.network.specs.Lists.{numbers_from, below, keep}
use Rattle.topology_types.specs.Outcome.{first_or}
use Rattle.order.specs.Calls.{first_of}

module _ (f : ℕ → Bool) where
  pub none_from : (s n : ℕ) → ((k : ℕ) → s ≤ k → k < s + n → f k ≡ false) → keep f (numbers_from s n) ≡ []
  unfolding numbers_from
  none_from s zero none = refl
  none_from s (suc n) none = rw (none s (omega arith) (omega arith)) (none_from (suc s) n (λ k l h. none k (omega arith) (omega arith)))

  pub first_from : (s n r z : ℕ) → s ≤ r → r < s + n → ((k : ℕ) → s ≤ k → k < r → f k ≡ false) → f r ≡ true →
      first_or z (keep f (numbers_from s n)) ≡ r
  unfolding numbers_from first_or
  first_from s zero r z l h before here = absurd (omega arith)
  first_from s (suc n) r z l h before here = step (eq-or-lt_of_le l) (first_from (suc s) n r z)
    where
      step : (s ≡ r) ⊎ (s < r) →
          (suc s ≤ r → r < suc s + n → ((k : ℕ) → suc s ≤ k → k < r → f k ≡ false) → f r ≡ true → first_or z (keep f (numbers_from (suc s) n)) ≡ r) →
          first_or z (keep f (numbers_from s (suc n))) ≡ r
      step (inl e) rest = rw (e, here) refl
      step (inr k) rest = rw (before s (omega arith) k) (rest k (omega arith) (λ i a b. before i (omega arith) b) here)

  pub none_below : (n : ℕ) → ((k : ℕ) → k < n → f k ≡ false) → keep f (below n) ≡ []
  unfolding below
  none_below n none = none_from 0 n (λ k l h. none k (omega arith))

  pub first_below : (n r z : ℕ) → r < n → ((k : ℕ) → k < r → f k ≡ false) → f r ≡ true → first_or z (keep f (below n)) ≡ r
  unfolding below
  first_below n r z h before here = first_from 0 n r z (omega arith) (omega arith) (λ k l b. before k b) here

-- r is the first of a list where it is, whatever stands for none
pub first_is : (xs : List ℕ) (r : ℕ) → first_or (suc r) xs ≡ r → first_of xs ≡ Some r
unfolding first_or
first_is [] r e = absurd (omega arith)
first_is (x ∷ xs) r e = ap Some e
