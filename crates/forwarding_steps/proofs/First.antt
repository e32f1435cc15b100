-- The first byte that passes a test, by its position, is the first of the positions whose bytes pass it.
-- Assumes nothing.
use Rattle.std.proofs.Common.{◌≡◌, ℕ, suc, ◌+◌, ◌<◌, Bool, true, false, List, [], ◌∷◌, length, get_or, refl, ◌∙◌, arith, add-one}
use native.Mathlib.Nat.{add-zero, zero-add, add-suc, suc-add}
use Rattle.std.specs.List.{position, position_from}
use Rattle.std.proofs.lemmas.Iterator.Adapters.{position_from-zero}
use Rattle.network.specs.Lists.{numbers_from, below, keep}
use Rattle.order.specs.Calls.{first_of}

module _ (test : ℕ → Bool) where
  step : (f : ℕ → Bool) (x : ℕ) (xs : List ℕ) (i : ℕ) → f i ≡ test x →
      position_from test (suc i) xs ≡ first_of (keep f (numbers_from (suc i) (length xs))) → (b : Bool) → test x ≡ b →
      position_from test i (x ∷ xs) ≡ first_of (keep f (numbers_from i (suc (length xs))))
  unfolding numbers_from
  step f x xs i here rest true e = rw (here, e) refl
  step f x xs i here rest false e = rw (here, e, add-one) rest

  first_from : (f : ℕ → Bool) (xs : List ℕ) (i : ℕ) → ((k : ℕ) → k < length xs → f (i + k) ≡ test (get_or xs k 0)) →
      position_from test i xs ≡ first_of (keep f (numbers_from i (length xs)))
  unfolding numbers_from
  first_from f [] i same = refl
  first_from f (x ∷ xs) i same =
      step f x xs i (simp add-zero at (same 0 (omega arith))) (first_from f xs (suc i) (λ k h. simp suc-add (simp add-suc at (same (suc k) (omega arith))))) (test x) refl

  pub first_position : (f : ℕ → Bool) (xs : List ℕ) → ((k : ℕ) → k < length xs → f k ≡ test (get_or xs k 0)) →
      position test xs ≡ first_of (keep f (below (length xs)))
  unfolding below
  first_position f xs same = position_from-zero test xs ∙ first_from f xs 0 (λ k h. simp zero-add (same k h))
