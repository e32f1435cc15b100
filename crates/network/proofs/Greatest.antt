-- Laws of greatest_by, each by induction on the list.
-- Assumes nothing.
use Prim.Native.Nat.{ℕ, ◌≤◌}
use mathlib.Core.List.{List, [], ◌∷◌, Memᴰ}
use mathlib.Core.Logic.{◌⊎◌, inl, inr}
use mathlib.Core.Path.{◌≡◌, refl, ap}
use native.Mathlib.Decide.{dec_le}
use native.Mathlib.Omega.{arith}
use Rattle.network.specs.Lists.{greatest_by}

module _ {A : Type 0} where
  -- what f gives at an element is at most the greatest
  pub at_most_greatest : (f : A → ℕ) {x : A} {xs : List A} → Memᴰ x xs → f x ≤ greatest_by f xs
  unfolding greatest_by
  at_most_greatest f (Memᴰ.head e) = let same = ap f e in omega arith
  at_most_greatest f (Memᴰ.tail m) = let below = at_most_greatest f m in omega arith

  -- some element attains it, unless there is none and it is 0
  pub greatest_attained : (f : A → ℕ) (xs : List A) →
      ((xs ≡ []) × (greatest_by f xs ≡ 0)) ⊎ ((x : A) × Memᴰ x xs × (greatest_by f xs ≡ f x))
  unfolding greatest_by
  greatest_attained f [] = inl (refl, refl)
  greatest_attained f (x ∷ xs) = inr (go (greatest_attained f xs) (dec_le (greatest_by f xs) (f x)))
    where
      go : ((xs ≡ []) × (greatest_by f xs ≡ 0)) ⊎ ((y : A) × Memᴰ y xs × (greatest_by f xs ≡ f y)) →
          Dec (greatest_by f xs ≤ f x) → (y : A) × Memᴰ y (x ∷ xs) × (greatest_by f (x ∷ xs) ≡ f y)
      go rest (yes h) = (x, Memᴰ.head refl, omega arith)
      go (inl empty) (no h) = absurd (omega arith)
      go (inr (y, m, e)) (no h) = (y, Memᴰ.tail m, omega arith)

  -- it depends on f only at the elements
  pub greatest_same : (f g : A → ℕ) (xs : List A) → ((x : A) → Memᴰ x xs → f x ≡ g x) → greatest_by f xs ≡ greatest_by g xs
  unfolding greatest_by
  greatest_same f g [] same = refl
  greatest_same f g (x ∷ xs) same =
      let first = same x (Memᴰ.head refl) in
      let rest = greatest_same f g xs (λ y m. same y (Memᴰ.tail m)) in
      omega arith
