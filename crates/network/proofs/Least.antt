-- The least of a start and of what f gives over a list is at most each of them, and is one of them: by induction on the list.
-- Assumes nothing.
use Prim.Native.Nat.{ℕ, min, ◌≤◌}
use mathlib.Core.List.{List, [], ◌∷◌, Memᴰ}
use mathlib.Core.Logic.{◌⊎◌, inl, inr}
use mathlib.Core.Path.{◌≡◌, refl}
use native.Mathlib.Decide.{dec_le}
use native.Mathlib.Nat.{le_refl, min-le_left}
use native.Mathlib.Omega.{arith}
use Rattle.network.specs.Lists.{least_by}

module _ {A : Type 0} (f : A → ℕ) (start : ℕ) where
  pub least_start : (xs : List A) → least_by f start xs ≤ start
  unfolding least_by
  least_start [] = le_refl start
  least_start (x ∷ xs) = omega (arith, least_start xs)

  pub least_each : {x : A} {xs : List A} → Memᴰ x xs → least_by f start xs ≤ f x
  unfolding least_by
  least_each (Memᴰ.head {x = y} {xs = ys} e) = rw e (min-le_left (f y) (least_by f start ys))
  least_each (Memᴰ.tail m) = omega (arith, least_each m)

  -- the number l is the start, or f gives it for an element of the list
  abbrev pub OneOf : List A → ℕ → Type 0
  OneOf xs l = (l ≡ start) ⊎ ((x : A) × Memᴰ x xs × (l ≡ f x))

  pub least_from : (xs : List A) → OneOf xs (least_by f start xs)
  unfolding least_by
  least_from [] = inl refl
  least_from (x ∷ xs) = step (dec_le (f x) (least_by f start xs)) (least_from xs)
    where
      step : Dec (f x ≤ least_by f start xs) → OneOf xs (least_by f start xs) → OneOf (x ∷ xs) (min (f x) (least_by f start xs))
      step (yes le) rest = inr (x, Memᴰ.head refl, omega arith)
      step (no nle) (inl e) = inl (omega arith)
      step (no nle) (inr t) = inr (t.0, Memᴰ.tail t.1, omega arith)
