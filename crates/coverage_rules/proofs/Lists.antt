-- Lists one after the other: how many elements they have, and that what holds of each two elements of one, and of any two of different ones, holds of
-- each two of all.
-- Assumes nothing.
use Prim.Native.Nat.{ℕ, ◌+◌, ◌*◌}
use mathlib.Core.List.Memᴰ
use mathlib.Core.List.{List, [], ◌∷◌, ◌++◌, Memᴰ, map}
use mathlib.Core.List.{append_assoc, append-nil}
use mathlib.Core.Logic.{⊎_elim}
use mathlib.Core.Path.{◌≡◌, refl, sym, subst}
use native.Mathlib.Nat.{mul-zero, mul-suc}
use native.Mathlib.Omega.{arith}
use lib.ListN.{length, length-append}
use Rattle.network.specs.Lists.{Pairwise, nothing, then, below}
use Rattle.topology.specs.Written.{joined_over}
use Rattle.arcs.proofs.Slots.{below_more}
use Rattle.forwarding_rules.proofs.Rules.{mem_joined}

module _ {A B : Type 0} (f : A → List B) where
  pub joined_wide : (width : ℕ) (xs : List A) → ((x : A) → Memᴰ x xs → length (f x) ≡ width) → length (joined_over f xs) ≡ width * length xs
  unfolding joined_over
  joined_wide width [] wide = sym (mul-zero width)
  joined_wide width (x ∷ xs) wide =
      rw (length-append, wide x (Memᴰ.head refl), joined_wide width xs (λ y m. wide y (Memᴰ.tail m)), mul-suc) (omega arith)

  -- a list more
  joined_last : (xs : List A) (x : A) → joined_over f (xs ++ (x ∷ [])) ≡ joined_over f xs ++ f x
  unfolding joined_over
  joined_last [] x = append-nil (f x)
  joined_last (y ∷ ys) x = rw (joined_last ys x, append_assoc)

  -- lists that another function makes of other elements
  pub joined_as : {C : Type 0} (g : C → A) (h : C → List B) (xs : List C) → ((x : C) → Memᴰ x xs → f (g x) ≡ h x) →
      joined_over f (map g xs) ≡ joined_over h xs
  unfolding joined_over
  joined_as g h [] each = refl
  joined_as g h (x ∷ xs) each = rw (each x (Memᴰ.head refl), joined_as g h xs (λ y m. each y (Memᴰ.tail m)))

pub joined_more : {B : Type 0} (f : ℕ → List B) (n : ℕ) → joined_over f (below (n + 1)) ≡ joined_over f (below n) ++ f n
joined_more f n = rw (below_more n) (joined_last f (below n) n)

module _ {B : Type 0} (R : B → B → Type 0) where
  pairwise_append : {xs ys : List B} → Pairwise R xs → Pairwise R ys → ((x y : B) → Memᴰ x xs → Memᴰ y ys → R x y) →
      Pairwise R (xs ++ ys)
  pairwise_append nothing q h = q
  pairwise_append (then {x} {xs} k p) q h =
      then (λ y m. ⊎_elim (k y) (h x y (Memᴰ.head refl)) (Memᴰ.append_cases xs m))
      (pairwise_append p q (λ a b m. h a b (Memᴰ.tail m)))

  module _ {A : Type 0} where
    pub pairwise_joined : (f : A → List B) {xs : List A} → ((x : A) → Memᴰ x xs → Pairwise R (f x)) →
        Pairwise (λ x y. (a b : B) → Memᴰ a (f x) → Memᴰ b (f y) → R a b) xs → Pairwise R (joined_over f xs)
    unfolding joined_over
    pairwise_joined f each nothing = nothing
    pairwise_joined f each (then {x} {xs} h p) =
        pairwise_append (each x (Memᴰ.head refl)) (pairwise_joined f (λ y m. each y (Memᴰ.tail m)) p)
        (λ a b m k. let (y, l, o) = mem_joined f xs k in h y l a b m o)

    -- what f makes of the elements
    pub pairwise_over : (f : A → B) {xs : List A} → Pairwise (λ x y. R (f x) (f y)) xs → Pairwise R (map f xs)
    pairwise_over f nothing = nothing
    pairwise_over f (then {x} {xs} h p) =
        then (λ b m. let (y, k, e) = Memᴰ.of_map f xs m in subst (R (f x)) e (h y k)) (pairwise_over f p)
