-- Different elements that all stand in ys are no more than ys has: each in turn is taken out of ys, which leaves room for the others.
-- Assumes nothing.
use Prim.Native.Nat.{ℕ, suc, ◌≤◌, ◌<◌, zero-le, suc-le-suc}
use mathlib.Core.List.Memᴰ
use mathlib.Core.List.{List, [], ◌∷◌, ◌++◌, Memᴰ}
use mathlib.Core.Logic.{◌≢◌, ⊎_elim}
use mathlib.Core.Path.{◌≡◌, refl, sym, ◌∙◌, ap}
use native.Mathlib.Decide.{ℕ_discrete}
use native.Mathlib.Omega.{arith}
use lib.ListN.{length}
use Rattle.network.specs.Lists.{nothing, then, Distinct, below}
use Rattle.network.proofs.Below.{length_below, mem_below}

module _ {A : Type 0} where
  -- x taken out of ys: one element less, and every other is still there
  taken_out : {x : A} {ys : List A} → Memᴰ x ys
      → (zs : List A) × (length ys ≡ suc (length zs)) × ((y : A) → x ≢ y → Memᴰ y ys → Memᴰ y zs)
  taken_out (Memᴰ.head {xs = ys} e) = (ys, refl, λ y ne m. ⊎_elim (λ h. absurd (ne (e ∙ sym h))) (λ m'. m') (Memᴰ.cases_cons m))
  taken_out (Memᴰ.tail {x = z} m) =
      let r = taken_out m in (z ∷ r.0, ap suc r.1, λ y ne m'. ⊎_elim Memᴰ.head (λ m''. Memᴰ.tail (r.2 y ne m'')) (Memᴰ.cases_cons m'))

  pub no_longer : {xs : List A} (ys : List A) → Distinct xs → ((x : A) → Memᴰ x xs → Memᴰ x ys) → length xs ≤ length ys
  no_longer ys nothing h = zero-le
  no_longer ys (then {x = x} ne dist) h =
      let r = taken_out (h x (Memᴰ.head refl)) in
      rw r.1 (suc-le-suc (no_longer r.0 dist (λ y m. r.2 y (ne y m) (h y (Memᴰ.tail m)))))

  -- one more can be put behind different elements if it is not among them
  pub distinct_snoc : {xs : List A} {u : A} → Distinct xs → (Memᴰ u xs → ⊥) → Distinct (xs ++ (u ∷ []))
  distinct_snoc nothing out = then (λ y m. absurd (Memᴰ.not-nil m)) nothing
  distinct_snoc (then {x} {xs} ne dist) out =
      then (λ y m e. ⊎_elim (λ k. ne y k e) (λ k. out (Memᴰ.head (sym (e ∙ Memᴰ.eq_of_singleton k)))) (Memᴰ.append_cases xs m))
      (distinct_snoc dist (λ k. out (Memᴰ.tail k)))

-- a list of different numbers below n has at most n elements
pub at_most : (n : ℕ) (xs : List ℕ) → Distinct xs → ((x : ℕ) → Memᴰ x xs → x < n) → length xs ≤ n
at_most n xs dist h = rw length_below at (no_longer (below n) dist (λ x m. mem_below (h x m)))

pub member? : (u : ℕ) (xs : List ℕ) → Dec (Memᴰ u xs)
member? u [] = no Memᴰ.not-nil
member? u (x ∷ xs) = step (ℕ_discrete u x) (member? u xs)
  where
    step : Dec (u ≡ x) → Dec (Memᴰ u xs) → Dec (Memᴰ u (x ∷ xs))
    step (yes e) rest = yes (Memᴰ.head e)
    step (no ne) (yes m) = yes (Memᴰ.tail m)
    step (no ne) (no nm) = no (λ m. ⊎_elim ne nm (Memᴰ.cases_cons m))

-- one more can be put before different elements if it is not among them
pub distinct_cons : {u : ℕ} {xs : List ℕ} → (Memᴰ u xs → ⊥) → Distinct xs → Distinct (u ∷ xs)
distinct_cons nm dist = then (λ y m e. nm (Memᴰ.cast e m)) dist

-- n of them leave none of the numbers below n out
pub all_there : (n : ℕ) (xs : List ℕ) → Distinct xs → ((x : ℕ) → Memᴰ x xs → x < n) → n ≤ length xs → (u : ℕ) → u < n → Memᴰ u xs
all_there n xs dist h full u lt = step (member? u xs)
  where
    step : Dec (Memᴰ u xs) → Memᴰ u xs
    step (yes m) = m
    step (no nm) = absurd (omega (arith, at_most n (u ∷ xs) (distinct_cons nm dist) (λ x m. ⊎_elim (λ e. rw e lt) (h x) (Memᴰ.cases_cons m))))
