-- How often a number stands among others, and what this tells of whether they differ.
-- Assumes nothing.
use Prim.Native.Nat.{ℕ, suc, ◌+◌, ◌-◌, ◌≤◌, ◌<◌}
use mathlib.Core.Bool.{Bool, true, false, cond, not, ◌||◌}
use mathlib.Core.List.{List, [], ◌∷◌, ◌++◌}
use mathlib.Core.Logic.{◌⊎◌, inl, inr}
use mathlib.Core.Path.{◌≡◌, refl, ap, sym, ◌∙◌, subst}
use native.Mathlib.Omega.{arith}
use borrow.Author.Tests.{eq-eqb, lt-ltb, le-ltb, ltb-false}
use lib.Dec.{T, eqb, ltb, eqb→eq}
use lib.ListN.{length, get_or, take, drop}
use lib.Seq.{take-add, drop-cons}
use Rattle.network.specs.Lists.{keep, any, member, distinct}
use Rattle.network.proofs.Tests.{truth, as_true, as_false}

module _ {A : Type 0} (f : A → Bool) where
  kept_append : (xs ys : List A) → length (keep f (xs ++ ys)) ≡ length (keep f xs) + length (keep f ys)
  kept_append [] ys = omega arith
  kept_append (x ∷ xs) ys = step (f x) (kept_append xs ys)
    where
      step : (b : Bool) → length (keep f (xs ++ ys)) ≡ length (keep f xs) + length (keep f ys) →
          length (cond b (x ∷ keep f (xs ++ ys)) (keep f (xs ++ ys))) ≡ length (cond b (x ∷ keep f xs) (keep f xs)) + length (keep f ys)
      step true e = omega arith
      step false e = e

  any_kept : (xs : List A) → any f xs ≡ ltb 0 (length (keep f xs))
  any_kept [] = refl
  any_kept (x ∷ xs) = step (f x) (any_kept xs)
    where
      step : (b : Bool) → any f xs ≡ ltb 0 (length (keep f xs)) → (b || any f xs) ≡ ltb 0 (length (cond b (x ∷ keep f xs) (keep f xs)))
      step true e = sym (lt-ltb 0 (suc (length (keep f xs))) (omega arith))
      step false e = e

abbrev times : ℕ → List ℕ → ℕ
times u us = length (keep (eqb u) us)

first_new : (a b : Bool) → cond a false b ≡ true → (a ≡ false) × (b ≡ true)
first_new true b e = absurd (subst T (sym e) tt)
first_new false b e = (refl, e)

-- where all differ, each stands once
differ_once : (us : List ℕ) (u : ℕ) → distinct us ≡ true → member u us ≡ true → times u us ≡ 1
unfolding distinct member
differ_once [] u d m = absurd (subst T (sym m) tt)
differ_once (v ∷ us) u d m =
    let (new, rest) = first_new (member v us) (distinct us) d in
    step new (truth (eqb u v)) (λ o. differ_once us u rest (rw (as_false (eqb u v) o) at m))
  where
    step : any (eqb v) us ≡ false → T (eqb u v) ⊎ (T (eqb u v) → ⊥) → ((T (eqb u v) → ⊥) → times u us ≡ 1) →
        length (cond (eqb u v) (v ∷ keep (eqb u) us) (keep (eqb u) us)) ≡ 1
    step new (inl t) later =
        let q : any (eqb u) us ≡ false = rw (eqb→eq u v t) new in
        rw (as_true (eqb u v) t) (omega (arith, ltb-false 0 (times u us) (sym (any_kept (eqb u) us) ∙ q)))
    step new (inr o) later = rw (as_false (eqb u v) o) (later o)

-- The number at i, counted among the first e: if it stands there once, it is not among those before it, and if not, the first e do not differ.
module _ (us : List ℕ) {i e : ℕ} (h : i < e) (long : e ≤ length us) where
  here : take e us ≡ take i us ++ (get_or us i 0 ∷ take (e - suc i) (drop (suc i) us))
  here =
      let q : e ≡ i + suc (e - suc i) = omega arith in
      ap (λ (k : ℕ). take k us) q ∙ take-add i (suc (e - suc i)) us ∙ rw (drop-cons us i 0 (omega arith))

  itself : let u = get_or us i 0 in times u (take e us) ≡ times u (take i us) + suc (times u (take (e - suc i) (drop (suc i) us)))
  itself = rw (here, kept_append, eq-eqb (get_or us i 0) (get_or us i 0) refl)

  pub once_new : times (get_or us i 0) (take e us) ≡ 1 → not (member (get_or us i 0) (take i us)) ≡ true
  unfolding member
  once_new c =
      let u = get_or us i 0 in
      ap not (any_kept (eqb u) (take i us) ∙ le-ltb 0 (times u (take i us)) (omega (arith, itself)))

  pub not_once : (times (get_or us i 0) (take e us) ≡ 1 → ⊥) → distinct (take e us) ≡ false
  unfolding member
  not_once o =
      let u = get_or us i 0 in
      let among = any_kept (eqb u) (take e us) ∙ lt-ltb 0 (times u (take e us)) (omega (arith, itself)) in
      as_false (distinct (take e us)) (λ d. o (differ_once (take e us) u (as_true _ d) among))
