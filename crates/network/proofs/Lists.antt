-- What stands in a list that was kept or cut, and tests over a list as facts of its elements, by recursion on the list.
-- Assumes nothing.
use Prim.Native.Nat.{ℕ, zero, suc}
use mathlib.Core.Bool.{Bool, true, false, cond, ◌&&◌}
use mathlib.Core.List.Memᴰ
use mathlib.Core.List.{List, [], ◌∷◌, ◌++◌, Memᴰ}
use mathlib.Core.List.{map}
use mathlib.Core.Logic.{◌⊎◌, inl, inr, ⊎_elim}
use mathlib.Core.Path.{◌≡◌, refl, sym, ap, subst}
use lib.Dec.{T, eqb, eqb→eq, eqb_refl}
use lib.ListN.{take}
use Rattle.network.specs.Lists.{keep, every, any, member, distinct, Pairwise, nothing, then, Distinct}
use Rattle.network.proofs.Tests.{both, and, either, or_left, or_right, truth}

module _ {A : Type 0} where
  -- a head that is there only if a test passes
  kept : (b : Bool) {x y : A} {ys : List A} → Memᴰ y (cond b (x ∷ ys) ys) → ((y ≡ x) × T b) ⊎ Memᴰ y ys
  kept true m = ⊎_elim (λ e. inl (e, tt)) (λ m'. inr m') (Memᴰ.cases_cons m)
  kept false m = inr m

  keep_head : (b : Bool) {x y : A} (ys : List A) → T b → y ≡ x → Memᴰ y (cond b (x ∷ ys) ys)
  keep_head true ys t e = Memᴰ.head e
  keep_head false ys t e = absurd t

  keep_tail : (b : Bool) (x : A) {y : A} {ys : List A} → Memᴰ y ys → Memᴰ y (cond b (x ∷ ys) ys)
  keep_tail true x m = Memᴰ.tail m
  keep_tail false x m = m

  pub mem_keep : (f : A → Bool) (xs : List A) {y : A} → Memᴰ y (keep f xs) → Memᴰ y xs × T (f y)
  mem_keep f [] m = absurd (Memᴰ.not-nil m)
  mem_keep f (x ∷ xs) m =
      ⊎_elim (λ h. (Memᴰ.head h.0, subst (λ (z : A). T (f z)) (sym h.0) h.1))
      (λ m'. let (k, t) = mem_keep f xs m' in (Memᴰ.tail k, t)) (kept (f x) m)

  pub keep_mem : (f : A → Bool) (xs : List A) {y : A} → Memᴰ y xs → T (f y) → Memᴰ y (keep f xs)
  keep_mem f [] m t = absurd (Memᴰ.not-nil m)
  keep_mem f (x ∷ xs) m t =
      ⊎_elim (λ e. keep_head (f x) (keep f xs) (subst (λ (z : A). T (f z)) e t) e) (λ m'. keep_tail (f x) x (keep_mem f xs m' t))
      (Memᴰ.cases_cons m)

  pub mem_take : (k : ℕ) (xs : List A) {y : A} → Memᴰ y (take k xs) → Memᴰ y xs
  mem_take zero xs m = absurd (Memᴰ.not-nil m)
  mem_take (suc k) [] m = absurd (Memᴰ.not-nil m)
  mem_take (suc k) (x ∷ xs) m = ⊎_elim (λ e. Memᴰ.head e) (λ m'. Memᴰ.tail (mem_take k xs m')) (Memᴰ.cases_cons m)

  -- a list in which nothing stands
  pub empty : (xs : List A) → ((x : A) → Memᴰ x xs → ⊥) → xs ≡ []
  empty [] h = refl
  empty (x ∷ xs) h = absurd (h x (Memᴰ.head refl))

  -- a list from an element that stands in it on, and what stands before
  pub split : {u : A} {xs : List A} → Memᴰ u xs → (before after : List A) × (xs ≡ before ++ (u ∷ after))
  split (Memᴰ.head {xs} e) = ([], xs, ap (λ (v : A). v ∷ xs) (sym e))
  split (Memᴰ.tail {x} m) = let (before, after, e) = split m in (x ∷ before, after, ap (λ (l : List A). x ∷ l) e)

  pub every_all : (f : A → Bool) (xs : List A) → T (every f xs) → (y : A) → Memᴰ y xs → T (f y)
  every_all f [] t y m = absurd (Memᴰ.not-nil m)
  every_all f (x ∷ xs) t y m =
      let (s, r) = both (f x) (every f xs) t in
      ⊎_elim (λ e. subst (λ (z : A). T (f z)) (sym e) s) (λ m'. every_all f xs r y m') (Memᴰ.cases_cons m)

  pub all_every : (f : A → Bool) (xs : List A) → ((y : A) → Memᴰ y xs → T (f y)) → T (every f xs)
  all_every f [] h = tt
  all_every f (x ∷ xs) h = and (f x) (every f xs) (h x (Memᴰ.head refl)) (all_every f xs (λ y m. h y (Memᴰ.tail m)))

  -- all pass, or some element does not
  pub every_or : (f : A → Bool) (xs : List A) → T (every f xs) ⊎ ((y : A) × Memᴰ y xs × (T (f y) → ⊥))
  every_or f [] = inl tt
  every_or f (x ∷ xs) = step (truth (f x)) (every_or f xs)
    where
      step : T (f x) ⊎ (T (f x) → ⊥) → T (every f xs) ⊎ ((y : A) × Memᴰ y xs × (T (f y) → ⊥)) →
          T (f x && every f xs) ⊎ ((y : A) × Memᴰ y (x ∷ xs) × (T (f y) → ⊥))
      step (inr no') r = inr (x, Memᴰ.head refl, no')
      step (inl t) (inl r) = inl (and (f x) (every f xs) t r)
      step (inl t) (inr (y, m, no')) = inr (y, Memᴰ.tail m, no')

  pub any_some : (f : A → Bool) (xs : List A) → T (any f xs) → (y : A) × Memᴰ y xs × T (f y)
  any_some f [] t = absurd t
  any_some f (x ∷ xs) t =
      ⊎_elim (λ s. (x, Memᴰ.head refl, s)) (λ r. let (y, m, s) = any_some f xs r in (y, Memᴰ.tail m, s)) (either (f x) (any f xs) t)

  pub some_any : (f : A → Bool) (xs : List A) {y : A} → Memᴰ y xs → T (f y) → T (any f xs)
  some_any f [] m t = absurd (Memᴰ.not-nil m)
  some_any f (x ∷ xs) m t =
      ⊎_elim (λ e. or_left (f x) (any f xs) (subst (λ (z : A). T (f z)) e t)) (λ m'. or_right (f x) (any f xs) (some_any f xs m' t))
      (Memᴰ.cases_cons m)

  module _ {R : A → A → Type 0} where
    -- what holds of each two elements holds of each two that are kept, and of each two of the first k
    pub pairwise_keep : (f : A → Bool) {xs : List A} → Pairwise R xs → Pairwise R (keep f xs)
    pairwise_keep f nothing = nothing
    pairwise_keep f (then {x} {xs} h p) = step (f x) (pairwise_keep f p)
      where
        step : (b : Bool) → Pairwise R (keep f xs) → Pairwise R (cond b (x ∷ keep f xs) (keep f xs))
        step true q = then (λ y m. h y (mem_keep f xs m).0) q
        step false q = q

    pub pairwise_take : (k : ℕ) {xs : List A} → Pairwise R xs → Pairwise R (take k xs)
    pairwise_take zero p = nothing
    pairwise_take (suc k) nothing = nothing
    pairwise_take (suc k) (then {x} {xs} h p) = then (λ y m. h y (mem_take k xs m)) (pairwise_take k p)

    -- and of each two of two lists together, if it holds of each one of the first and each one of the second
    pub pairwise_append : {xs ys : List A} → Pairwise R xs → Pairwise R ys → ((x y : A) → Memᴰ x xs → Memᴰ y ys → R x y) → Pairwise R (xs ++ ys)
    pairwise_append nothing q h = q
    pairwise_append (then {x} {xs} k p) q h =
        then (λ y m. ⊎_elim (k y) (h x y (Memᴰ.head refl)) (Memᴰ.append_cases xs m))
        (pairwise_append p q (λ z y m. h z y (Memᴰ.tail m)))

    pub pairwise_split : (before : List A) (u : A) (after : List A) → Pairwise R (before ++ (u ∷ after)) → (v : A) → Memᴰ v before → R v u
    pairwise_split [] u after p v m = absurd (Memᴰ.not-nil m)
    pairwise_split (w ∷ before) u after (then h p) v m =
        ⊎_elim (λ e. subst (λ (x : A). R x u) (sym e) (h u (Memᴰ.append_right before (Memᴰ.head refl)))) (pairwise_split before u after p v)
        (Memᴰ.cases_cons m)

-- what holds of each two elements as a function gives them holds of each two that it gives
pub pairwise_over : {A B : Type 0} {R : B → B → Type 0} (g : A → B) {xs : List A} → Pairwise (λ x y. R (g x) (g y)) xs → Pairwise R (map g xs)
pairwise_over g nothing = nothing
pairwise_over {R} g (then {x} {xs} h p) = then (λ y m. let (z, k, e) = Memᴰ.of_map g xs m in subst (R (g x)) e (h z k)) (pairwise_over g p)

pub member_mem : (u : ℕ) (us : List ℕ) → T (member u us) → Memᴰ u us
unfolding member
member_mem u us t =
    let (v, m, s) = any_some (eqb u) us t in
    subst (λ (z : ℕ). Memᴰ z us) (sym (eqb→eq u v s)) m

pub mem_member : (u : ℕ) (us : List ℕ) → Memᴰ u us → T (member u us)
unfolding member
mem_member u us m = some_any (eqb u) us m (eqb_refl u)

pub distinct_fact : (us : List ℕ) → T (distinct us) → Distinct us
unfolding distinct
distinct_fact [] t = nothing
distinct_fact (u ∷ us) t = step (member u us) refl (λ s. distinct_fact us s) t
  where
    step : (b : Bool) → member u us ≡ b → (T (distinct us) → Distinct us) → T (cond b false (distinct us)) → Distinct (u ∷ us)
    step true e below t' = absurd t'
    step false e below t' = then (λ v m e'. subst T e (mem_member u us (Memᴰ.cast e' m))) (below t')

pub fact_distinct : {us : List ℕ} → Distinct us → T (distinct us)
unfolding distinct
fact_distinct nothing = tt
fact_distinct (then {x = u} {xs = us} h p) = step (member u us) refl (fact_distinct p)
  where
    step : (b : Bool) → member u us ≡ b → T (distinct us) → T (cond b false (distinct us))
    step true e t = absurd (h u (member_mem u us (subst T (sym e) tt)) refl)
    step false e t = t
