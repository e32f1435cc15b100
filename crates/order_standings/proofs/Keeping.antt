-- What a test keeps of a list, and how many: none, at most one, as many as two tests that exclude each other keep. By recursion on the list.
-- Assumes nothing.
use Prim.Native.Nat.{ℕ, ◌+◌, ◌≤◌, zero-le}
use mathlib.Core.Bool.{Bool, true, false, cond, not, ◌&&◌, ◌||◌, or-false, or_assoc}
use mathlib.Core.List.{List, [], ◌∷◌, ◌++◌, Memᴰ, map}
use mathlib.Core.Logic.{◌⊎◌, inl, inr, ⊎_elim}
use mathlib.Core.Path.{◌≡◌, refl, sym, ◌∙◌, ap, subst}
use native.Mathlib.Nat.{le_refl}
use native.Mathlib.Omega.{arith}
use borrow.Author.Tests.{lt-ltb}
use lib.Dec.{T, eqb, ltb, eqb-suc-zero}
use lib.ListN.{length}
use Rattle.network.specs.Lists.{keep, every, any, member, Pairwise, nothing, then}
use Rattle.network.proofs.Lists.{mem_keep, keep_mem, empty}

-- what an element counts that passes a test or not
abbrev pub once : Bool → ℕ
once b = cond b 1 0

module _ {A : Type 0} where
  -- tests that agree on the elements keep the same
  pub keep_same : (f g : A → Bool) (xs : List A) → ((x : A) → Memᴰ x xs → f x ≡ g x) → keep f xs ≡ keep g xs
  keep_same f g [] h = refl
  keep_same f g (x ∷ xs) h = rw (h x (Memᴰ.head refl), keep_same f g xs (λ y m. h y (Memᴰ.tail m)))

  pub keep_all : (f : A → Bool) (xs : List A) → ((x : A) → f x ≡ true) → keep f xs ≡ xs
  keep_all f [] h = refl
  keep_all f (x ∷ xs) h = rw (h x, keep_all f xs h)

  pub keep_keep : (f g : A → Bool) (xs : List A) → keep f (keep g xs) ≡ keep (λ x. g x && f x) xs
  keep_keep f g [] = refl
  keep_keep f g (x ∷ xs) = step (g x) (keep_keep f g xs)
    where
      step : (b : Bool) → keep f (keep g xs) ≡ keep (λ y. g y && f y) xs →
          keep f (cond b (x ∷ keep g xs) (keep g xs)) ≡ cond (b && f x) (x ∷ keep (λ y. g y && f y) xs) (keep (λ y. g y && f y) xs)
      step true e = rw e
      step false e = e

  kept_one : (f : A → Bool) (x : A) (xs : List A) → length (keep f (x ∷ xs)) ≡ once (f x) + length (keep f xs)
  kept_one f x xs = step (f x)
    where
      step : (b : Bool) → length (cond b (x ∷ keep f xs) (keep f xs)) ≡ once b + length (keep f xs)
      step true = omega arith
      step false = omega arith

  -- where those that pass f are those that pass g and those that pass h, and none passes both
  pub kept_sum : (f g h : A → Bool) (xs : List A) → ((x : A) → once (f x) ≡ once (g x) + once (h x)) →
      length (keep f xs) ≡ length (keep g xs) + length (keep h xs)
  kept_sum f g h [] e = refl
  kept_sum f g h (x ∷ xs) e = omega (arith, kept_one f x xs, kept_one g x xs, kept_one h x xs, e x, kept_sum f g h xs e)

  pub kept_most : (f : A → Bool) (xs : List A) → length (keep f xs) ≤ length xs
  kept_most f [] = zero-le
  kept_most f (x ∷ xs) = step (f x) (kept_most f xs)
    where
      step : (b : Bool) → length (keep f xs) ≤ length xs → length (cond b (x ∷ keep f xs) (keep f xs)) ≤ length (x ∷ xs)
      step true h = omega arith
      step false h = omega arith

  -- some element passes the test
  abbrev pub Found : (A → Bool) → List A → Type 0
  Found f xs = (x : A) × Memᴰ x xs × T (f x)

  found_or : (f : A → Bool) (xs : List A) → (length (keep f xs) ≡ 0) ⊎ Found f xs
  found_or f xs = go (keep f xs) refl
    where
      go : (ys : List A) → keep f xs ≡ ys → (length ys ≡ 0) ⊎ Found f xs
      go [] e = inl refl
      go (y ∷ ys) e = let (m, t) = mem_keep f xs (subst (Memᴰ y) (sym e) (Memᴰ.head refl)) in inr (y, m, t)

  pub kept_some : (f : A → Bool) (xs : List A) → 1 ≤ length (keep f xs) → Found f xs
  kept_some f xs h = ⊎_elim (λ e. absurd (omega arith)) (λ w. w) (found_or f xs)

  pub none_kept : (f : A → Bool) (xs : List A) → (Found f xs → ⊥) → length (keep f xs) ≡ 0
  none_kept f xs h = ⊎_elim (λ e. e) (λ w. absurd (h w)) (found_or f xs)

  some_kept : (f : A → Bool) (xs : List A) → Found f xs → 1 ≤ length (keep f xs)
  some_kept f xs (x, m, t) = go (keep_mem f xs m t)
    where
      go : {ys : List A} → Memᴰ x ys → 1 ≤ length ys
      go (Memᴰ.head e) = omega arith
      go (Memᴰ.tail k) = omega arith

  -- at most one is kept, where of each two elements not both pass
  one_kept : {R : A → A → Type 0} (f : A → Bool) → ((x y : A) → T (f x) → T (f y) → R x y → ⊥) → {xs : List A} → Pairwise R xs →
      length (keep f xs) ≤ 1
  one_kept f apart nothing = zero-le
  one_kept f apart (then {x} {xs} h p) = step (f x) refl (one_kept f apart p)
    where
      step : (b : Bool) → f x ≡ b → length (keep f xs) ≤ 1 → length (cond b (x ∷ keep f xs) (keep f xs)) ≤ 1
      step true e r =
          rw (empty (keep f xs) (λ y m. let (k, t) = mem_keep f xs m in apart x y (subst T (sym e) tt) t (h y k))) (le_refl 1)
      step false e r = r

  -- two lists with at most one element each to keep, where one keeps an element if the other does
  pub same_kept : {R : A → A → Type 0} (f g : A → Bool) → ((x y : A) → T (f x) → T (f y) → R x y → ⊥) → ((x y : A) → T (g x) → T (g y) → R x y → ⊥) →
      {xs ys : List A} → Pairwise R xs → Pairwise R ys → (Found f xs → Found g ys) → (Found g ys → Found f xs) →
      length (keep f xs) ≡ length (keep g ys)
  same_kept f g f-apart g-apart {xs} {ys} p q to from = step (found_or f xs) (found_or g ys)
    where
      step : (length (keep f xs) ≡ 0) ⊎ Found f xs → (length (keep g ys) ≡ 0) ⊎ Found g ys → length (keep f xs) ≡ length (keep g ys)
      step (inl e) (inl e') = omega arith
      step (inl e) (inr w) = absurd (omega (arith, some_kept f xs (from w)))
      step (inr w) r = omega (arith, some_kept f xs w, some_kept g ys (to w), one_kept f f-apart p, one_kept g g-apart q)

  any_snoc : (f : A → Bool) (xs : List A) (y : A) → any f (xs ++ (y ∷ [])) ≡ (any f xs || f y)
  any_snoc f [] y = or-false (f y)
  any_snoc f (x ∷ xs) y = ap (λ (b : Bool). f x || b) (any_snoc f xs y) ∙ sym (or_assoc (f x) (any f xs) (f y))

  -- there is none that fails just if every element passes, and one that passes just if some element does
  pub every_kept : (f : A → Bool) (xs : List A) → eqb (length (keep (λ x. not (f x)) xs)) 0 ≡ every f xs
  every_kept f [] = refl
  every_kept f (x ∷ xs) = step (f x) (every_kept f xs)
    where
      step : (b : Bool) → eqb (length (keep (λ y. not (f y)) xs)) 0 ≡ every f xs →
          eqb (length (cond (not b) (x ∷ keep (λ y. not (f y)) xs) (keep (λ y. not (f y)) xs))) 0 ≡ (b && every f xs)
      step true e = e
      step false e = eqb-suc-zero (length (keep (λ y. not (f y)) xs))

  pub any_kept : (f : A → Bool) (xs : List A) → ltb 0 (length (keep f xs)) ≡ any f xs
  any_kept f [] = refl
  any_kept f (x ∷ xs) = step (f x) (any_kept f xs)
    where
      step : (b : Bool) → ltb 0 (length (keep f xs)) ≡ any f xs → ltb 0 (length (cond b (x ∷ keep f xs) (keep f xs))) ≡ (b || any f xs)
      step true e = lt-ltb 0 (length (x ∷ keep f xs)) (omega arith)
      step false e = e

pub keep_map : {A B : Type 0} (f : B → Bool) (g : A → B) (xs : List A) → length (keep f (map g xs)) ≡ length (keep (λ x. f (g x)) xs)
keep_map f g [] = refl
keep_map f g (x ∷ xs) = step (f (g x)) (keep_map f g xs)
  where
    step : (b : Bool) → length (keep f (map g xs)) ≡ length (keep (λ y. f (g y)) xs) →
        length (cond b (g x ∷ keep f (map g xs)) (keep f (map g xs))) ≡ length (cond b (x ∷ keep (λ y. f (g y)) xs) (keep (λ y. f (g y)) xs))
    step true e = omega arith
    step false e = e

pub member_snoc : (u : ℕ) (us : List ℕ) (p : ℕ) → member u (us ++ (p ∷ [])) ≡ (member u us || eqb u p)
unfolding member
member_snoc u us p = any_snoc (eqb u) us p
