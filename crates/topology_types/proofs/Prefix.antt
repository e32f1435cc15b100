-- A loop that passes over a list knows what its prefix gives, and one turn adds an element at the end: what a test over the list makes of that
-- element.
-- Assumes nothing.
use Prim.Native.Nat.{ℕ, ◌+◌, ◌<◌}
use mathlib.Core.Bool.{Bool, true, false, cond, not, ◌&&◌, ◌||◌, and_comm, and-false}
use mathlib.Core.List.{List, [], ◌∷◌, ◌++◌, map, map-append}
use mathlib.Core.Path.{◌≡◌, refl, ap, sym}
use native.Mathlib.Numerals.{add-one}
use lib.Dec.{T, eqb, eqb→eq}
use lib.ListN.{length, take, get_or}
use lib.Seq.{take-suc}
use Rattle.network.specs.Lists.{any, every, member, distinct}
use Rattle.network.specs.Network.{Link, same_pair, pairs_differ}
use Rattle.network.proofs.Tests.{eq_test}

module _ {A : Type 0} where
  -- one element more
  pub take_more : (xs : List A) (i : ℕ) (z : A) → i < length xs → take (i + 1) xs ≡ take i xs ++ (get_or xs i z ∷ [])
  take_more xs i z h = rw (add-one) (take-suc xs i z h)

  -- the same of what a function makes of the elements
  pub map_more : {B : Type 0} (f : A → B) (xs : List A) (i : ℕ) (z : A) → i < length xs →
      map f (take (i + 1) xs) ≡ map f (take i xs) ++ (f (get_or xs i z) ∷ [])
  map_more f xs i z h = rw (take_more xs i z h) (map-append f (take i xs) (get_or xs i z ∷ []))

or_end : (b p q r : Bool) → p ≡ (q || r) → (b || p) ≡ ((b || q) || r)
or_end true p q r e = refl
or_end false p q r e = e

and_end : (b p q r : Bool) → p ≡ (q && r) → (b && p) ≡ ((b && q) && r)
and_end true p q r e = e
and_end false p q r e = refl

module _ {A : Type 0} (f : A → Bool) where
  pub any_more : (xs : List A) (x : A) → any f (xs ++ (x ∷ [])) ≡ (any f xs || f x)
  any_more [] x = last (f x)
    where
      last : (b : Bool) → (b || false) ≡ b
      last true = refl
      last false = refl
  any_more (y ∷ ys) x = or_end (f y) _ _ (f x) (any_more ys x)

  pub every_more : (xs : List A) (x : A) → every f (xs ++ (x ∷ [])) ≡ (every f xs && f x)
  every_more [] x = last (f x)
    where
      last : (b : Bool) → (b && true) ≡ b
      last true = refl
      last false = refl
  every_more (y ∷ ys) x = and_end (f y) _ _ (f x) (every_more ys x)

-- two tests that follow from each other are one
same_test : (a b : Bool) → (T a → T b) → (T b → T a) → a ≡ b
same_test true true f g = refl
same_test true false f g = absurd (f tt)
same_test false true f g = absurd (g tt)
same_test false false f g = refl

pub eqb_sym : (m n : ℕ) → eqb m n ≡ eqb n m
eqb_sym m n = same_test (eqb m n) (eqb n m) (λ t. eq_test (sym (eqb→eq m n t))) (λ t. eq_test (sym (eqb→eq n m t)))

-- No two are the same, with one more at the end: s is whether the first is the same as the last, a and b whether they are among those between, d
-- whether those between differ; p and q are a and d with the last among those between.
none_end : (a s s' d b p q : Bool) → s ≡ s' → p ≡ (a || s) → q ≡ (d && not b) → (not p && q) ≡ ((not a && d) && not (s' || b))
none_end true s s' d b p q h hp hq = rw hp
none_end false true s' d b p q h hp hq = rw (hp, ← h) (sym (and-false d))
none_end false false s' d b p q h hp hq = rw (hp, ← h, hq)

-- the same as a choice, as `distinct` has it
chosen : (p q : Bool) → cond p false q ≡ (not p && q)
chosen true q = refl
chosen false q = refl

-- an ID more: none of those before is the same
pub distinct_more : (us : List ℕ) (u : ℕ) → distinct (us ++ (u ∷ [])) ≡ (distinct us && not (member u us))
unfolding distinct member
distinct_more [] u = refl
distinct_more (v ∷ us) u =
    simp chosen
    (none_end (member v us) (eqb v u) (eqb u v) (distinct us) (member u us) _ _ (eqb_sym v u) (any_more (eqb v) us u) (distinct_more us u))

pub pair_sym : (l k : Link) → same_pair l k ≡ same_pair k l
unfolding same_pair
pair_sym l k =
    rw (eqb_sym l.first k.first, eqb_sym l.second k.second, eqb_sym l.first k.second, eqb_sym l.second k.first)
    (ap (λ (b : Bool). (eqb k.first l.first && eqb k.second l.second) || b)
    (and_comm (eqb k.second l.first) (eqb k.first l.second)))

-- a link more: none of those before joins the same pair
pub pairs_more : (ls : List Link) (l : Link) → pairs_differ (ls ++ (l ∷ [])) ≡ (pairs_differ ls && not (any (same_pair l) ls))
unfolding pairs_differ
pairs_more [] l = refl
pairs_more (k ∷ ls) l =
    none_end (any (same_pair k) ls) (same_pair k l) (same_pair l k) (pairs_differ ls) (any (same_pair l) ls) _ _ (pair_sym k l)
    (any_more (same_pair k) ls l) (pairs_more ls l)
