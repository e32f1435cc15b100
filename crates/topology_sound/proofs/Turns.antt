-- A loop that tests the elements of a list in turn, and stops at the first that fails or goes to the end: what the test of the whole list is then, and
-- what it is of the list so far.
-- Assumes nothing.
use Prim.Native.Nat.{ℕ, ◌+◌, ◌-◌, ◌≤◌, ◌<◌}
use mathlib.Core.Bool.{Bool, true, false, not, ◌&&◌, and-false}
use mathlib.Core.List.{List, [], ◌∷◌, ◌++◌, append-nil}
use mathlib.Core.Path.{◌≡◌, refl, sym}
use native.Mathlib.Omega.{arith}
use lib.ListN.{length, take, drop, get_or}
use lib.Seq.{append_snoc, take-add}
use Rattle.network.specs.Lists.{member, distinct}
use Rattle.topology_types.proofs.Prefix.{take_more, distinct_more}

-- a test of a list that asks something of each element, given those before it
pub record Growing {A : Type 0} (P : List A → Bool) (asks : List A → A → Bool) : Type 0 where
  pub none : P [] ≡ true
  pub more : (xs : List A) (x : A) → P (xs ++ (x ∷ [])) ≡ (P xs && asks xs x)

-- the test of the first n elements: i of them have passed
pub record Passing {A : Type 0} (P : List A → Bool) (xs : List A) (n i : ℕ) : Type 0 where
  pub within : i ≤ n
  pub long : n ≤ length xs
  pub so_far : P (take i xs) ≡ true

longer : {A : Type 0} {P : List A → Bool} {asks : List A → A → Bool} → Growing P asks → (xs ys : List A) → P xs ≡ false → P (xs ++ ys) ≡ false
longer g xs [] e = rw append-nil e
longer g xs (y ∷ ys) e = rw (← append_snoc xs y ys) (longer g (xs ++ (y ∷ [])) ys (rw (g.more xs y, e)))

-- where some of the first n fail, these do
pub cut : {A : Type 0} {P : List A → Bool} {asks : List A → A → Bool} → Growing P asks → (xs : List A) (e n : ℕ) → e ≤ n → P (take e xs) ≡ false →
    false ≡ P (take n xs)
cut g xs e n h q =
    let s : n ≡ e + (n - e) = omega arith in
    rw (s, take-add e (n - e) xs) (sym (longer g (take e xs) (take (n - e) (drop e xs)) q))

module _ {A : Type 0} {P : List A → Bool} {asks : List A → A → Bool} (g : Growing P asks) {xs : List A} {n i : ℕ} (h : Passing P xs n i)
    (k : i < n) (z : A) where
  next : P (take (i + 1) xs) ≡ (P (take i xs) && asks (take i xs) (get_or xs i z))
  next = rw (take_more xs i z (omega (arith, h.long))) (g.more (take i xs) (get_or xs i z))

  pub passed : asks (take i xs) (get_or xs i z) ≡ true → Passing P xs n (i + 1)
  passed q = record { within = omega arith; long = h.long; so_far = rw (next, h.so_far) q }

  pub failed : asks (take i xs) (get_or xs i z) ≡ false → false ≡ P (take n xs)
  failed q = cut g xs (i + 1) n (omega arith) (rw (next, q) (and-false (P (take i xs))))

pub none_passed : {A : Type 0} {P : List A → Bool} {asks : List A → A → Bool} → Growing P asks → (xs : List A) (n : ℕ) → n ≤ length xs →
    Passing P xs n 0
none_passed g xs n h = record { within = omega arith; long = h; so_far = g.none }

pub all_passed : {A : Type 0} {P : List A → Bool} {xs : List A} {n i : ℕ} → Passing P xs n i → n ≤ i → true ≡ P (take n xs)
all_passed {n} {i} h k =
    let e : n ≡ i = omega (arith, h.within) in
    rw e (sym h.so_far)

-- the test that IDs differ asks of each that it is not among those before it
pub ids_grow : Growing distinct (λ us u. not (member u us))
unfolding distinct
ids_grow = record { none = refl; more = distinct_more }
