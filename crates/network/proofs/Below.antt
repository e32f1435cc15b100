-- The numbers below n, one after the other: each law is proved for a run that begins anywhere, by induction on how many there are.
-- Assumes nothing.
use Prim.Native.Nat.{ℕ, zero, suc, ◌+◌, ◌≤◌, ◌<◌}
use mathlib.Core.List.Memᴰ
use mathlib.Core.List.{Memᴰ, map}
use mathlib.Core.Logic.{◌⊎◌, inl, inr}
use mathlib.Core.Path.{◌≡◌, refl, sym, ◌∙◌, ap}
use native.Mathlib.Nat.{zero-add, add-zero, not-suc-le-zero, le_of_suc-le-suc}
use native.Mathlib.Omega.{arith}
use lib.ListN.{length, get_or, length-map, get_or-eq_default}
use Rattle.network.specs.Lists.{numbers_from, below, nothing, then, Distinct}

length_from : (s n : ℕ) → length (numbers_from s n) ≡ n
unfolding numbers_from
length_from s zero = refl
length_from s (suc n) = ap suc (length_from (suc s) n)

pub from_bounds : (s n : ℕ) {u : ℕ} → Memᴰ u (numbers_from s n) → (s ≤ u) × (u < s + n)
unfolding numbers_from
from_bounds s zero m = absurd (Memᴰ.not-nil m)
from_bounds s (suc n) {u} m = step (Memᴰ.cases_cons m) (from_bounds (suc s) n)
  where
    step : (u ≡ s) ⊎ Memᴰ u (numbers_from (suc s) n) → (Memᴰ u (numbers_from (suc s) n) → (suc s ≤ u) × (u < suc s + n)) → (s ≤ u) × (u < s + suc n)
    step (inl e) rest = omega arith
    step (inr m) rest = omega (arith, rest m)

mem_from : (s n u : ℕ) → u < n → Memᴰ (s + u) (numbers_from s n)
unfolding numbers_from
mem_from s zero u h = absurd (not-suc-le-zero h)
mem_from s (suc n) zero h = Memᴰ.head (add-zero s)
mem_from s (suc n) (suc u) h = Memᴰ.tail (Memᴰ.cast (omega arith) (mem_from (suc s) n u (le_of_suc-le-suc h)))

get_d_from : {A : Type 0} (f : ℕ → A) (s n u : ℕ) (z : A) → u < n → get_or (map f (numbers_from s n)) u z ≡ f (s + u)
unfolding numbers_from
get_d_from f s zero u z h = absurd (not-suc-le-zero h)
get_d_from f s (suc n) zero z h = rw add-zero
get_d_from f s (suc n) (suc u) z h = get_d_from f (suc s) n u z (le_of_suc-le-suc h) ∙ ap f (omega arith)

from_distinct : (s n : ℕ) → Distinct (numbers_from s n)
unfolding numbers_from
from_distinct s zero = nothing
from_distinct s (suc n) = then (λ y (m : Memᴰ y (numbers_from (suc s) n)) (e : s ≡ y). omega (arith, from_bounds (suc s) n m)) (from_distinct (suc s) n)

pub below_distinct : (n : ℕ) → Distinct (below n)
unfolding below
below_distinct = from_distinct 0

pub length_below : (n : ℕ) → length (below n) ≡ n
unfolding below
length_below = length_from 0

pub mem_below : {u n : ℕ} → u < n → Memᴰ u (below n)
unfolding below
mem_below {u} {n} h = Memᴰ.cast (sym (zero-add u)) (mem_from 0 n u h)

pub below_lt : (n : ℕ) {u : ℕ} → Memᴰ u (below n) → u < n
unfolding below
below_lt n m = omega (arith, from_bounds 0 n m)

-- what f gives at u is at place u of what it gives over the numbers below n, and past them there is nothing
pub get_d_below : {A : Type 0} (f : ℕ → A) (n u : ℕ) (z : A) → u < n → get_or (map f (below n)) u z ≡ f u
unfolding below
get_d_below f n u z h = get_d_from f 0 n u z h ∙ ap f (zero-add u)

pub length_map_below : {A : Type 0} (f : ℕ → A) (n : ℕ) → length (map f (below n)) ≡ n
length_map_below f n = length-map (below n) f ∙ length_below n

pub get_d_past : {A : Type 0} (f : ℕ → A) (n u : ℕ) (z : A) → n ≤ u → get_or (map f (below n)) u z ≡ z
get_d_past f n u z h = get_or-eq_default (map f (below n)) z (omega (arith, length_map_below f n))
