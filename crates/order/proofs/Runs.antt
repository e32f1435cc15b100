-- Numbers one after the other, as a loop goes through them: counting down, a turn adds the number before those that it has passed, and counting up
-- the slot after them.
-- Assumes nothing.
use Prim.Native.Nat.{ℕ, zero, suc, ◌+◌, ◌-◌, ◌≤◌, ◌<◌}
use mathlib.Core.List.{List, [], ◌∷◌, ◌++◌, map, map-append}
use mathlib.Core.Path.{◌≡◌, ap}
use native.Mathlib.Nat.{sub_self, sub-zero}
use native.Mathlib.Numerals.{add-one}
use native.Mathlib.Omega.{arith}
use lib.ListN.{length, get_or, drop, set, replicate}
use lib.Seq.{append_snoc, drop-cons, set_at}
use Rattle.network.specs.Lists.{numbers_from, below}
use Rattle.network.proofs.Below.{length_map_below}
use Rattle.arcs.proofs.Slots.{below_more}
pub use Rattle.arcs.proofs.Slots.{map_same}

-- counting down from n: none at first, and in the end all below n
pub down_none : (n : ℕ) → numbers_from n (n - n) ≡ []
unfolding numbers_from
down_none n = rw sub_self

pub down_more : (j n : ℕ) → 0 < j → j ≤ n → numbers_from (j - 1) (n - (j - 1)) ≡ (j - 1) ∷ numbers_from j (n - j)
unfolding numbers_from
down_more j n h k =
    let count : n - (j - 1) ≡ suc (n - j) = omega arith in
    let next : suc (j - 1) ≡ j = omega arith in
    rw count (ap (λ (i : ℕ). (j - 1) ∷ numbers_from i (n - j)) next)

pub down_all : (j n : ℕ) → j ≤ 0 → numbers_from j (n - j) ≡ below n
unfolding below
down_all j n h = let none : j ≡ 0 = omega arith in rw (none, sub-zero)

-- slots that take what g gives, one after the other
pub fill_more : {A : Type 0} (g : ℕ → A) (z : A) (old : List A) (u : ℕ) → u < length old →
    set (map g (below u) ++ drop u old) u (g u) ≡ map g (below (u + 1)) ++ drop (u + 1) old
fill_more g z old u h =
    rw (below_more, map-append, append_snoc, add-one, drop-cons old u z)
    (set_at (map g (below u)) (get_or old u z) (drop (suc u) old) (g u) u (length_map_below g u))

-- what is left of equal numbers
pub drop_same : (k n x : ℕ) → drop k (replicate n x) ≡ replicate (n - k) x
drop_same zero n x = rw sub-zero
drop_same (suc k) zero x = let none : 0 - suc k ≡ 0 = omega arith in rw none
drop_same (suc k) (suc n) x = let less : suc n - suc k ≡ n - k = omega arith in rw less (drop_same k n x)
