-- How many routers are not settled, by their marks: all at first, and one less with each that is settled. While there are some, one is found.
-- Assumes nothing.
use Prim.Native.Nat.{ℕ, zero, suc, ◌+◌, ◌≤◌, ◌<◌}
use mathlib.Core.Bool.{Bool, true, false, cond}
use mathlib.Core.List.{List, map-id}
use mathlib.Core.Logic.{◌≢◌}
use mathlib.Core.Path.{◌≡◌, refl}
use native.Mathlib.Decide.{ℕ_discrete}
use native.Mathlib.Omega.{arith}
use borrow.Author.Tests.{eqb-true, eq-eqb, ne_eqb}
use lib.Dec.{eqb}
use lib.ListN.{length, get_or, set}
use lib.Seq.{get_or-set_same, get_or-set_other}
use Rattle.network.specs.Lists.{below}
use Rattle.network.proofs.Below.{get_d_below}
use Rattle.distances.specs.Inner.{Open}

-- at first each mark is its place
pub below_at : (n v : ℕ) → v < n → get_or (below n) v 0 ≡ v
below_at n v h = rw map-id at (get_d_below (λ (x : ℕ). x) n v 0 h)

-- how many of the first n routers are not settled
unfoldable pub unsettled : List ℕ → ℕ → ℕ
unsettled marks zero = 0
unsettled marks (suc n) = unsettled marks n + cond (eqb (get_or marks n 0) n) 1 0

pub all_open : (marks : List ℕ) (n : ℕ) → ((v : ℕ) → v < n → Open marks v) → unsettled marks n ≡ n
unfolding unsettled
all_open marks zero free = refl
all_open marks (suc n) free =
    rw (eq-eqb _ _ (free n (omega arith))) (omega (arith, all_open marks n (λ v h. free v (omega arith))))

pub one_open : (marks : List ℕ) (n : ℕ) → 0 < unsettled marks n → (v : ℕ) × (v < n) × Open marks v
unfolding unsettled
one_open marks zero h = absurd (omega arith)
one_open marks (suc n) h = step (eqb (get_or marks n 0) n) refl h (one_open marks n)
  where
    step : (b : Bool) → eqb (get_or marks n 0) n ≡ b → 0 < unsettled marks n + cond b 1 0 → (0 < unsettled marks n → (v : ℕ) × (v < n) × Open marks v) →
        (v : ℕ) × (v < suc n) × Open marks v
    step true e k rest = (n, omega arith, eqb-true _ _ e)
    step false e k rest = let (v, l, free) = rest (omega arith) in (v, omega arith, free)

pub none_open : (marks : List ℕ) (n : ℕ) → unsettled marks n ≡ 0 → (v : ℕ) → v < n → Open marks v → ⊥
unfolding unsettled
none_open marks zero e v h free = omega arith
none_open marks (suc n) e v h free = step (ℕ_discrete n v) (λ l. none_open marks n (omega arith) v l free)
  where
    step : Dec (n ≡ v) → (v < n → ⊥) → ⊥
    step (yes same) rest = let last : Open marks n = rw same free in omega (arith, rw (eq-eqb _ _ last) at e)
    step (no apart) rest = rest (omega arith)

-- a router whose mark is no longer its place
module _ (marks : List ℕ) (u mark : ℕ) (inside : u < length marks) (free : Open marks u) (other : mark ≢ u) where
  same_before : (n : ℕ) → n ≤ u → unsettled (set marks u mark) n ≡ unsettled marks n
  unfolding unsettled
  same_before zero h = refl
  same_before (suc n) h =
      let apart : n ≢ u = λ e. omega arith in
      rw (get_or-set_other marks u n mark 0 apart, same_before n (omega arith))

  pub one_less : (n : ℕ) → u < n → unsettled (set marks u mark) n + 1 ≡ unsettled marks n
  unfolding unsettled
  one_less zero h = absurd (omega arith)
  one_less (suc n) h = step (ℕ_discrete n u) (one_less n)
    where
      step : Dec (n ≡ u) → (u < n → unsettled (set marks u mark) n + 1 ≡ unsettled marks n) → unsettled (set marks u mark) (suc n) + 1 ≡ unsettled marks (suc n)
      step (yes e) rest =
          rw (e, get_or-set_same marks u mark 0 inside, ne_eqb mark u other, eq-eqb (get_or marks u 0) u free)
          (omega (arith, same_before u (omega arith)))
      step (no apart) rest = rw (get_or-set_other marks u n mark 0 apart) (omega (arith, rest (omega arith)))
