-- The least of distances with a place behind them, a settled router after all of those: the place that it has behind it is that of the nearest router
-- that is not settled.
-- Assumes nothing.
use Prim.Native.Nat.{ℕ, ◌+◌, ◌*◌, ◌%◌, ◌≤◌, ◌<◌}
use mathlib.Core.List.{List}
use mathlib.Core.Logic.{◌⊎◌, inl, inr, ⊎_elim}
use mathlib.Core.Path.{◌≡◌}
use native.Mathlib.Decide.{dec_lt, ℕ_discrete}
use native.Mathlib.Nat.{mul-add-mod_self_right, mod-eq_of_lt}
use native.Mathlib.Omega.{arith}
use lib.ListN.{get_or}
use Rattle.std.specs.Prelude.{min}
use Rattle.distances.specs.Inner.{Open, Searched, Nearest}

-- what is compared
abbrev pub key : List ℕ → List ℕ → ℕ → ℕ
key ds marks v = get_or ds v 0 * 64 + get_or marks v 0

-- the least of the first v, or the greatest number of 32 bits where there is none
pub record Least (ds marks : List ℕ) (v best : ℕ) : Type 0 where
  pub low : (w : ℕ) → w < v → best ≤ key ds marks w
  pub from : (best ≡ 4294967295) ⊎ ((w : ℕ) × (w < v) × (best ≡ key ds marks w))

module _ (ds marks : List ℕ) where
  pub least_more : (v best : ℕ) → Least ds marks v best → Least ds marks (v + 1) (min best (key ds marks v))
  least_more v best so_far =
      record {
        low = λ w h. low w h (ℕ_discrete w v);
        from = from (dec_lt (key ds marks v) best);
      }
    where
      low : (w : ℕ) → w < v + 1 → Dec (w ≡ v) → min best (key ds marks v) ≤ key ds marks w
      low w h (yes e) = rw e (omega arith)
      low w h (no apart) = omega (arith, so_far.low w (omega arith))

      from : Dec (key ds marks v < best) →
          (min best (key ds marks v) ≡ 4294967295) ⊎ ((w : ℕ) × (w < v + 1) × (min best (key ds marks v) ≡ key ds marks w))
      from (yes h) = inr (v, omega arith, omega arith)
      from (no h) = ⊎_elim (λ e. inl (omega arith)) (λ (w, l, e). inr (w, omega arith, omega arith)) so_far.from

  module _ (n : ℕ) (searched : Searched ds marks n) where
    most : n ≤ 64
    most = searched.most

    near : (v : ℕ) → v < n → get_or ds v 0 ≤ 4194304
    near = searched.near

    -- the key of a router that is not settled is less than that of any that is
    open_key : (v : ℕ) → v < n → Open marks v → key ds marks v < 536870912
    open_key v h free = omega (arith, near v h, most)

    pub key_fits : (v : ℕ) → v < n → key ds marks v < 2147483648
    key_fits v h = ⊎_elim (λ e. omega (arith, near v h, most)) (λ e. omega (arith, near v h)) (searched.marked v h)

    -- the least of some fits 31 bits
    pub least_fits : {v best : ℕ} → 0 < v → v ≤ n → Least ds marks v best → best < 2147483648
    least_fits some h least = omega (arith, least.low 0 some, key_fits 0 (omega arith))

    pub found : (best : ℕ) → Least ds marks n best → Nearest ds marks n (best % 64)
    found best least =
        let (v, h, free) = searched.some_open in
        let low : best < 536870912 = omega (arith, least.low v h, open_key v h free) in
        ⊎_elim (λ e. absurd (omega arith))
        (λ (w, l, e). ⊎_elim (λ o. at w l o e) (λ closed. absurd (omega arith)) (searched.marked w l)) least.from
      where
        at : (w : ℕ) → w < n → Open marks w → best ≡ key ds marks w → Nearest ds marks n (best % 64)
        at w h free e =
            let same : best ≡ get_or ds w 0 * 64 + w = omega arith in
            let place : best % 64 ≡ w = rw (same, mul-add-mod_self_right) (mod-eq_of_lt (omega (arith, most))) in
            rw place
            record {
              place = h;
              is_open = free;
              least = λ v l o. omega (arith, least.low v l, most);
            }
