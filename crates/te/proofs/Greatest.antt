-- The quotient is the greatest number whose product with the divisor is not above the dividend, and held to a range it is the only number there that is so.
-- Assumes nothing.
use Prim.Native.Nat.{ℕ, ◌*◌, ◌/◌, ◌≤◌, ◌<◌}
use mathlib.Core.Bool.{Bool, true, false, cond}
use mathlib.Core.Logic.{◌↔◌}
use mathlib.Core.Path.{◌≡◌, refl, subst}
use native.Mathlib.Nat.{lt_of_lt_of_le, le-div_iff_mul-le, div-lt_iff_lt-mul}
use native.Mathlib.Omega.{arith, by_contra}
use lib.Dec.{T, ltb, leb→le}
use lib.IntN.{ℤ}
use lib.Ieee.{Float, nan, inf, fin, up, down}
use lib.Ieee.Fits.{down_pos}
use borrow.Author.Tests.{ltb-true, ltb-false}
use Rattle.te.specs.SubTlvs.{usable}
use Rattle.te.specs.Cost.{held_to_range, bandwidth_cost}
use Rattle.te.specs.Theorems.{BandwidthCosts}

-- x is q, held to 1 to 65,535
record Ranged (q x : ℕ) : Type 0 where
  least : 1 ≤ x
  most : x ≤ 65535
  not_above : 1 < x → x ≤ q
  greatest : x < 65535 → q ≤ x

ranged : (q : ℕ) → Ranged q (held_to_range q)
unfolding held_to_range
ranged q = go (ltb q 1) (ltb 65535 q) refl refl
  where
    go : (a b : Bool) → ltb q 1 ≡ a → ltb 65535 q ≡ b → Ranged q (cond a 1 (cond b 65535 q))
    go true b h k = record { least = omega arith; most = omega arith; not_above = λ l. omega arith; greatest = λ l. omega (arith, ltb-true) }
    go false true h k = record { least = omega arith; most = omega arith; not_above = λ l. omega (arith, ltb-true); greatest = λ l. omega arith }
    go false false h k = record { least = omega (arith, ltb-false); most = omega (arith, ltb-false); not_above = λ l. omega arith; greatest = λ l. omega arith }

-- a bandwidth that can be used costs at least 1
pub costs_something : (x : Float) → T (usable x) → 1 ≤ bandwidth_cost x
unfolding usable bandwidth_cost
costs_something nan u = absurd u
costs_something (inf s) u = absurd u
costs_something (fin s m e) u = (ranged (12500000 * down e / (m * up e))).least

not_below : {q x y : ℕ} → Ranged q x → Ranged q y → y ≤ x
not_below {x} {y} r s = by_contra y x (λ l. omega (arith, r.greatest (omega arith), s.not_above (omega arith)))

abbrev quotient : ℕ → ℤ → ℕ
quotient m e = 12500000 * down e / (m * up e)

positive : (m : ℕ) (e : ℤ) → T (usable (fin false m e)) → 0 < m * up e
unfolding usable
positive m e u = lt_of_lt_of_le (down_pos e) (leb→le (down e) (m * up e) u)

cost_is : (m : ℕ) (e : ℤ) → Ranged (quotient m e) (bandwidth_cost (fin false m e))
unfolding bandwidth_cost
cost_is m e = ranged (quotient m e)

pub bandwidth_costs : BandwidthCosts
bandwidth_costs m e c u =
    let P = positive m e u in (
      λ p.
          let r : Ranged (quotient m e) c = subst (Ranged (quotient m e)) p (cost_is m e) in
          record {
            least = r.least;
            most = r.most;
            not_above = λ l. (le-div_iff_mul-le P).0 (r.not_above l);
            greatest = λ l. (div-lt_iff_lt-mul P).0 (omega (arith, r.greatest l));
          },
      λ g.
          let r : Ranged (quotient m e) c =
          record {
            least = g.least;
            most = g.most;
            not_above = λ l. (le-div_iff_mul-le P).1 (g.not_above l);
            greatest = λ l. omega (arith, (div-lt_iff_lt-mul P).1 (g.greatest l));
          } in
          omega (arith, not_below (cost_is m e) r, not_below r (cost_is m e)),
    )

-- what a test of a number's product tells of the cost
pub record Tested (m : ℕ) (e : ℤ) : Type 0 where
  pub least : 1 ≤ bandwidth_cost (fin false m e)
  pub most : bandwidth_cost (fin false m e) ≤ 65535
  pub decides : (n : ℕ) → 1 < n → n ≤ 65535 → (n * (m * up e) ≤ 12500000 * down e) ↔ (n ≤ bandwidth_cost (fin false m e))

pub tested : (m : ℕ) (e : ℤ) → T (usable (fin false m e)) → Tested m e
tested m e u =
    let r = cost_is m e in
    let P = positive m e u in
    record {
      least = r.least;
      most = r.most;
      decides = λ n low high. (
        λ h. by_contra n (bandwidth_cost (fin false m e)) (λ l. omega (arith, r.greatest (omega arith), (le-div_iff_mul-le P).1 h)),
        λ h. (le-div_iff_mul-le P).0 (omega (arith, r.not_above (omega arith))),
      );
    }
