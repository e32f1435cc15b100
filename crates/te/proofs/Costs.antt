-- What a record costs, by the tests of its metric and of what it has.
-- Assumes nothing.
use Prim.Native.Nat.{ℕ, ◌≤◌, ◌<◌}
use mathlib.Core.Bool.{true, false}
use mathlib.Core.Logic.{inl, inr}
use mathlib.Core.Path.{◌≡◌, refl}
use Rattle.std.proofs.Common.{Some, None, zero, suc}
use native.Mathlib.Omega.{arith, by_contra}
use Rattle.te.proofs.Says.{split}
use borrow.Author.Tests.{le-leb, lt-leb}
use Rattle.te.specs.declared.LinkRecord.{LinkRecord}
use Rattle.te.specs.Cost.{bandwidth_cost, maximum_cost, record_cost, some_cost}

-- a cost that is not 0 is one, and 0 is none
pub is_one : (n : ℕ) → 1 ≤ n → Some n ≡ some_cost n
is_one zero h = absurd (omega arith)
is_one (suc n) h = refl

pub is_none : (n : ℕ) → n ≡ 0 → None ≡ some_cost n
is_none n e = rw e refl

module _ (r : LinkRecord) where
  pub by_metric : 1 ≤ r.metric → r.metric ≤ 65535 → record_cost r ≡ r.metric
  unfolding record_cost
  by_metric low high = rw (le-leb 1 r.metric low, le-leb r.metric 65535 high) refl

  pub too_low : r.metric < 1 → record_cost r ≡ maximum_cost r
  unfolding record_cost
  too_low h = rw (lt-leb 1 r.metric h) refl

  pub too_high : 65535 < r.metric → record_cost r ≡ maximum_cost r
  unfolding record_cost
  too_high h = rw (le-leb 1 r.metric (omega arith), lt-leb r.metric 65535 h) refl

  pub outside : (1 ≤ r.metric → r.metric ≤ 65535 → ⊥) → record_cost r ≡ maximum_cost r
  outside h = elim (split r.metric 1) [ inl low ↦ too_low low | inr low ↦ too_high (by_contra 65536 r.metric (λ high. h low (omega arith))) ]

  pub by_maximum : r.hasmaximum ≡ true → maximum_cost r ≡ bandwidth_cost r.maximum
  unfolding maximum_cost
  by_maximum e = rw e refl

  pub by_none : r.hasmaximum ≡ false → maximum_cost r ≡ 0
  unfolding maximum_cost
  by_none e = rw e refl
