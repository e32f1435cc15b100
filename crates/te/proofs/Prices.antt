-- Where the last metric is within the range, or there is a maximum bandwidth, the record costs something, and nowhere else.
-- Assumes nothing.
use Prim.Native.Nat.{ℕ, ◌≤◌}
use mathlib.Core.Bool.{Bool, true, false}
use mathlib.Core.List.{List}
use mathlib.Core.Logic.{◌≢◌, inl, inr, ⊎_elim}
use mathlib.Core.Path.{◌≡◌, refl, sym, ap, subst, ◌∙◌}
use native.Mathlib.Omega.{arith}
use lib.Dec.{T}
use lib.IntN.{ℤ}
use lib.Ieee.{Float, fin}
use Rattle.te.specs.declared.SubTlv.{SubTlv}
use Rattle.te.specs.declared.SubTlv.TheVariants.{TeMetric, MaxBandwidth}
use Rattle.te.specs.declared.LinkRecord.{LinkRecord}
use Rattle.te.specs.SubTlvs.{usable}
use Rattle.te.specs.Cost.{bandwidth_cost, maximum_cost, record_cost}
use Rattle.te.specs.Theorems.{Kept, Greatest, OneUsable, RecordOf, CostOf}
use Rattle.te.proofs.Patterns.{finite}
use Rattle.te.proofs.Greatest.{bandwidth_costs, costs_something}
use Rattle.te.proofs.Costs.{by_metric, too_low, too_high, by_maximum, by_none}
use Rattle.te.proofs.Says.{split}
use Rattle.te.proofs.Lasts.{one_metric, is_there}

-- 5 or 6 can be used exactly where the record costs something
module _ {subs : List SubTlv} {r : LinkRecord} (f : RecordOf subs r) (k : Kept r) where
  pub by_use : OneUsable subs → record_cost r ≢ 0
  by_use (inl (n, l, low, high)) z =
      let same : r.metric ≡ n = one_metric (f.metric.present (is_there TeMetric 0 f.metric l)) l in
      omega (arith, by_metric r (omega arith) (omega arith))
  by_use (inr (x, l)) z =
      let has : r.hasmaximum ≡ true = is_there MaxBandwidth _ f.maximum l in
      let some = costs_something r.maximum (k.maximum_present has) in
      elim (split r.metric 1) [
        | inl low ↦ omega (arith, too_low r low, by_maximum r has)
        | inr low ↦ elim (split 65535 r.metric) [
          | inl high ↦ omega (arith, too_high r high, by_maximum r has)
          | inr high ↦ omega (arith, by_metric r low high)
        ]
      ]

  -- a metric that is not 0 is present
  has_metric : 1 ≤ r.metric → r.hasmetric ≡ true
  has_metric low = go r.hasmetric refl
    where
      go : (has : Bool) → r.hasmetric ≡ has → has ≡ true
      go true e = refl
      go false e = absurd (omega (arith, k.metric_absent e))

  -- and a record that costs something without it has a maximum bandwidth
  has_maximum : maximum_cost r ≢ 0 → r.hasmaximum ≡ true
  has_maximum n = go r.hasmaximum refl
    where
      go : (has : Bool) → r.hasmaximum ≡ has → has ≡ true
      go true e = refl
      go false e = absurd (n (by_none r e))

  module _ (n : record_cost r ≢ 0) where
    of_maximum : record_cost r ≡ maximum_cost r → r.hasmaximum ≡ true
    of_maximum e = has_maximum (λ z. n (e ∙ z))

    pub of_use : OneUsable subs
    of_use = elim (split r.metric 1) [
      | inl low ↦ inr (r.maximum, f.maximum.present (of_maximum (too_low r low)))
      | inr low ↦ elim (split 65535 r.metric) [
        | inl high ↦ inr (r.maximum, f.maximum.present (of_maximum (too_high r high)))
        | inr high ↦ inl (r.metric, f.metric.present (has_metric low), low, high)
      ]
    ]

    greatest : record_cost r ≡ maximum_cost r →
        (m : ℕ) × (e : ℤ) × (r.hasmaximum ≡ true) × (r.maximum ≡ fin false m e) × Greatest m e (record_cost r)
    greatest same =
        let has = of_maximum same in
        let u = k.maximum_present has in
        let (m, e, is) = finite r.maximum u in
        (m, e, has, is, (bandwidth_costs m e (record_cost r) (subst (λ (x : Float). T (usable x)) is u)).0 (sym (same ∙ by_maximum r has ∙ ap bandwidth_cost is)))

    pub cost-of : CostOf r (record_cost r)
    cost-of = record { by_metric = by_metric r; by_bandwidth = ⊎_elim (λ low. greatest (too_low r low)) (λ high. greatest (too_high r high)) }
