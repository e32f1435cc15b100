-- The sub-TLVs from an offset on are one of them and those from its end on; and what is gathered keeps bandwidths that can be used.
-- Assumes nothing.
use Prim.Native.Nat.{ℕ, zero, suc, ◌+◌, ◌-◌, ◌≤◌}
use mathlib.Core.Bool.{Bool, true, false, cond, ◌&&◌, true≢false, false≢true}
use mathlib.Core.List.{List, [], ◌∷◌}
use mathlib.Core.Logic.{◌≢◌}
use mathlib.Core.Path.{◌≡◌, refl, sym, ap, subst, ◌∙◌}
use native.Mathlib.Nat.{add-zero}
use native.Mathlib.Numerals.{sub-one}
use native.Mathlib.Omega.{arith, by_contra}
use borrow.Author.Tests.{eq-eqb, ne_eqb}
use denote.Floats.{passes}
use lib.Dec.{T, leb, eqb}
use lib.ListN.{length, drop}
use lib.Ieee.{Float}
use Rattle.te.specs.SubTlvs.{Found, Refused, Skipped, Is}
use Rattle.te.specs.declared.SubTlv.{SubTlv}
use Rattle.te.specs.declared.SubTlv.TheVariants.{TeMetric, MaxBandwidth, Reservable}
use Rattle.te.specs.declared.LinkRecord.{LinkRecord}
use Rattle.te.specs.SubTlvs.{type_of, length_of, span_of, cut_short, number_in, usable, case_of, judged, sub_in}
use Rattle.te.specs.Cost.{nothing, gathered, refused_cost, concluded, fault_of_lem, added_sub, taken_from}
use Rattle.te.specs.Theorems.{Kept}
use Rattle.te.proofs.SubTlvs.{header_cut, value_cut}

-- what a sub-TLV is found to be: a refusal is 28 or 29, and a bandwidth can be used
abbrev pub Good : Found → Type 0
Good (Refused number) = (28 ≤ number) × (number ≤ 29)
Good Skipped = Unit
Good (Is (TeMetric n)) = Unit
Good (Is (MaxBandwidth x)) = T (usable x)
Good (Is (Reservable x)) = T (usable x)

-- a bandwidth that is let through can be used
let_through : (x : Float) (t : SubTlv) → (T (usable x) → Good (Is t)) → Good (cond (usable x) (Is t) (Refused 28))
let_through x t h = go (usable x) refl
  where
    go : (u : Bool) → usable x ≡ u → Good (cond u (Is t) (Refused 28))
    go true e = h (passes (usable x) e)
    go false e = (omega arith, omega arith)

fair : (t : SubTlv) → Good (judged t)
unfolding judged
fair (TeMetric n) = tt
fair (MaxBandwidth x) = let_through x (MaxBandwidth x) (λ u. u)
fair (Reservable x) = let_through x (Reservable x) (λ u. u)

pub good : (s : List ℕ) → Good (sub_in s)
unfolding sub_in
good s = go (cut_short s) (leb 5 (type_of s) && leb (type_of s) 7) (eqb (length_of s) 4)
  where
    go : (a b c : Bool) → Good (cond a (Refused 29) (cond b (cond c (judged (case_of (type_of s) (number_in s))) (Refused 29)) Skipped))
    go true b c = (omega arith, omega arith)
    go false false c = tt
    go false true true = fair (case_of (type_of s) (number_in s))
    go false true false = (omega arith, omega arith)

-- the number of a fault is not 0
pub never_0 : (s : List ℕ) (number : ℕ) → sub_in s ≡ Refused number → fault_of_lem (sub_in s) ≡ 0 → ⊥
unfolding fault_of_lem
never_0 s number e z = let (low, high) = subst Good e (good s) in omega (arith, sym (ap fault_of_lem e) ∙ z)

pub kept_nothing : Kept nothing
unfolding nothing
kept_nothing = record {
  metric_absent = λ e. refl;
  maximum_absent = λ e. refl;
  maximum_present = λ e. absurd (false≢true e);
  reservable_absent = λ e. refl;
  reservable_present = λ e. absurd (false≢true e);
}

pub kept_added : {r : LinkRecord} → Kept r → (f : Found) → Good f → Kept (added_sub r f)
unfolding added_sub gathered
kept_added k (Refused number) g = k
kept_added k Skipped g = k
kept_added k (Is (TeMetric n)) g = record {
  metric_absent = λ e. absurd (true≢false e);
  maximum_absent = k.maximum_absent;
  maximum_present = k.maximum_present;
  reservable_absent = k.reservable_absent;
  reservable_present = k.reservable_present;
}
kept_added k (Is (MaxBandwidth x)) g = record {
  metric_absent = k.metric_absent;
  maximum_absent = λ e. absurd (true≢false e);
  maximum_present = λ e. g;
  reservable_absent = k.reservable_absent;
  reservable_present = k.reservable_present;
}
kept_added k (Is (Reservable x)) g = record {
  metric_absent = k.metric_absent;
  maximum_absent = k.maximum_absent;
  maximum_present = k.maximum_present;
  reservable_absent = λ e. absurd (true≢false e);
  reservable_present = λ e. g;
}

pub four_at_least : (s : List ℕ) → 4 ≤ span_of s
unfolding span_of
four_at_least s = omega arith

-- a sub-TLV without a fault is whole
pub whole : (s : List ℕ) → fault_of_lem (sub_in s) ≡ 0 → (4 ≤ length s) × (span_of s ≤ length s)
whole s z =
    let header : 4 ≤ length s = by_contra 4 (length s) (λ h. never_0 s 29 (sym (header_cut s h)) z) in
    (header, by_contra (span_of s) (length s) (λ h. never_0 s 29 (sym (value_cut s header h)) z))

module _ (r : LinkRecord) where
  skipped : (at n : ℕ) (s : List ℕ) → n ≤ length s → taken_from at n r s ≡ taken_from (at + n) 0 r (drop n s)
  unfolding taken_from
  skipped at zero s h = rw (add-zero at)
  skipped at (suc n) [] h = absurd (omega arith)
  skipped at (suc n) (b ∷ s) h = skipped (at + 1) n s (omega arith) ∙ ap (λ (k : ℕ). taken_from k 0 r (drop n s)) (omega arith)

module _ (at : ℕ) (r : LinkRecord) where
  pub at_end : (s : List ℕ) → length s ≡ 0 → taken_from at 0 r s ≡ concluded at r
  unfolding taken_from
  at_end [] h = refl
  at_end (b ∷ s) h = absurd (omega arith)

  pub fault_here : (s : List ℕ) → 1 ≤ length s → fault_of_lem (sub_in s) ≢ 0 → taken_from at 0 r s ≡ refused_cost (fault_of_lem (sub_in s)) at
  unfolding taken_from
  fault_here [] h f = absurd (omega arith)
  fault_here (b ∷ s) h f = rw (ne_eqb (fault_of_lem (sub_in (b ∷ s))) 0 f) refl

  pub next : (s : List ℕ) → 1 ≤ length s → fault_of_lem (sub_in s) ≡ 0 →
      taken_from at 0 r s ≡ taken_from (at + span_of s) 0 (added_sub r (sub_in s)) (drop (span_of s) s)
  unfolding taken_from
  next [] h f = absurd (omega arith)
  next (b ∷ s) h f =
      rw (eq-eqb (fault_of_lem (sub_in (b ∷ s))) 0 f)
      (skipped (added_sub r (sub_in (b ∷ s))) (at + 1) (n - 1) s (omega (arith, whole (b ∷ s) f)) ∙ same n (four_at_least (b ∷ s)))
    where
      n : ℕ
      n = span_of (b ∷ s)

      same : (k : ℕ) → 4 ≤ k →
          taken_from (at + 1 + (k - 1)) 0 (added_sub r (sub_in (b ∷ s))) (drop (k - 1) s) ≡ taken_from (at + k) 0 (added_sub r (sub_in (b ∷ s))) (drop k (b ∷ s))
      same zero l = absurd (omega arith)
      same (suc k) l = rw (sub-one (suc k)) (ap (λ (i : ℕ). taken_from i 0 (added_sub r (sub_in (b ∷ s))) (drop k s)) (omega arith))
