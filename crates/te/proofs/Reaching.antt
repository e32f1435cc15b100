-- A walk goes on from sub-TLV to sub-TLV until one has a fault or the value ends; what was gathered on the way says what is returned.
-- Assumes nothing.
use Prim.Native.Nat.{ℕ, zero, suc, ◌+◌, ◌≤◌, ◌<◌}
use mathlib.Core.List.{List, [], ◌∷◌, ◌++◌}
use mathlib.Core.Logic.{◌≢◌, ◌⊎◌, inl, inr, ⊎_elim}
use mathlib.Core.Path.{◌≡◌, refl, sym, ap, subst, ◌∙◌}
use native.Mathlib.Omega.{arith}
use borrow.Author.Tests.{eq-eqb, ne_eqb}
use lib.Dec.{eqb, eqb→eq}
use lib.ListN.{length, drop, length-drop}
use Rattle.network.proofs.Tests.{truth, eq_test}
use Rattle.topology_types.specs.Outcome.{answer}
use Rattle.te.specs.SubTlvs.{Found, Refused, Skipped, Is}
use Rattle.te.specs.declared.SubTlv.{SubTlv}
use Rattle.te.specs.declared.LinkRecord.{LinkRecord}
use Rattle.te.specs.SubTlvs.{span_of, sub_in}
use Rattle.te.specs.Cost.{nothing, gathered, record_cost, refused_cost, concluded, fault_of_lem, added_sub, costing}
use Rattle.te.specs.Theorems.{RecordsKept, Span, SubsBefore, start, skipped, taken, RecordOf}
use Rattle.te.proofs.Turn.{never_0, four_at_least, kept_nothing}
use Rattle.te.proofs.Ahead.{Ahead, started, ended, stopped, room, moved}
use Rattle.te.proofs.Says.{split, spans, one_span}
use Rattle.te.proofs.Lasts.{record_none, record_more}

-- what is reached was gathered so
pub record Gone (value : List ℕ) (at : ℕ) (subs : List SubTlv) : Type 0 where
  pub r : LinkRecord
  pub ahead : Ahead value at r
  pub kept : RecordOf subs r

begun : (value : List ℕ) (at : ℕ) {n : ℕ} → Span (drop at value) n → at < length value
begun value at s = omega (arith, s.header, length-drop at value)

module _ {value : List ℕ} where
  -- a sub-TLV without a fault, and what it adds
  further : {at n : ℕ} {r r' : LinkRecord} {f : Found} → Ahead value at r → Span (drop at value) n → sub_in (drop at value) ≡ f → fault_of_lem f ≡ 0 →
      added_sub r f ≡ r' → Ahead value (at + n) r'
  further {at} a s e z is = rw (one_span s, ← is, ← e) (moved a (begun value at s) (ap fault_of_lem e ∙ z))

  pub gone : {at : ℕ} {subs : List SubTlv} → SubsBefore value at subs → Gone value at subs
  unfolding fault_of_lem added_sub
  gone start = record { r = nothing; ahead = started value; kept = record_none }
  gone (skipped n p e s) = let g = gone p in record { r = g.r; ahead = further g.ahead s e refl refl; kept = g.kept }
  gone (taken n t p e s) = let g = gone p in record { r = gathered g.r t; ahead = further g.ahead s e refl refl; kept = record_more g.kept t }

  -- a fault refuses at its sub-TLV
  pub refuses : {at : ℕ} {subs : List SubTlv} (number : ℕ) → SubsBefore value at subs → at < length value → sub_in (drop at value) ≡ Refused number →
      costing value ≡ refused_cost number at
  unfolding fault_of_lem
  refuses {at} number p h e =
      sym (stopped (gone p).ahead h (never_0 (drop at value) number e)) ∙ ap (λ (k : ℕ). refused_cost k at) (ap fault_of_lem e)

  -- and without one the record concludes
  concludes : {subs : List SubTlv} (p : SubsBefore value (length value) subs) → costing value ≡ concluded (length value) (gone p).r
  concludes p = sym (ended (gone p).ahead (omega arith))

-- the value to its first fault, or to its end
pub data Ends (value : List ℕ) : Type 0 where
  faulty : (at number : ℕ) (subs : List SubTlv) → SubsBefore value at subs → at < length value → sub_in (drop at value) ≡ Refused number → Ends value
  whole : (subs : List SubTlv) → SubsBefore value (length value) subs → Ends value

at-last : (value : List ℕ) (at : ℕ) (subs : List SubTlv) → SubsBefore value at subs → length value ≤ at → Ends value
at-last value at subs p h = whole subs (subst (λ (k : ℕ). SubsBefore value k subs) (omega (arith, (gone p).ahead.inside)) p)

ends_by : (value : List ℕ) (left at : ℕ) (subs : List SubTlv) → SubsBefore value at subs → length value ≤ at + left → Ends value
ends_by value zero at subs p h = at-last value at subs p (omega arith)
ends_by value (suc left) at subs p h = elim (split at (length value)) [
  | inr l ↦ at-last value at subs p l
  | inl l ↦
      go l (sub_in (drop at value)) refl
      (λ more q. ends_by value left (at + span_of (drop at value)) more q (omega (arith, four_at_least (drop at value))))
]
  where
    there : at < length value → fault_of_lem (sub_in (drop at value)) ≡ 0 → Span (drop at value) (span_of (drop at value))
    there l z = spans (omega (arith, room (gone p).ahead l z, length-drop at value))

    go : at < length value → (f : Found) → sub_in (drop at value) ≡ f →
        ((more : List SubTlv) → SubsBefore value (at + span_of (drop at value)) more → Ends value) → Ends value
    go l (Refused number) e on = faulty at number subs p l e
    go l Skipped e on = on subs (skipped (span_of (drop at value)) p e (there l (unfold fault_of_lem in ap fault_of_lem e)))
    go l (Is t) e on = on (subs ++ (t ∷ [])) (taken (span_of (drop at value)) t p e (there l (unfold fault_of_lem in ap fault_of_lem e)))

pub ends : (value : List ℕ) → Ends value
ends value = ends_by value (length value) 0 [] start (omega arith)

-- what is returned without a fault, by whether it costs something
module _ {value : List ℕ} {subs : List SubTlv} (p : SubsBefore value (length value) subs) where
  abbrev r : LinkRecord
  r = (gone p).r

  pub costless : record_cost r ≡ 0 → costing value ≡ refused_cost 29 (length value)
  unfolding concluded
  costless z = concludes p ∙ rw (eq-eqb (record_cost r) 0 z) refl

  pub costly : record_cost r ≢ 0 → costing value ≡ record { answer = answer 0 0; cost = record_cost r; link = r }
  unfolding concluded
  costly n = concludes p ∙ rw (ne_eqb (record_cost r) 0 n) refl

  pub either : (record_cost r ≡ 0) ⊎ (record_cost r ≢ 0)
  either = ⊎_elim (λ t. inl (eqb→eq (record_cost r) 0 t)) (λ n. inr (λ e. n (eq_test e))) (truth (eqb (record_cost r) 0))

pub records_kept : RecordsKept
unfolding refused_cost
records_kept value = elim (ends value) [
  | faulty at number subs p h e ↦ rw (refuses number p h e) kept_nothing
  | whole subs p ↦ elim (either p) [ inl z ↦ rw (costless p z) kept_nothing | inr n ↦ rw (costly p n) (gone p).ahead.kept ]
]
