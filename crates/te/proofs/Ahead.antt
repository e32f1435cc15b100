-- A walk over the sub-TLVs: what is taken from its offset on, with what it has gathered, is what is taken of the value.
-- Assumes nothing.
use Prim.Native.Nat.{ℕ, ◌+◌, ◌≤◌, ◌<◌}
use mathlib.Core.List.{List}
use mathlib.Core.Logic.{◌≢◌}
use mathlib.Core.Path.{◌≡◌, refl, sym, ap, ◌∙◌}
use native.Mathlib.Omega.{arith}
use borrow.Author.Tests.{eq-eqb, ne_eqb}
use lib.ListN.{length, drop, length-drop}
use lib.Seq.{drop-drop}
use Rattle.std.proofs.Common.{take, ◌-◌, Option, Some, None, Ok, zero, suc}
use Rattle.std.proofs.lemmas.List.{take_rest}
use Rattle.topology_types.specs.declared.Fault.{Fault}
use Rattle.topology_types.specs.Outcome.{answer, number_of}
use Rattle.topology_types.proofs.Outcome.{numbered}
use Rattle.te.specs.declared.SubTlv.{SubTlv}
use Rattle.te.specs.declared.LinkRecord.{LinkRecord}
use Rattle.te.specs.SubTlvs.{Refused, found_as, span_of, sub_in}
use Rattle.te.specs.Cost.{some_cost, record_cost, gathered, nothing, refused_cost, concluded, fault_of_lem, added_sub, taken_from, costing}
use Rattle.te.specs.Theorems.{Kept}
use Rattle.te.proofs.Turn.{good, whole, four_at_least, kept_nothing, kept_added, at_end, fault_here as first_fault, next}

pub record Ahead (value : List ℕ) (at : ℕ) (r : LinkRecord) : Type 0 where
  pub inside : at ≤ length value
  pub kept : Kept r
  pub rest : taken_from at 0 r (drop at value) ≡ costing value

pub started : (value : List ℕ) → Ahead value 0 nothing
unfolding costing
started value = record { inside = omega arith; kept = kept_nothing; rest = refl }

-- what is found is no fault, and only one of the three cases changes the record
no_fault : (found : Option SubTlv) → fault_of_lem (found_as (Ok found)) ≡ 0
unfolding fault_of_lem
no_fault None = refl
no_fault (Some s) = refl

pub same_record : (r : LinkRecord) (found : Option SubTlv) → found ≡ None → r ≡ added_sub r (found_as (Ok found))
unfolding added_sub
same_record r found e = rw e refl

pub with_one : (r : LinkRecord) (found : Option SubTlv) (s : SubTlv) → found ≡ Some s → gathered r s ≡ added_sub r (found_as (Ok found))
unfolding added_sub
with_one r found s e = rw e refl

-- at the end of the value the record decides
pub costless : (end : ℕ) (r : LinkRecord) → some_cost (record_cost r) ≡ None → refused_cost 29 end ≡ concluded end r
unfolding concluded
costless end r e = go (record_cost r) refl e
  where
    go : (n : ℕ) → record_cost r ≡ n → some_cost n ≡ None → refused_cost 29 end ≡ concluded end r
    go zero e h = rw (eq-eqb (record_cost r) 0 e) refl
    go (suc n) e h = cc

pub costly : (end : ℕ) (r : LinkRecord) (c : ℕ) → some_cost (record_cost r) ≡ Some c →
    record { answer = answer 0 0; cost = c; link = r } ≡ concluded end r
unfolding concluded
costly end r c e = go (record_cost r) refl e
  where
    go : (n : ℕ) → record_cost r ≡ n → some_cost n ≡ Some c → record { answer = answer 0 0; cost = c; link = r } ≡ concluded end r
    go zero e h = cc
    go (suc n) e h =
        let is : record_cost r ≡ c = cc in
        rw (ne_eqb (record_cost r) 0 (λ z. omega arith), is) refl

module _ {value : List ℕ} {at : ℕ} {r : LinkRecord} (a : Ahead value at r) where
  -- the bytes from the offset on
  abbrev rest_of : List ℕ
  rest_of = take (length value - at) (drop at value)

  pub ended : length value ≤ at → concluded at r ≡ costing value
  ended h = sym (at_end at r (drop at value) (omega (arith, length-drop at value))) ∙ a.rest

  module _ (h : at < length value) where
    pub fair : (found : Option SubTlv) → found_as (Ok found) ≡ sub_in rest_of → fault_of_lem (sub_in (drop at value)) ≡ 0
    fair found e = rw (← take_rest value at, ← e) (no_fault found)

    pub stopped : fault_of_lem (sub_in (drop at value)) ≢ 0 → refused_cost (fault_of_lem (sub_in (drop at value))) at ≡ costing value
    stopped f = sym (first_fault at r (drop at value) (omega (arith, length-drop at value)) f) ∙ a.rest

    pub fault_here : (f : Fault) → Refused (number_of f) ≡ sub_in rest_of → refused_cost (number_of f) at ≡ costing value
    unfolding fault_of_lem
    fault_here f e =
        let is : fault_of_lem (sub_in (drop at value)) ≡ number_of f = rw (← take_rest value at, ← e) refl in
        rw (← is) (stopped (λ z. omega (arith, numbered f, is)))

    module _ (f : fault_of_lem (sub_in (drop at value)) ≡ 0) where
      -- its bytes are there, and it has 4 at least
      pub room : (at + 4 ≤ length value) × (at + span_of (drop at value) ≤ length value) × (4 ≤ span_of (drop at value))
      room = omega (arith, whole (drop at value) f, length-drop at value, four_at_least (drop at value))

      pub moved : Ahead value (at + span_of (drop at value)) (added_sub r (sub_in (drop at value)))
      moved = record {
        inside = room.1;
        kept = kept_added a.kept (sub_in (drop at value)) (good (drop at value));
        rest =
            ap (taken_from (at + span_of (drop at value)) 0 (added_sub r (sub_in (drop at value)))) (sym (drop-drop (span_of (drop at value)) at value))
            ∙ sym (next at r (drop at value) (omega (arith, length-drop at value)) f)
            ∙ a.rest;
      }
