-- Each end is what the definition makes of what is left; past a sub-TLV, the record has it.
-- Assumes nothing.
use Rattle.std.proofs.Common.{◌≡◌, drop, ap, sym, ◌∙◌, arith, rules, Ok, Err, refl}
use Rattle.std.proofs.lemmas.List.{take_rest, length-drop}
use Rattle.topology_types.specs.declared.Fault.{Fault}
use Rattle.topology_types.specs.declared.Fault.TheVariants.{UnusableSubTlvs}
use Rattle.te.specs.SubTlvs.{sub_in, span_of, found_as}
use Rattle.te.specs.Cost.{fault_of_lem, added_sub, costing_of}
use Rattle.te.proofs.Ahead.{started, ended, fault_here, fair, room, moved, same_record, with_one, costless, costly}
use Rattle.te.proofs.cost.Goals as goal
use Rattle.te.proofs.cost.Goals.{in-Some, in_default}

pub loop-at-init : goal.loop-at-init
loop-at-init c = rw c.nothing-link.ensures (started c.args.value.now)

pub returns-in_err-found : goal.returns-in_err-found
returns-in_err-found c =
    let e : c.from_residual.result ≡ Err c.in_err-found.field-0.0 = search rules in
    let (f, is, there) : (f : Fault) × (c.sub_in.result ≡ Err f) × (c.in_err-found.field-0.0 ≡ record { fault = f; at = c.loop-at.at }) = search rules in
    ap costing_of e ∙ rw there (fault_here c.loop-at.invariant c.loop-at-test.true f (ap found_as (sym is) ∙ c.sub_in.ensures))

pub span_of-requires : goal.span_of-requires
span_of-requires c =
    let is : c.sub_in.result ≡ Ok c.in_ok-found.found = search rules in
    let none = fair c.loop-at.invariant c.loop-at-test.true c.in_ok-found.found (ap found_as (sym is) ∙ c.sub_in.ensures) in
    rw take_rest (omega (arith, length-drop c.loop-at.at c.args.value.now, room c.loop-at.invariant c.loop-at-test.true none))

-- past a sub-TLV without a fault
no_fault : (c : goal.After-span_of) → fault_of_lem (sub_in (drop c.loop-at.at c.args.value.now)) ≡ 0
no_fault c =
    let is : c.sub_in.result ≡ Ok c.in_ok-found.found = search rules in
    fair c.loop-at.invariant c.loop-at-test.true c.in_ok-found.found (ap found_as (sym is) ∙ c.sub_in.ensures)

span : (c : goal.After-span_of) → c.span_of.result ≡ span_of (drop c.loop-at.at c.args.value.now)
span c = c.span_of.ensures ∙ rw take_rest refl

pub overflow_add-at : goal.overflow_add-at
overflow_add-at c = omega (arith, span c, room c.loop-at.invariant c.loop-at-test.true (no_fault c))

pub loop-at-smaller : goal.loop-at-smaller
loop-at-smaller c = omega (arith, span c, room c.loop-at.invariant c.loop-at-test.true (no_fault c))

pub loop-at-preserved : goal.loop-at-preserved
loop-at-preserved c =
    let found = c.in_ok-found.found in
    let link : c.match-found.link ≡ added_sub c.loop-at.link (found_as (Ok found)) = elim c.match-found.branch [
      | in-Some w ↦ w.link-is ∙ w.with-link.ensures ∙ with_one c.loop-at.link found w.in-Some.s w.in-Some.is
      | in_default w ↦ w.link-is ∙ same_record c.loop-at.link found w.in_default.is
    ] in
    let is : c.sub_in.result ≡ Ok found = search rules in
    let sub : found_as (Ok found) ≡ sub_in (drop c.loop-at.at c.args.value.now) = ap found_as (sym is) ∙ c.sub_in.ensures ∙ rw take_rest refl in
    rw (link, sub, span c) (moved c.loop-at.invariant c.loop-at-test.true (no_fault c))

pub returns-in_err-cost : goal.returns-in_err-cost
returns-in_err-cost c =
    let e : c.from_residual-in_err-cost.result ≡ Err c.in_err-cost.field-0.0 = search rules in
    let there : c.in_err-cost.field-0.0 ≡ record { fault = UnusableSubTlvs; at = c.loop-at.at } = search rules in
    ap costing_of e ∙ rw there (costless c.loop-at.at c.loop-at.link (sym c.cost.ensures ∙ c.in_err-cost.ensures.ok_part)) ∙ ended c.loop-at.invariant c.loop-at-test.false

pub returns : goal.returns
returns c = costly c.loop-at.at c.loop-at.link c.in_ok-cost.cost (sym c.cost.ensures ∙ c.in_ok-cost.ensures.ok_part) ∙ ended c.loop-at.invariant c.loop-at-test.false
