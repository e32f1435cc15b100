-- The tests are those of a link's record; both halves are stored.
-- Assumes nothing.
use Rattle.std.proofs.Common.{◌≡◌, ◌+◌, ◌<◌, ◌^◌, Err, refl, ◌∙◌, arith, rules}
use Rattle.std.proofs.Math.Logic.{∥∥₁_map}
use Rattle.stream_rules.specs.Halves.{StreamListing, opposite, link_of}
use Rattle.stream_rules.specs.Reading.{fault, added}
use Rattle.stream_rules.specs.Record as record_of
use Rattle.stream.specs.Inner.{marked}
use Rattle.stream.specs.declared.unchecked.Listing.{Listing}
use Rattle.stream.specs.Listing.{Lists}
use Rattle.stream_rules.specs.Inner.{Stands}
use Rattle.stream_rules.proofs.Held.{with-link}
use Rattle.stream.proofs.Filled.{indexed, past_link}
use Rattle.stream.proofs.Steps.{refused, taken, stands_same, few_routers, few_halves, link_passes, link_room, first_roomy, second_roomy}
use Rattle.stream.proofs.unchecked.Listing.take_link.Goals as goal

pub halves_fault-requires : goal.halves_fault-requires
halves_fault-requires c = (few_routers c.args.self.now, few_halves c.args.self.now)

pub returns-in_err-halves_fault : goal.returns-in_err-halves_fault
unfolding fault
returns-in_err-halves_fault c =
    let f = c.in_err-halves_fault.field-0.0 in
    let e : c.from_residual.result ≡ Err f = search rules in
    rw e (refused f (λ p w. c.in_err-halves_fault.ensures p (indexed w)))

pub offset_bounds-self-m : goal.offset_bounds-self-m
offset_bounds-self-m c = omega (arith, link_room c.args.self.now c.args.h (link_passes c.args.self.now c.args.h c.in_ok-halves_fault.ensures))

pub bounds-self-m : goal.bounds-self-m
bounds-self-m c = link_room c.args.self.now c.args.h (link_passes c.args.self.now c.args.h c.in_ok-halves_fault.ensures)

pub overflow_add-self : goal.overflow_add-self
overflow_add-self c = omega (arith, link_room c.args.self.now c.args.h (link_passes c.args.self.now c.args.h c.in_ok-halves_fault.ensures))

pub mark-requires : goal.mark-requires
mark-requires c = first_roomy c.args.self.now c.args.h (link_passes c.args.self.now c.args.h c.in_ok-halves_fault.ensures)

pub mark-requires-2 : goal.mark-requires-2
mark-requires-2 c =
    rw (c.opposite.ensures, c.mark.ensures)
    (second_roomy c.args.self.now c.args.h (link_passes c.args.self.now c.args.h c.in_ok-halves_fault.ensures))

pub overflow_add-self-2 : goal.overflow_add-self-2
overflow_add-self-2 c = omega (arith, few_halves c.args.self.now)

-- what it stands for then
module _ (c : goal.After-mark-2) where
  abbrev l : Listing
  l = c.args.self.now

  passes : (p : StreamListing) → Lists p l → fault p (record_of.Link c.args.h) ≡ 0
  passes = link_passes l c.args.h c.in_ok-halves_fault.ensures

  fits : c.args.h.cost < 2 ^ 16
  fits = omega arith

  tables_are : c.mark-2.new.self ≡ marked (marked l.tables c.args.h) (opposite c.args.h)
  tables_are = c.mark-2.ensures ∙ (λ i. marked (c.mark.ensures i) (c.opposite.ensures i))

  stands : (p : StreamListing) → Lists p l →
      Stands (added p (record_of.Link c.args.h)) (with-link (link_of c.args.h (opposite c.args.h)) l.topology)
      c.mark-2.new.self.costs c.mark-2.new.self.leaving (l.halves + 2)
  stands p w = stands_same refl tables_are (past_link w c.args.h (passes p w) fits)

pub invariant_of-self : goal.invariant_of-self
unfolding link_of opposite
invariant_of-self c = record { stands = ∥∥₁_map c.args.self.now.stands (λ (p, w). (added p (record_of.Link c.args.h), stands c p w)) }

pub returns : goal.returns
unfolding link_of opposite
returns c = taken (passes c.before) (stands c.before)
