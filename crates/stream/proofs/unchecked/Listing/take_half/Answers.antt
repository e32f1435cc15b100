-- The tests are those of a half's record; with its opposite, if that has a cost, the half makes a link.
-- Assumes nothing.
use Rattle.std.proofs.Common.{◌≡◌, ◌+◌, ◌<◌, ◌^◌, Err, arith, rules}
use Rattle.std.proofs.Math.Logic.{∥∥₁_map}
use Rattle.stream_rules.specs.Halves.{StreamListing}
use Rattle.stream_rules.specs.Reading.{fault, added}
use Rattle.stream_rules.specs.Record as record_of
use Rattle.stream_rules.specs.Inner.{Stands}
use Rattle.stream.specs.Listing.{Lists}
use Rattle.stream.proofs.Filled.{indexed, past_half}
use Rattle.stream.proofs.Steps.{refused, taken, few_routers, few_halves, half_passes, half_roomy, half_room}
use Rattle.stream.proofs.unchecked.Listing.take_half.Goals as goal

pub halves_fault-requires : goal.halves_fault-requires
halves_fault-requires c = (few_routers c.args.self.now, few_halves c.args.self.now)

pub returns-in_err-halves_fault : goal.returns-in_err-halves_fault
unfolding fault
returns-in_err-halves_fault c =
    let f = c.in_err-halves_fault.field-0.0 in
    let e : c.from_residual.result ≡ Err f = search rules in
    rw e (refused f (λ p w. c.in_err-halves_fault.ensures p (indexed w)))

pub half_taken-requires : goal.half_taken-requires
half_taken-requires c =
    let l = c.args.self.now in
    let passes = half_passes l c.args.h c.in_ok-halves_fault.ensures in
    (half_roomy l c.args.h passes, half_room l c.args.h passes)

pub overflow_add-self : goal.overflow_add-self
overflow_add-self c = omega (arith, few_halves c.args.self.now)

-- what it stands for then
module _ (c : goal.After-half_taken) where
  stands : (p : StreamListing) → Lists p c.args.self.now →
      Stands (added p (record_of.Half c.args.h)) c.half_taken.new.t c.half_taken.new.tables.costs c.half_taken.new.tables.leaving (c.args.self.now.halves + 1)
  stands p w = past_half w c.args.h (half_passes c.args.self.now c.args.h c.in_ok-halves_fault.ensures p w) fits c.half_taken.ensures
    where
      fits : c.args.h.cost < 2 ^ 16
      fits = omega arith

pub invariant_of-self : goal.invariant_of-self
invariant_of-self c = record { stands = ∥∥₁_map c.args.self.now.stands (λ (p, w). (added p (record_of.Half c.args.h), stands c p w)) }

pub returns : goal.returns
returns c = taken (half_passes c.args.self.now c.args.h c.in_ok-halves_fault.ensures) (stands c.before)
