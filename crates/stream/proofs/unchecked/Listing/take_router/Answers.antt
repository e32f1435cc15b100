-- The tests are those of a router's record; the router is stored in the first unused slot.
-- Assumes nothing.
use Rattle.std.proofs.Common.{◌≡◌, Err, sym, arith, rules}
use Rattle.std.proofs.Math.Logic.{∥∥₁_map}
use Rattle.stream_rules.specs.Reading.{fault, added}
use Rattle.stream_rules.specs.Record as record_of
use Rattle.stream.proofs.Filled.{past_router}
use Rattle.stream.proofs.Steps.{refused, taken, router_passes, router_room}
use Rattle.stream.proofs.unchecked.Listing.take_router.Goals as goal

pub returns-in_err-router_fault : goal.returns-in_err-router_fault
unfolding fault
returns-in_err-router_fault c =
    let f = c.in_err-router_fault.field-0.0 in
    let e : c.from_residual.result ≡ Err f = search rules in
    rw e (refused f (λ p w. c.in_err-router_fault.ensures p.contents (sym (c.ids.ensures p w))))

pub bounds-self-n : goal.bounds-self-n
bounds-self-n c =
    let l = c.args.self.now in
    router_room l c.args.id (router_passes l c.args.id c.ids.result.now c.ids.ensures c.in_ok-router_fault.ensures)

pub offset_bounds-self-n : goal.offset_bounds-self-n
offset_bounds-self-n c =
    let l = c.args.self.now in
    omega (arith, router_room l c.args.id (router_passes l c.args.id c.ids.result.now c.ids.ensures c.in_ok-router_fault.ensures))

pub overflow_add-self : goal.overflow_add-self
overflow_add-self c =
    let l = c.args.self.now in
    omega (arith, router_room l c.args.id (router_passes l c.args.id c.ids.result.now c.ids.ensures c.in_ok-router_fault.ensures))

pub invariant_of-self : goal.invariant_of-self
invariant_of-self c =
    let l = c.args.self.now in
    let passes = router_passes l c.args.id c.ids.result.now c.ids.ensures c.in_ok-router_fault.ensures in
    record {
      stands = ∥∥₁_map l.stands (λ (p, w). (added p (record_of.Router c.args.id), past_router w c.args.id (passes p w) c.ranges.id.fits));
    }

pub returns : goal.returns
returns c =
    let passes = router_passes c.args.self.now c.args.id c.ids.result.now c.ids.ensures c.in_ok-router_fault.ensures in
    taken passes (λ p w. past_router w c.args.id (passes p w) c.ranges.id.fits)
