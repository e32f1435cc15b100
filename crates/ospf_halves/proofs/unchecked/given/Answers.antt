-- A link more gives its half, if it is new and leads to a place.
-- Assumes nothing.
use Rattle.std.proofs.Common.{◌≡◌, length, take, length-take-le, sym, arith}
use Rattle.ospf_lsas.specs.Opened.{links_left}
use Rattle.ospf_halves.specs.declared.unchecked.Halves.{Halves}
use Rattle.ospf_halves.proofs.Given.{at_first, at_most, ended, not_stored, stored, room}
use Rattle.ospf_halves.proofs.unchecked.given.Goals as goal

pub loop-link-init : goal.loop-link-init
loop-link-init c =
    (tt, tt, rw (c.into_iter-link-iterator.ensures.into_iter_gives, c.none-halves.ensures) (at_first c.args.ids.now c.args.place.0 (links_left c.links-links.result)))

-- as many as are counted
counted : (h : Halves) → length (take h.count h.half) ≡ h.count
counted h = length-take-le h.count h.half (omega (arith, h.few, h.slots))

pub push-requires : goal.push-requires
push-requires c =
    let g = rw c.in-Some.ensures.steps at c.loop-link.invariant.2 in
    let e = rw c.as_slice.ensures at c.in-Some-new_place.ensures in
    omega (arith, room g c.in-Some-new_place.to.0 (sym e), c.requires, counted c.loop-link.halves)

pub loop-link-preserved-in-Some-new_place : goal.loop-link-preserved-in-Some-new_place
loop-link-preserved-in-Some-new_place c =
    let g = rw c.in-Some.ensures.steps at c.loop-link.invariant.2 in
    let e = rw c.as_slice.ensures at c.in-Some-new_place.ensures in
    (tt, tt, rw c.push.ensures (stored g c.in-Some-new_place.to.0 (sym e) c.lowest_to.result c.lowest_to.ensures))

pub loop-link-preserved : goal.loop-link-preserved
loop-link-preserved c =
    let g = rw c.in-Some.ensures.steps at c.loop-link.invariant.2 in
    let e = rw c.as_slice.ensures at c.in_default.ensures in
    (tt, tt, not_stored g (sym e))

pub returns : goal.returns
returns c =
    let g = rw c.in-None.ensures.steps.0 at c.loop-link.invariant.2 in
    record {
      few = omega (arith, at_most c.args.ids.now c.args.place.0 (links_left c.links-links.result) g, counted c.loop-link.halves);
      halves = rw c.links-links.ensures at (ended c.args.ids.now c.args.place.0 (links_left c.links-links.result) g);
    }
