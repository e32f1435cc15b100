-- A router more is taken in turn.
-- Assumes nothing.
use Rattle.std.proofs.Common.{◌≡◌, Ok, Err, rules}
use Rattle.topology_types.specs.declared.Fault.{Fault}
use Rattle.ospf.specs.Import.{router_of}
use Rattle.ospf.proofs.Going.{routed_first, router_off, router_on, routed_end, listed_so}
use Rattle.ospf.proofs.unchecked.routers_of.Goals as goal

pub loop-lsa-init : goal.loop-lsa-init
loop-lsa-init c = (tt, tt, rw c.into_iter-lsa-iterator.ensures.into_iter_gives (routed_first c.new-listing.ensures))

pub loop-lsa-preserved : goal.loop-lsa-preserved
unfolding router_of
loop-lsa-preserved c =
    let w = rw c.in-Some.ensures.steps at c.loop-lsa.invariant.2 in
    let t = rw c.advertising_router.ensures at c.take_router.ensures in
    let passed : c.take_router.result ≡ Ok tt = search rules in
    (tt, tt, router_on w t passed)

pub returns-in_err-map_err : goal.returns-in_err-map_err
unfolding router_of
returns-in_err-map_err c =
    let w = rw c.in-Some.ensures.steps at c.loop-lsa.invariant.2 in
    let t = rw c.advertising_router.ensures at c.take_router.ensures in
    let e : c.from_residual.result ≡ Err c.in_err-map_err.field-0.0 = search rules in
    let (f, was, is) : (f : Fault) × (c.take_router.result ≡ Err f) × (c.in_err-map_err.field-0.0 ≡ record { fault = f; at = c.in-Some.lsa.at }) = search rules in
    record { reads = rw (e, is) (router_off w t f was); listed = rw e tt }

pub returns : goal.returns
returns c =
    let r = routed_end (rw c.in-None.ensures.steps.0 at c.loop-lsa.invariant.2) in
    record { reads = listed_so r; listed = r }
