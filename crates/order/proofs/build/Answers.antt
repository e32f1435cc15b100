-- `order::build` meets its contract: the order that is built has as many bytes as there are routers, so the tests are those of building, in turn.
-- Assumes nothing.
use Rattle.std.proofs.Common.{◌≡◌, [], ap, ◌∙◌, arith, rules}
use Rattle.std.specs.Prelude.{Err}
use borrow.Author.Tests.{lt-ltb, le-ltb}
use Rattle.topology_types.specs.Outcome.{answer_of, given, turned_away}
use Rattle.topology_sound.proofs.Sound.{sound_exact}
use Rattle.topology_sound.proofs.Place.{on_place_err, on_place_ok, on_place_next}
use Rattle.order.specs.Calls.{building}
use Rattle.distances.proofs.Laid.{laid_out}
use Rattle.order.proofs.Orders.{order_long}
use Rattle.order.proofs.Lending.{laid_by, lent, as_many, built}
use Rattle.order.proofs.build.Goals as goal

pub returns-in_err-test_place : goal.returns-in_err-test_place
unfolding building turned_away
returns-in_err-test_place c =
    let e : c.from_residual.result ≡ Err c.in_err-test_place.field-0.0 = search rules in
    ap (λ r. record { answer = answer_of r; buffer = c.args.out.now }) e
    ∙ on_place_err c.args.t c.args.destination.0 (λ number at. turned_away number at c.args.out.now) _ _ c.in_err-test_place.ensures

pub returns-then-out-n : goal.returns-then-out-n
unfolding building given turned_away
returns-then-out-n c =
    let (good, place) = on_place_ok c.args.t c.args.destination.0 c.in_ok-test_place.ensures in
    rw (c.at.ensures, on_place_next, order_long c.args.t good c.args.destination.0 place _ [], lt-ltb _ _ c.if-out-n.true)

pub of-a-requires : goal.of-a-requires
of-a-requires c = (on_place_ok c.args.t c.args.destination.0 c.in_ok-test_place.ensures).0

pub distances_for-ds-requires : goal.distances_for-ds-requires
distances_for-ds-requires c =
    let (good, place) = on_place_ok c.args.t c.args.destination.0 c.in_ok-test_place.ensures in
    ((c.args.t, laid_out good c.of-a.ensures), place)

pub shared_ref_as_front-build : goal.shared_ref_as_front-build
shared_ref_as_front-build c = ((sound_exact c.args.t).0 (on_place_ok c.args.t c.args.destination.0 c.in_ok-test_place.ensures).0).routers_most

pub build-requires : goal.build-requires
build-requires c =
    let g = laid_by c.in_ok-test_place.ensures c.of-a.ensures c.distances_for-ds.ensures in
    ((c.args.t, lent g), omega (arith, as_many g, c.if-out-n.false))

pub returns : goal.returns
unfolding building given turned_away
returns c =
    let (good, place) = on_place_ok c.args.t c.args.destination.0 c.in_ok-test_place.ensures in
    rw (built (laid_by c.in_ok-test_place.ensures c.of-a.ensures c.distances_for-ds.ensures) c.args.out.now c.build.ensures, on_place_next, order_long c.args.t good c.args.destination.0 place _ [], le-ltb _ _ c.if-out-n.false)
