-- The tests are those of a hop, in turn, and then the hop is made by the accepted table.
use Rattle.std.proofs.Common.{◌≡◌, ap, Err, rules, refl}
use borrow.Author.Tests.{le-ltb, ne_eqb}
use Rattle.topology_sound.proofs.Place.{on_place_err, on_place_ok}
use Rattle.forwarding_rules.specs.Calls.{refused, done, packet_in, says, tested, tested_over, hopping}
use Rattle.forwarding.proofs.Returned.{table_refused, table_passed, points_at, none_points}
use Rattle.forwarding.proofs.Passed.{hop_placed, hop_made, hop_listed, hop_stated}
use Rattle.forwarding.proofs.hop.Goals as goal

pub returns-in_err-test_place : goal.returns-in_err-test_place
unfolding hopping says packet_in
returns-in_err-test_place c =
    let e : c.from_residual.result ≡ Err c.in_err-test_place.field-0.0 = search rules in
    rw e (on_place_err c.args.t c.args.packet.station.0 refused _ _ (c.in_err-test_place.ensures))

pub returns-then-t-hops : goal.returns-then-t-hops
unfolding says tested packet_in
returns-then-t-hops c =
    let (good, place) = on_place_ok c.args.t c.args.packet.station.0 (c.in_ok-test_place.ensures) in
    rw (c.at.ensures, hop_placed c.args.t c.args.table.now good c.args.states.now (packet_in c.args.packet) place, le-ltb _ _ c.if-t-hops.true) refl

pub of-a-requires : goal.of-a-requires
of-a-requires c = (on_place_ok c.args.t c.args.packet.station.0 (c.in_ok-test_place.ensures)).0

pub check-requires : goal.check-requires
check-requires c = ((on_place_ok c.args.t c.args.packet.station.0 (c.in_ok-test_place.ensures)).0, c.of-a.ensures)

pub returns-in_err-check : goal.returns-in_err-check
unfolding says packet_in
returns-in_err-check c =
    let e : c.from_residual-in_err-check.result ≡ Err c.in_err-check.field-0.0 = search rules in
    let (good, place) = on_place_ok c.args.t c.args.packet.station.0 (c.in_ok-test_place.ensures) in
    rw (e, hop_made c.args.t c.args.table.now good c.args.states.now (packet_in c.args.packet) place c.if-t-hops.false)
    (table_refused c.args.t c.args.table.now good _ _ (c.in_err-check.ensures))

pub returns-then-length-t : goal.returns-then-length-t
unfolding says tested packet_in
returns-then-length-t c =
    let (good, place) = on_place_ok c.args.t c.args.packet.station.0 (c.in_ok-test_place.ensures) in
    let accepted = table_passed c.args.t c.args.table.now good (c.in_ok-check.ensures) in
    rw (c.at-then-length-t.ensures, hop_listed c.args.t c.args.table.now good c.args.states.now (packet_in c.args.packet) place c.if-t-hops.false accepted, ne_eqb _ _ c.if-length-t.true) refl

pub returns-in-Some : goal.returns-in-Some
unfolding says packet_in
returns-in-Some c =
    let (good, place) = on_place_ok c.args.t c.args.packet.station.0 (c.in_ok-test_place.ensures) in
    let accepted = table_passed c.args.t c.args.table.now good (c.in_ok-check.ensures) in
    rw (c.at-in-Some.ensures, hop_stated c.args.t c.args.table.now good c.args.states.now (packet_in c.args.packet) place c.if-t-hops.false accepted c.if-length-t.false)
    (points_at _ _ 23 _ c.in-Some.ensures)

pub hop_by-requires : goal.hop_by-requires
hop_by-requires c =
    let (good, place) = on_place_ok c.args.t c.args.packet.station.0 (c.in_ok-test_place.ensures) in
    let accepted = table_passed c.args.t c.args.table.now good (c.in_ok-check.ensures) in
    (record { on_sound = good; holds = c.of-a.ensures; passes = accepted }, place, c.if-t-hops.false, c.if-length-t.false)

pub returns : goal.returns
unfolding says tested_over packet_in
returns c =
    let (good, place) = on_place_ok c.args.t c.args.packet.station.0 (c.in_ok-test_place.ensures) in
    let accepted = table_passed c.args.t c.args.table.now good (c.in_ok-check.ensures) in
    rw (
      hop_stated c.args.t c.args.table.now good c.args.states.now (packet_in c.args.packet) place c.if-t-hops.false accepted c.if-length-t.false,
      none_points _ c.in_default.ensures,
    ) (ap done c.hop_by.ensures)
