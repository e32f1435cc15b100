-- The tests are those of a setting.
use Rattle.std.proofs.Common.{◌≡◌, sym, Err, rules}
use Rattle.network.specs.Forwarding.{start}
use Rattle.topology_sound.proofs.Place.{on_place_err, on_place_ok, on_place_next}
use Rattle.forwarding_rules.specs.Calls.{refused, packet_in, says, setting_at}
use Rattle.forwarding.proofs.set.Goals as goal

pub returns-in_err-test_place : goal.returns-in_err-test_place
unfolding setting_at says
returns-in_err-test_place c =
    let e : c.from_residual.result ≡ Err c.in_err-test_place.field-0.0 = search rules in
    rw e (on_place_err c.args.t c.args.start.0 refused _ _ (c.in_err-test_place.ensures))

pub returns : goal.returns
unfolding setting_at says packet_in start
returns c =
    let (good, place) = on_place_ok c.args.t c.args.start.0 (c.in_ok-test_place.ensures) in
    sym (on_place_next refused _ _ _ good place)
