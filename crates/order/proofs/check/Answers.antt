-- `order::check` meets its contract: 14 and 15 are tested first, and then judging answers.
-- Assumes nothing.
use Rattle.std.proofs.Common.{◌≡◌, ◌∙◌, ap, rules}
use Rattle.std.specs.Prelude.{Err}
use Rattle.topology_types.specs.Outcome.{answer, tested}
use Rattle.topology_sound.proofs.Place.{on_place_err, on_place_ok}
use Rattle.distances.proofs.Laid.{laid_out}
use Rattle.order.specs.Calls.{checking}
use Rattle.order.proofs.Decided.{judged}
use Rattle.order.proofs.check.Goals as goal

pub returns-in_err-test_place : goal.returns-in_err-test_place
unfolding checking
returns-in_err-test_place c =
    let e : c.from_residual.result ≡ Err c.in_err-test_place.field-0.0 = search rules in
    ap tested e ∙ on_place_err c.args.t c.args.destination.0 answer _ _ (c.in_err-test_place.ensures)

pub of-a-requires : goal.of-a-requires
of-a-requires c = (on_place_ok c.args.t c.args.destination.0 (c.in_ok-test_place.ensures)).0

pub to-ds-requires : goal.to-ds-requires
to-ds-requires c =
    let (good, place) = on_place_ok c.args.t c.args.destination.0 (c.in_ok-test_place.ensures) in
    ((c.args.t, laid_out good c.of-a.ensures), place)

pub judge-requires : goal.judge-requires
judge-requires c =
    let (good, place) = on_place_ok c.args.t c.args.destination.0 (c.in_ok-test_place.ensures) in
    record { is-sound = good; holds = c.of-a.ensures; place = place; settled = c.to-ds.ensures c.args.t (laid_out good c.of-a.ensures) }

pub returns : goal.returns
returns c =
    let (good, place) = on_place_ok c.args.t c.args.destination.0 (c.in_ok-test_place.ensures) in
    c.judge.ensures ∙ judged _ _ _ _ good place
