-- The tests are those of a walk, in turn, and then it is made by the accepted table.
use Rattle.std.proofs.Common.{◌≡◌, sym, ap, Err, rules, refl, arith}
use Rattle.topology_sound.proofs.Place.{on_place_err, on_place_ok}
use Rattle.forwarding_rules.specs.Calls.{refused, done, says, tested, tested_over, walking}
use Rattle.forwarding.proofs.Returned.{table_refused, table_passed, points_at, none_points}
use Rattle.forwarding.proofs.Passed.{walk_placed, walk_listed, walk_stated}
use Rattle.forwarding.proofs.walk.Goals as goal

pub returns-in_err-test_place : goal.returns-in_err-test_place
unfolding walking says
returns-in_err-test_place c =
    let e : c.from_residual.result ≡ Err c.in_err-test_place.field-0.0 = search rules in
    rw e (on_place_err c.args.t c.args.start.0 refused _ _ (c.in_err-test_place.ensures))

pub of-a-requires : goal.of-a-requires
of-a-requires c = (on_place_ok c.args.t c.args.start.0 (c.in_ok-test_place.ensures)).0

pub check-requires : goal.check-requires
check-requires c = ((on_place_ok c.args.t c.args.start.0 (c.in_ok-test_place.ensures)).0, c.of-a.ensures)

pub returns-in_err-check : goal.returns-in_err-check
unfolding says
returns-in_err-check c =
    let e : c.from_residual-in_err-check.result ≡ Err c.in_err-check.field-0.0 = search rules in
    let (good, place) = on_place_ok c.args.t c.args.start.0 (c.in_ok-test_place.ensures) in
    rw (e, walk_placed c.args.t c.args.table.now good c.args.start.0 c.args.schedule.now place)
    (table_refused c.args.t c.args.table.now good _ _ (c.in_err-check.ensures))

pub is_whole-requires : goal.is_whole-requires
is_whole-requires c = let (good, place) = on_place_ok c.args.t c.args.start.0 (c.in_ok-test_place.ensures) in omega arith

pub returns-then-not-is_whole : goal.returns-then-not-is_whole
unfolding says tested
returns-then-not-is_whole c =
    let (good, place) = on_place_ok c.args.t c.args.start.0 (c.in_ok-test_place.ensures) in
    let accepted = table_passed c.args.t c.args.table.now good (c.in_ok-check.ensures) in
    rw (c.at.ensures, walk_listed c.args.t c.args.table.now good c.args.start.0 c.args.schedule.now place accepted, ← c.if-not-is_whole.ensures) refl

pub returns-in-Some : goal.returns-in-Some
unfolding says
returns-in-Some c =
    let (good, place) = on_place_ok c.args.t c.args.start.0 (c.in_ok-test_place.ensures) in
    let accepted = table_passed c.args.t c.args.table.now good (c.in_ok-check.ensures) in
    rw (c.at-in-Some.ensures, walk_stated c.args.t c.args.table.now good c.args.start.0 c.args.schedule.now place accepted (sym c.if-not-is_whole.ensures))
    (points_at _ _ 23 _ c.in-Some.ensures)

pub walk_by-requires : goal.walk_by-requires
walk_by-requires c =
    let (good, place) = on_place_ok c.args.t c.args.start.0 (c.in_ok-test_place.ensures) in
    let accepted = table_passed c.args.t c.args.table.now good (c.in_ok-check.ensures) in (
      record { on_sound = good; holds = c.of-a.ensures; passes = accepted },
      place,
      record { whole = sym c.if-not-is_whole.ensures; states = none_points _ c.in_default.ensures },
    )

pub returns : goal.returns
unfolding says tested_over
returns c =
    let (good, place) = on_place_ok c.args.t c.args.start.0 (c.in_ok-test_place.ensures) in
    let accepted = table_passed c.args.t c.args.table.now good (c.in_ok-check.ensures) in
    rw (
      walk_stated c.args.t c.args.table.now good c.args.start.0 c.args.schedule.now place accepted (sym c.if-not-is_whole.ensures),
      none_points _ c.in_default.ensures,
    ) (ap done c.walk_by.ensures)
