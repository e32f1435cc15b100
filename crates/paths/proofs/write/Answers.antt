-- The tests go in 01's order; the paths are gathered in a buffer of our own, which 512 of them fit, and given to the one that was lent.
use Rattle.std.proofs.Common.{◌≡◌, ◌≤◌, ◌*◌, ℕ, List, length, take, sym, ◌∙◌, Err, rules, refl, arith}
use borrow.Author.Tests.{lt-ltb, le-ltb, ne_eqb}
use Rattle.topology_types.specs.declared.Topology.{Topology}
use Rattle.topology_types.specs.Outcome.{answer, number_of, refused, turned_away, given}
use Rattle.topology_types.proofs.Outcome.{numbered}
use Rattle.topology_sound.specs.Place.{on_place}
use Rattle.topology_sound.proofs.Place.{on_place_err, on_place_ok, on_place_next}
use Rattle.table.specs.Calls.{unless_refused, table_judging, table_checking}
use Rattle.forwarding.proofs.Returned.{judged_checked, table_passed}
use Rattle.paths_rules.specs.Calls.{paths_bytes, writing_paths}
use Rattle.paths_rules.specs.Theorems.{Passed}
use Rattle.paths_rules.proofs.Answers.{on_passed}
use Rattle.paths.specs.Inner.{found, PathsListed}
use Rattle.paths.proofs.Start.{beyond, within, needed, front}
use Rattle.paths.proofs.write.Goals as goal

pub returns-in_err-test_place : goal.returns-in_err-test_place
unfolding writing_paths turned_away
returns-in_err-test_place c =
    let e : c.from_residual.result ≡ Err c.in_err-test_place.field-0.0 = search rules in
    rw e (on_place_err c.args.t c.args.start.0 (λ number at. turned_away number at c.args.out.now) _ _ c.in_err-test_place.ensures)

pub of-a-requires : goal.of-a-requires
of-a-requires c = (on_place_ok c.args.t c.args.start.0 c.in_ok-test_place.ensures).0

pub check-requires : goal.check-requires
check-requires c = ((on_place_ok c.args.t c.args.start.0 c.in_ok-test_place.ensures).0, c.of-a.ensures)

pub returns-in_err-check : goal.returns-in_err-check
unfolding writing_paths turned_away unless_refused
returns-in_err-check c =
    let e : c.from_residual-in_err-check.result ≡ Err c.in_err-check.field-0.0 = search rules in
    let (good, place) = on_place_ok c.args.t c.args.start.0 c.in_ok-test_place.ensures in
    let r = c.in_err-check.field-0.0 in
    let is : table_checking c.args.t c.args.table.now ≡ refused r = sym (c.in_err-check.ensures ∙ judged_checked c.args.t c.args.table.now good) in
    rw (e, on_place_next, is, ne_eqb (number_of r.fault) 0 (λ z. omega (arith, numbered r.fault, z))) refl

-- the table is accepted
on : (t : Topology) (table : List ℕ) (u : ℕ) → answer 0 0 ≡ on_place answer t u (answer 0 0) → answer 0 0 ≡ table_judging t table → Passed t table u
on t table u placed judged =
    let (good, place) = on_place_ok t u placed in
    record { is-sound = good; accepted = table_passed t table good judged; place = place }

pub gather-requires : goal.gather-requires
gather-requires c = (on _ _ _ c.in_ok-test_place.ensures c.in_ok-check.ensures, omega (arith, c.room_for_paths-paths.ensures))

-- the bytes of the paths that were gathered
bytes : {t : Topology} {table : List ℕ} {u : ℕ} {b : List ℕ} {r : ℕ} {b' : List ℕ} → PathsListed t table u b r b' → length b ≡ 32768 → r ≤ 512 →
    take (64 * r) b' ≡ paths_bytes t table u
bytes l long few = front l few (omega arith)

pub returns-in_default : goal.returns-in_default
unfolding turned_away found
returns-in_default c =
    rw (
      c.at.ensures,
      c.index.ensures,
      on_passed c.args.t c.args.table.now c.args.start.0 c.args.out.now (on _ _ _ c.in_ok-test_place.ensures c.in_ok-check.ensures),
      beyond c.in_default.ensures.listed (omega arith),
    ) refl

pub returns-then-out-needed : goal.returns-then-out-needed
unfolding given turned_away found
returns-then-out-needed c =
    let few = c.in-Some.ensures.few _ refl in
    rw (
      c.at-then-out-needed.ensures,
      on_passed c.args.t c.args.table.now c.args.start.0 c.args.out.now (on _ _ _ c.in_ok-test_place.ensures c.in_ok-check.ensures),
      within c.in-Some.ensures.listed few,
      needed c.in-Some.ensures.listed few,
      lt-ltb _ _ c.if-out-needed.true,
    ) refl

pub returns : goal.returns
unfolding given found
returns c =
    let few = c.in-Some.ensures.few _ refl in
    rw (
      c.copy_from_slice.ensures.after,
      on_passed c.args.t c.args.table.now c.args.start.0 c.args.out.now (on _ _ _ c.in_ok-test_place.ensures c.in_ok-check.ensures),
      within c.in-Some.ensures.listed few,
      needed c.in-Some.ensures.listed few,
      le-ltb _ _ c.if-out-needed.false,
      bytes c.in-Some.ensures.listed (sym c.room_for_paths-paths.ensures) few,
    ) refl
