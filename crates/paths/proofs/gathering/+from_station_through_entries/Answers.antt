-- Both go by the rule for paths, turn by turn.
-- Assumes nothing.
use Rattle.std.proofs.Common.{◌≡◌, refl, sym, ◌∙◌, arith, ltb-false}
use borrow.Author.Tests.{eqb-true, eqb-false}
use Rattle.table.proofs.Fields.{headed, rowed}
use Rattle.paths.specs.Inner.{found}
use Rattle.paths.proofs.Behind.{none, stopped, then}
use Rattle.paths.proofs.Turns.{stands, few_entries, arrives, goes_on, past, next, asked_next, asked_again}
use Rattle.paths.proofs.gathering.+from_station_through_entries.Goals as goal

pub from_station-destination-home-requires : goal.from_station-destination-home-requires
from_station-destination-home-requires t c = rw c.of.ensures (headed (stands c.requires.on))

pub from_station-returns-then-eq : goal.from_station-returns-then-eq
from_station-returns-then-eq t c top on =
    record {
      gathered = arrives on (eqb-true _ _ (sym c.if-eq.ensures) ∙ rw c.of.ensures at c.destination-home.ensures) c.put_path.ensures.gathered;
      few = c.put_path.ensures.few;
    }

pub from_station-through_entries-requires : goal.from_station-through_entries-requires
from_station-through_entries-requires t c = (omega (arith, c.decreases, few_entries c.requires.on), asked_again c.requires c.requires.few refl)

pub from_station-returns : goal.from_station-returns
from_station-returns t c top on =
    let home = rw c.of.ensures at c.destination-home.ensures in
    let p = c.through_entries.ensures top on in
    record { gathered = goes_on on (λ e. eqb-false _ _ (sym c.if-eq.ensures) (e ∙ sym home)) p.gathered; few = p.few }

pub through_entries-row-row-requires : goal.through_entries-row-row-requires
through_entries-row-row-requires t c = rw (c.of.ensures, c.index.ensures) (rowed (stands c.requires.on) _ c.requires.on.place)

pub through_entries-returns-in_default : goal.through_entries-returns-in_default
unfolding found
through_entries-returns-in_default t c top on =
    let row = rw (c.of.ensures, c.index.ensures) at c.row-row.ensures in
    record {
      gathered = rw (past on row _ (ltb-false _ _ (sym c.in_default.ensures.lookup.0))) (none (omega (arith, c.requires.few)));
      few = λ n e.
          let same : c.args.count ≡ n = cc in
          omega (arith, c.requires.few);
    }

pub through_entries-from_station-requires : goal.through_entries-from_station-requires
through_entries-from_station-requires t c =
    let row = rw (c.of.ensures, c.index.ensures) at c.row-row.ensures in
    let n = next c.requires.on row _ _ c.in-Some.ensures.lookup.3 in
    (omega (arith, c.decreases, n.lower, n.inside), asked_next c.requires n)

pub through_entries-overflow_add-i : goal.through_entries-overflow_add-i
through_entries-overflow_add-i t c =
    let row = rw (c.of.ensures, c.index.ensures) at c.row-row.ensures in
    let n = next c.requires.on row _ _ c.in-Some.ensures.lookup.3 in
    omega (arith, n.inside, few_entries c.requires.on)

pub through_entries-returns-in_err-more : goal.through_entries-returns-in_err-more
unfolding found
through_entries-returns-in_err-more t c top on =
    let row = rw (c.of.ensures, c.index.ensures) at c.row-row.ensures in
    let n = next on row _ _ c.in-Some.ensures.lookup.3 in
    let g = c.in_err-more.ensures top n.stands in
    rw c.from_residual.ensures (record {
      gathered = rw n.paths (then g.gathered (stopped (omega arith) (omega arith)));
      few = λ n e. cc;
    })

pub through_entries-through_entries-requires : goal.through_entries-through_entries-requires
through_entries-through_entries-requires t c =
    let row = rw (c.of.ensures, c.index.ensures) at c.row-row.ensures in
    let n = next c.requires.on row _ _ c.in-Some.ensures.lookup.3 in (
      omega (arith, c.decreases, n.inside),
      asked_again c.requires ((c.in_ok-more.ensures c.requires.topology n.stands).few _ refl) c.from_station.auto.out,
    )

pub through_entries-returns : goal.through_entries-returns
unfolding found
through_entries-returns t c top on =
    let row = rw (c.of.ensures, c.index.ensures) at c.row-row.ensures in
    let n = next on row _ _ c.in-Some.ensures.lookup.3 in
    let p = c.through_entries.ensures top on in
    record { gathered = rw n.paths (then (c.in_ok-more.ensures top n.stands).gathered p.gathered); few = p.few }
