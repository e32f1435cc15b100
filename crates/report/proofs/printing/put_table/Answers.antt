-- A line more is put behind those passed.
-- Assumes nothing.
use Rattle.std.proofs.Common.{arith, ℕ, List, length, get_or, ◌<◌, ◌≡◌}
use Rattle.table.specs.Listed.{rank_in_lem}
use Rattle.listing_rules.specs.Inner.{most_listing_line, front_of_lem, front_line, Listable, line_in, table_text, Small}
use Rattle.listing_rules.proofs.InTurn.{none_below, more_below}
use Rattle.listing_rules.proofs.Fields.{line_length}
use Rattle.listing_rules.proofs.Tables.{entries_fit}
use Rattle.report.proofs.printing.put_table.Goals as goal

-- the fields before the row of a place
fields_small : {table hops : List ℕ} {n d u : ℕ} → Listable table hops n d → u < n →
    Small (front_of_lem d u (rank_in_lem table u) (get_or hops u 0))
fields_small {u = u} l h =
    record {
      destination = omega (arith, l.destination, l.routers);
      router = omega (arith, l.routers);
      rank = l.rank u h;
      hops = l.hop_count u h;
    }

pub loop-u-init : goal.loop-u-init
loop-u-init c = none_below (line_in _ _ _) most_listing_line _

pub put_line-requires : goal.put_line-requires
put_line-requires c =
    let l = c.requires.0 in
    let h = c.loop-u-test.true in (
      rw c.front_of.ensures (fields_small l h),
      rw c.row.ensures (entries_fit (l.row c.loop-u.u h)),
      omega arith,
    )

pub loop-u-preserved : goal.loop-u-preserved
unfolding line_in front_line
loop-u-preserved c =
    let l = c.requires.0 in
    let h = c.loop-u-test.true in
    let at = c.loop-u in
    let few = line_length _ _ (fields_small l h) (entries_fit (l.row at.u h)) in
    more_below (line_in c.args.table.bytes.now c.args.hops.now c.args.destination.0) most_listing_line at.invariant few
    (rw (c.front_of.ensures, c.row.ensures) at c.put_line.ensures)

pub returns : goal.returns
unfolding table_text
returns c =
    let all : c.loop-u.u ≡ length c.args.hops.now = omega arith in
    rw all at c.loop-u.invariant.puts
