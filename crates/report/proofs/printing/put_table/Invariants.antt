-- The lines of the places passed were put.
-- Assumes nothing.
use Rattle.network.specs.Lists.{below}
use Rattle.listing_rules.specs.Inner.{most_listing_line, line_in}
use Rattle.listing_rules.proofs.InTurn.{SoFar}
use Rattle.report.proofs.printing.put_table.Given as goal

abbrev pub invariant-loop-u : goal.invariant-loop-u
invariant-loop-u l = SoFar (line_in l.table.bytes.now l.hops l.destination.0) most_listing_line l.fn.page (below l.u) l.u l.page
