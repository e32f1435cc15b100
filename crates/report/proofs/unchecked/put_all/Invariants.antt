-- The lines of the destinations passed were put.
-- Assumes nothing.
use Rattle.network.specs.Lists.{below}
use Rattle.listing_rules.specs.Listing.{lines_for}
use Rattle.listing_rules.specs.Inner.{most_listing_lines}
use Rattle.listing_rules.proofs.InTurn.{SoFar}
use Rattle.report.proofs.unchecked.put_all.Given as goal

abbrev pub invariant-loop-d : goal.invariant-loop-d
invariant-loop-d l = SoFar (lines_for l.t) most_listing_lines l.fn.page (below l.d) l.d l.page
