-- Behind the pairs' two numbers those of the destinations passed were put.
-- Assumes nothing.
use Rattle.std.proofs.Common.{take}
use Rattle.listing_rules.proofs.InTurn.{SoFar}
use Rattle.coverage_rules.specs.Printed.{over_links, fraction_text}
use Rattle.coverage_rules.specs.Inner.{most_fraction}
use Rattle.coverage_counts.proofs.unchecked.put_coverage.Given as goal

abbrev pub invariant-loop-listed : goal.invariant-loop-listed
invariant-loop-listed l =
    SoFar (fraction_text l.last) most_fraction l.initial.page (over_links l.c.links (take l.listed-index l.listed-items)) l.listed-index l.page
