-- A destination's two numbers more are put behind those passed.
-- Assumes nothing.
use Rattle.std.proofs.Common.{arith, length, get_or, ap, ◌∙◌, length-take}
use Rattle.std.proofs.Math.Seq.{take_all}
use Rattle.topology_types.proofs.Prefix.{map_more}
use Rattle.topology.specs.Written.{joined_over}
use Rattle.text.proofs.Stores.{joined}
use Rattle.listing_rules.proofs.InTurn.{none, more}
use Rattle.coverage_rules.specs.Printed.{Fraction, over_links, fractions, fraction_text, fractions_text}
use Rattle.coverage_rules.specs.Inner.{most_fraction}
use Rattle.coverage_rules.proofs.Printing.{fraction_length}
use Rattle.coverage_counts.proofs.unchecked.put_coverage.Goals as goal

pub loop-listed-init : goal.loop-listed-init
unfolding over_links
loop-listed-init c = none (fraction_text c.args.last) most_fraction _

pub put_fraction-requires-in-loop-listed : goal.put_fraction-requires-in-loop-listed
put_fraction-requires-in-loop-listed c =
    let figures = c.args.c.now in
    omega (
      arith,
      figures.few,
      ap length c.by_destination-listed-items.ensures ∙ length-take figures.destinations figures.listed,
      fraction_length c.args.last (record { part = figures.covered; whole = figures.pairs }),
    )

pub loop-listed-preserved : goal.loop-listed-preserved
unfolding over_links
loop-listed-preserved c =
    let at = c.loop-listed in
    let listed = c.by_destination-listed-items.result.now in
    let one : Fraction = record { part = get_or listed at.listed-index 0; whole = c.args.c.now.links } in
    more (fraction_text c.args.last) most_fraction at.invariant one (fraction_length c.args.last one) c.put_fraction-in-loop-listed.ensures
    (map_more _ listed at.listed-index 0 c.loop-listed-test.true)

pub returns : goal.returns
unfolding fractions_text fractions over_links joined_over
returns c =
    let all = take_all c.loop-listed.listed-index c.by_destination-listed-items.result.now (omega arith) in
    joined c.put_fraction.ensures (rw (all, c.by_destination-listed-items.ensures) at c.loop-listed.invariant.puts)
