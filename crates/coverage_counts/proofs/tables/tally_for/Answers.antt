-- The table that was built is the destination's, so that what is counted in it is what is counted of the destination.
-- Assumes nothing.
use Rattle.std.proofs.Common.{◌≡◌, sym, ◌∙◌}
use Rattle.order.specs.Calls.{mode_of}
use Rattle.listing_rules.specs.Listing.{table_for}
use Rattle.coverage_rules.proofs.Counting.{covered_to, listed_to, countable}
use Rattle.coverage_counts.proofs.tables.tally_for.Goals as goal

pub tally-requires : goal.tally-requires
unfolding table_for mode_of
tally-requires c =
    let (good, laid, place) = c.requires in
    let e : c.of.result.bytes.now ≡ table_for c.args.t.now c.args.destination.0 = c.of.ensures ∙ c.as_slice.ensures ∙ c.build-built.ensures in
    rw e (countable _ good _ place)

pub returns : goal.returns
unfolding table_for mode_of
returns c =
    let (good, laid, place) = c.requires in
    let e : c.of.result.bytes.now ≡ table_for c.args.t.now c.args.destination.0 = c.of.ensures ∙ c.as_slice.ensures ∙ c.build-built.ensures in
    let counts = rw e at c.tally.ensures in
    (counts.0 ∙ sym (covered_to _ good _ place), counts.1 ∙ sym (listed_to _ good _ place))
