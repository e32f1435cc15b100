-- A destination's lines more are put behind those passed.
-- Assumes nothing.
use Rattle.std.proofs.Common.{arith, ◌≡◌}
use Rattle.topology_sound.proofs.Sound.{sound_exact}
use Rattle.listing_rules.specs.Listing.{lines_for, all_lines}
use Rattle.listing_rules.specs.Inner.{most_listing_lines}
use Rattle.listing_rules.proofs.InTurn.{none_below, more_below}
use Rattle.listing_rules.proofs.Tables.{lines_length}
use Rattle.report.proofs.unchecked.put_all.Goals as goal

pub loop-d-init : goal.loop-d-init
loop-d-init c = none_below (lines_for _) most_listing_lines _

pub overflow_cast-d : goal.overflow_cast-d
overflow_cast-d c = omega (arith, ((sound_exact _).0 c.requires.0).routers_most)

pub loop-d-preserved : goal.loop-d-preserved
loop-d-preserved c =
    let at = c.loop-d in
    more_below (lines_for c.args.t.now) most_listing_lines at.invariant (lines_length c.args.t.now c.requires.0 at.d c.loop-d-test.true)
    c.put_lines.ensures

pub returns : goal.returns
unfolding all_lines
returns c =
    let all : c.loop-d.d ≡ c.args.t.now.routers = omega arith in
    rw all at c.loop-d.invariant.puts
