-- The figures of a sound topology are counted, and any other is refused.
-- Assumes nothing.
use Rattle.std.proofs.Common.{◌≡◌, false, rules}
use Rattle.topology_types.specs.Topology.{padded}
use Rattle.topology_sound.specs.Sound.{sound}
use Rattle.coverage_rules.specs.Coverage.{nothing_counted, coverage}
use Rattle.report.proofs.coverage.Goals as goal

pub returns-then-not-is_sound : goal.returns-then-not-is_sound
unfolding coverage nothing_counted padded
returns-then-not-is_sound c =
    let unsound : sound c.args.t ≡ false = search rules in
    rw (unsound, c.at.ensures)
