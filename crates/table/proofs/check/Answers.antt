-- `table::check` meets its contract: 14, and then the tests that follow it.
-- Assumes nothing.
use Rattle.std.proofs.Common.{◌≡◌, true, false, sym, ap, ◌∙◌}
use Rattle.topology_types.specs.Outcome.{refused}
use Rattle.topology_sound.specs.Sound.{sound}
use Rattle.table.specs.Calls.{table_checking}
use Rattle.table.proofs.check.Goals as goal

pub returns-then-not-is_sound : goal.returns-then-not-is_sound
unfolding table_checking
returns-then-not-is_sound c =
    let e : sound c.args.t ≡ false = sym c.if-not-is_sound.ensures in
    ap refused c.at.ensures ∙ rw e

pub returns : goal.returns
unfolding table_checking
returns c =
    let e : sound c.args.t ≡ true = sym c.if-not-is_sound.ensures in
    c.check.ensures ∙ rw e
