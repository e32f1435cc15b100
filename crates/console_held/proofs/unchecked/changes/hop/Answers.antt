-- What the call says, with the packet as it left it, is what the request answers.
-- Assumes nothing.
use Rattle.std.proofs.Common.{refl}
use Rattle.console_held.specs.Requests.{carrying, hop_answer}
use Rattle.console_held.specs.Inner.{held_in}
use Rattle.console_held.proofs.unchecked.changes.hop.Goals as goal

pub returns-clause-served : goal.returns-clause-served
unfolding hop_answer carrying held_in
returns-clause-served c =
    let called = rw c.table.ensures.held at c.lend_to_hop-after.ensures in
    rw (← called) (record { held = refl; replies = c.hop_reply.ensures.says })
