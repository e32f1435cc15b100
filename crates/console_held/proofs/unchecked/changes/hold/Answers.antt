-- The topology alone changes, and the reply is the answer.
-- Assumes nothing.
use Rattle.std.proofs.Common.{refl}
use Rattle.console_held.specs.Requests.{taken_answer}
use Rattle.console_held.specs.Inner.{held_in}
use Rattle.console_held.proofs.Replying.{answer_reply, reading_returned}
use Rattle.console_held.proofs.unchecked.changes.hold.Goals as goal

pub returns-clause-served : goal.returns-clause-served
unfolding taken_answer held_in
returns-clause-served c = rw c.of-reading.ensures (record { held = refl; replies = answer_reply refl })

pub returns-clause-returned : goal.returns-clause-returned
returns-clause-returned c = rw c.of-reading.ensures (reading_returned c.args.read)
