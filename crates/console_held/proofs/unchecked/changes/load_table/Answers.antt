-- The bytes are held as the table.
-- Assumes nothing.
use Rattle.std.proofs.Common.{refl}
use Rattle.console_held.specs.Requests.{load_by, answer_of}
use Rattle.console_held.specs.Inner.{question_in}
use Rattle.console_held.proofs.Replying.{answer_reply, success_returned}
use Rattle.console_held.proofs.unchecked.changes.load_table.Goals as goal

pub returns-clause-served : goal.returns-clause-served
unfolding load_by question_in answer_of
returns-clause-served c = record { held = c.load.ensures; replies = answer_reply refl }

pub returns-clause-returned : goal.returns-clause-returned
returns-clause-returned c = success_returned
