-- The bytes are read, and the table stays.
-- Assumes nothing.
use Rattle.console_held.specs.Requests.{read_by}
use Rattle.console_held.specs.Inner.{question_in}
use Rattle.console_held.proofs.unchecked.changes.read.Goals as goal

pub returns-clause-served : goal.returns-clause-served
unfolding read_by question_in
returns-clause-served c = rw (← c.read.ensures) c.hold.ensures.served
