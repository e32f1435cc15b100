-- The bytes are imported, and the table stays.
-- Assumes nothing.
use Rattle.console_held.specs.Requests.{import_by}
use Rattle.console_held.specs.Inner.{question_in}
use Rattle.console_held.proofs.unchecked.changes.import.Goals as goal

pub returns-clause-served : goal.returns-clause-served
unfolding import_by question_in
returns-clause-served c = rw (← c.import.ensures) c.hold.ensures.served
