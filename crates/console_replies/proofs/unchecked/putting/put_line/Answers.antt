-- The line's end is put behind the text.
-- Assumes nothing.
use Rattle.text.proofs.Stores.{joined}
use Rattle.console_replies.proofs.unchecked.putting.put_line.Goals as goal

pub returns : goal.returns
returns c = joined c.put.ensures c.put-2.ensures
