-- Each text is put behind the one before.
-- Assumes nothing.
use Rattle.std.proofs.Common.{sym}
use Rattle.text.specs.Lines.{answer_line}
use Rattle.text.proofs.Stores.{joined}
use Rattle.text.proofs.unchecked.lines.Page.put_answer_line.Goals as goal

pub returns : goal.returns
unfolding answer_line
returns c = rw (sym c.into.ensures) (joined c.put_pair.ensures c.put.ensures)
