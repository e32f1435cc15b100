-- Each text is put behind the one before.
-- Assumes nothing.
use Rattle.text.specs.Lines.{answer_text}
use Rattle.text.proofs.Stores.{joined}
use Rattle.text.proofs.unchecked.lines.Page.put_pair.Goals as goal

pub returns : goal.returns
unfolding answer_text
returns c = joined c.put_number.ensures (joined c.put.ensures c.put_number-2.ensures)
