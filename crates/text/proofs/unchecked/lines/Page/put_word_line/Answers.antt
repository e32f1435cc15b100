-- Each text is put behind the one before.
-- Assumes nothing.
use Rattle.text.specs.Lines.{word_line}
use Rattle.text.proofs.Stores.{joined}
use Rattle.text.proofs.unchecked.lines.Page.put_word_line.Goals as goal

pub returns : goal.returns
unfolding word_line
returns c = joined c.put.ensures (joined c.put-2.ensures c.put_answer_line.ensures)
