-- The word is `refused`.
-- Assumes nothing.
use Rattle.text.specs.Lines.{refused_word}
use Rattle.program_io.specs.Output.{refused_line}
use Rattle.program_io.proofs.unchecked.put_refused.Goals as goal

pub returns : goal.returns
unfolding refused_line refused_word
returns c = c.put_word_line.ensures
