-- The two numbers and the colon are put one behind the other.
-- Assumes nothing.
use Rattle.std.proofs.Common.{arith}
use Rattle.text.proofs.Stores.{joined}
use Rattle.text.proofs.Texts.{answer_length}
use Rattle.paths_lines.specs.Lines.{colon}
use Rattle.paths_lines.specs.Inner.{start_text}
use Rattle.paths_lines.proofs.printing.put_front.Goals as goal

pub put-requires : goal.put-requires
put-requires c = omega (arith, answer_length c.index.result c.index-2.result)

pub returns : goal.returns
unfolding start_text colon
returns c = joined (rw (c.index.ensures, c.index-2.ensures) at c.put_pair.ensures) c.put.ensures
