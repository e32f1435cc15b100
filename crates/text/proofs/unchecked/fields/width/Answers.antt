-- The index of the first such byte, and the length where there is none, are how many bytes stand before it.
-- Assumes nothing.
use Rattle.std.proofs.Common.{◌∙◌}
use Rattle.text.proofs.Scan.{before_first}
use Rattle.text.proofs.unchecked.fields.width.Goals as goal

pub returns : goal.returns
returns c = c.unwrap_or.ensures ∙ rw c.index_of.ensures (before_first c.args.stop c.args.s.now)
