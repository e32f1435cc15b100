-- Each text is put behind the one before.
-- Assumes nothing.
use Rattle.std.proofs.Common.{sym}
use Rattle.text.specs.Lines.{buffer_line}
use Rattle.text.proofs.Stores.{joined}
use Rattle.text.proofs.unchecked.lines.Page.put_buffer_line.Goals as goal

pub returns : goal.returns
unfolding buffer_line
returns c = rw (sym c.into.ensures) (joined c.put_pair.ensures (joined c.put.ensures (joined c.put_bytes.ensures c.put-2.ensures)))
