-- The length stands in the third and fourth byte.
-- Assumes nothing.
use Rattle.te.proofs.SubTlvs.{span-at}
use Rattle.te.proofs.reading.span_of.Goals as goal

pub returns : goal.returns
returns c = rw (span-at c.args.s.now c.requires, ← c.be16.ensures) c.span.ensures
