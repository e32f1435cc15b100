-- The figures are put behind `0 0`.
-- Assumes nothing.
use Rattle.text.proofs.Stores.{joined}
use Rattle.console_replies.proofs.unchecked.figures.put_figures.Goals as goal

pub returns : goal.returns
returns c = joined c.put.ensures c.put_coverage.ensures
