-- One digit or two.
-- Assumes nothing.
use Rattle.text.proofs.Texts.{one_digit, two_digits}
use Rattle.text.proofs.unchecked.lines.Page.put_small.Goals as goal

pub returns-then-n-lt10 : goal.returns-then-n-lt10
returns-then-n-lt10 c = rw (one_digit _ c.if-n-lt10.true) c.put.ensures

pub returns-else-n-lt10 : goal.returns-else-n-lt10
returns-else-n-lt10 c = rw (two_digits _ c.if-n-lt10.false c.requires.0) c.put-else-n-lt10.ensures
