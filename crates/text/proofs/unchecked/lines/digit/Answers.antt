-- Two ranges of digits.
-- Assumes nothing.
use Rattle.std.proofs.Common.{sym}
use Rattle.text.proofs.Texts.{digit_low, digit_high}
use Rattle.text.proofs.unchecked.lines.digit.Goals as goal

pub returns-then-n-lt10 : goal.returns-then-n-lt10
returns-then-n-lt10 c = sym (digit_low _ c.if-n-lt10.true)

pub returns-else-n-lt10 : goal.returns-else-n-lt10
returns-else-n-lt10 c = sym (digit_high _ c.if-n-lt10.false)
