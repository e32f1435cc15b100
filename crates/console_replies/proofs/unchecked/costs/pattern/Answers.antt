-- A pattern of 32 bits fits.
-- Assumes nothing.
use Rattle.std.proofs.Common.{sym, subst, arith, T}
use lib.Ieee.{binary32}
use lib.Ieee.Bits.{to_bits-lt}
use Rattle.console_replies.proofs.unchecked.costs.pattern.Goals as goal

pub overflow_cast-result : goal.overflow_cast-result
overflow_cast-result c = omega (arith, to_bits-lt binary32 c.args.bandwidth (subst T (sym c.well_formed.0.1) tt))
