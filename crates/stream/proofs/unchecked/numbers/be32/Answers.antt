-- The bytes from `at` on begin with the four that are read.
-- Assumes nothing.
use Rattle.std.proofs.Common.{arith}
use Rattle.stream_rules.proofs.Stream.{four-at}
use Rattle.stream.proofs.unchecked.numbers.be32.Goals as goal

pub returns : goal.returns
returns c = omega (arith, four-at c.args.s.now c.args.at c.requires, c.from_be_bytes.ensures)
