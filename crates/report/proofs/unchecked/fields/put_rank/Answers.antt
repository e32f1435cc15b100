-- A byte of three digits has those of its tenth part, and the last behind them.
-- Assumes nothing.
use Rattle.std.proofs.Common.{arith, ◌/◌}
use Rattle.text.proofs.Stores.{joined}
use Rattle.listing_rules.proofs.Fields.{field_length, byte_digits}
use Rattle.report.proofs.unchecked.fields.put_rank.Goals as goal

pub put-requires : goal.put-requires
put-requires c = omega (arith, field_length (c.args.rank.0 / 10) (omega arith))

pub returns-else-n-lt100 : goal.returns-else-n-lt100
returns-else-n-lt100 c =
    rw (byte_digits c.args.rank.0 (omega arith) (omega arith)) (joined c.put_field-else-n-lt100.ensures c.put.ensures)
