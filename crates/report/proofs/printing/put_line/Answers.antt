-- The fields, the row and the line's end are put one behind the other.
-- Assumes nothing.
use Rattle.std.proofs.Common.{arith}
use Rattle.text.proofs.Stores.{joined}
use Rattle.listing_rules.proofs.Fields.{line_fields, front-length, row-length}
use Rattle.report.proofs.printing.put_line.Goals as goal

pub put_row-requires : goal.put_row-requires
put_row-requires c = (c.requires.1, omega (arith, front-length c.args.front c.requires.0))

pub put-requires : goal.put-requires
put-requires c = omega (arith, front-length c.args.front c.requires.0, row-length c.args.row.now c.requires.1)

pub returns : goal.returns
returns c = rw (line_fields c.args.front c.args.row.now) (joined c.put_front.ensures (joined c.put_row.ensures c.put.ensures))
