-- An empty row is a dash, and any other its entries.
-- Assumes nothing.
use Rattle.std.proofs.Common.{arith}
use Rattle.std.proofs.lemmas.Bool.Decides.{nat_tests}
use Rattle.listing_rules.proofs.Fields.{row_none, row_some}
use Rattle.report.proofs.printing.put_row.Goals as goal

pub returns-then-is_empty : goal.returns-then-is_empty
returns-then-is_empty c = rw (row_none c.args.row.now (grind (arith, nat_tests))) c.put.ensures

pub returns-else-is_empty : goal.returns-else-is_empty
returns-else-is_empty c = rw (row_some c.args.row.now (λ e. grind (arith, nat_tests))) c.put_fields.ensures
