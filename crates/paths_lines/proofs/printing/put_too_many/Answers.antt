-- The front and what is said of the start are put one behind the other.
-- Assumes nothing.
use Rattle.std.proofs.Common.{arith}
use Rattle.text.proofs.Stores.{joined}
use Rattle.paths_lines.specs.Lines.{too_many}
use Rattle.paths_lines.proofs.Fields.{too_many_fields, front_most}
use Rattle.paths_lines.proofs.printing.put_too_many.Goals as goal

pub put-requires : goal.put-requires
put-requires c = omega (arith, front_most c.args.destination.0 c.args.start.0)

pub returns : goal.returns
unfolding too_many
returns c = rw (too_many_fields _ _) (joined c.put_front.ensures c.put.ensures)
