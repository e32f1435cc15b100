-- The number of one byte that the layout says is the destination.
use Rattle.std.proofs.Common.{◌∙◌}
use Rattle.table.specs.Listed.{destination_in_lem}
use Rattle.table.proofs.unchecked.reading.Table.destination.Goals as goal

pub returns : goal.returns
unfolding destination_in_lem
returns c = c.number_at.ensures.0 ∙ rw c.args.self.laid
