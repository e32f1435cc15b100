-- The number behind the kind of the row, as wide as a rank.
use Rattle.std.proofs.Common.{◌∙◌}
use Rattle.table.proofs.Fields.{rank_read}
use Rattle.table.proofs.unchecked.reading.Table.rank.Goals as goal

pub returns : goal.returns
returns c = c.number_at.ensures.0 ∙ rank_read c.args.self.laid c.args.self.bytes.now c.args.u c.row_start-at.ensures
