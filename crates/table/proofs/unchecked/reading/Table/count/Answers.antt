-- The number behind the destination, as wide as a rank.
use Rattle.std.proofs.Common.{◌∙◌}
use Rattle.table.specs.Listed.{count_in_lem}
use Rattle.table.proofs.unchecked.reading.Table.count.Goals as goal

pub returns : goal.returns
unfolding count_in_lem
returns c = c.number_at.ensures.0 ∙ rw (c.from-at.ensures, c.args.self.laid)
