-- The byte behind the count.
use Rattle.table.specs.Listed.{limit_in_lem}
use Rattle.table.proofs.unchecked.reading.Table.limit.Goals as goal

pub returns : goal.returns
unfolding limit_in_lem
returns c = rw (c.from.ensures, c.from-2.ensures, c.args.self.laid)
