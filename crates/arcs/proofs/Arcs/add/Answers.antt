-- `arcs::Arcs::add` meets its contract: its stores are those of `with_arc`.
-- Assumes nothing.
use Rattle.arcs.specs.Inner.{with_arc}
use Rattle.arcs.proofs.Arcs.add.Goals as goal

pub returns : goal.returns
unfolding with_arc
returns c = rw c.index-from.ensures
