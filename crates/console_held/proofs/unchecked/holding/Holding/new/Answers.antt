-- No byte of the buffer is the table's.
-- Assumes nothing.
use Rattle.topology_types.specs.Topology.{zeros}
use Rattle.forwarding_rules.specs.Calls.{packet_in}
use Rattle.console_held.specs.Inner.{held_in}
use Rattle.console_held.proofs.unchecked.holding.Holding.new.Goals as goal

pub returns : goal.returns
unfolding zeros packet_in held_in
returns c = rw c.empty.ensures
