use Rattle.table.specs.Listed.{falling_rank}
use Rattle.forwarding_steps.proofs.Turns.{Reached}
use Rattle.forwarding_steps.proofs.unchecked.moving.walk_by.Given as goal

-- the walk is at the packet's station after its hops, where the schedule's next row begins at `at`
abbrev pub invariant-loop-listed : goal.invariant-loop-listed
invariant-loop-listed l = Reached l.t l.table l.schedule l.fn.start.0 l.packet.station.0 l.packet.hops l.at

-- the rank of the station falls
abbrev pub decreases-loop-listed : goal.decreases-loop-listed
decreases-loop-listed l = falling_rank l.t.routers l.table l.packet.station.0
