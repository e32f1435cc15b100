-- `distances::settling::nearest` meets its contract.
-- Assumes nothing.
use Rattle.distances.proofs.Nearest.{least_more}
use Rattle.distances.proofs.settling.nearest.Goals as goal

pub loop-v-preserved : goal.loop-v-preserved
loop-v-preserved c = rw c.min-best.ensures (least_more _ _ _ _ c.loop-v.invariant)
