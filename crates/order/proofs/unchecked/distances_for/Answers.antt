-- `order::unchecked::distances_for` meets its contract: each arm returns what serves its mode.
-- Assumes nothing.
use Rattle.order.proofs.Turn.{settled_serve, zeros_serve}
use Rattle.order.proofs.unchecked.distances_for.Goals as goal

pub returns-in-ShortestPath : goal.returns-in-ShortestPath
returns-in-ShortestPath c t laid = settled_serve _ (c.to.ensures t laid)

pub returns-in-Free : goal.returns-in-Free
returns-in-Free c t laid = rw c.in-Free.is (zeros_serve _ _)
