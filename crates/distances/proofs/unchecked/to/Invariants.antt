-- The loop of `distances::unchecked::to`: so many routers are settled, of every topology that has these arcs.
-- Assumes nothing.
use Rattle.distances.proofs.Laid.{Runs}
use Rattle.distances.proofs.unchecked.to.Given as goal

abbrev pub invariant-loop : goal.invariant-loop
invariant-loop l = Runs l.a l.n l.fn.destination.0 l.counter l.ds l.marks
