-- What is taken from the offset on, with the record so far, is what is taken of the value.
-- Assumes nothing.
use Rattle.std.proofs.Common.{◌-◌, length}
use Rattle.te.proofs.Ahead.{Ahead}
use Rattle.te.proofs.cost.Given as goal

abbrev pub invariant-loop-at : goal.invariant-loop-at
invariant-loop-at l = Ahead l.value l.at l.link

abbrev pub decreases-loop-at : goal.decreases-loop-at
decreases-loop-at l = length l.value - l.at
