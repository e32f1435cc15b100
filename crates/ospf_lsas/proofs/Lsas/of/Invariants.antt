-- What a test for 26 finds from the offset on is what it finds in the file.
-- Assumes nothing.
use Rattle.std.proofs.Common.{length, ◌-◌}
use Rattle.ospf_lsas.proofs.Walk.{Ahead}
use Rattle.ospf_lsas.proofs.Lsas.of.Given as goal

abbrev pub invariant-loop-at : goal.invariant-loop-at
invariant-loop-at l = Ahead l.file l.at

abbrev pub decreases-loop-at : goal.decreases-loop-at
decreases-loop-at l = length l.file - l.at
