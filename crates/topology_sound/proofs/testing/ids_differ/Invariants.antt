-- The IDs before `i` differ.
-- Assumes nothing.
use Rattle.std.proofs.Common.{length}
use Rattle.network.specs.Lists.{distinct}
use Rattle.topology_sound.proofs.Turns.{Passing}
use Rattle.topology_sound.proofs.testing.ids_differ.Given as goal

abbrev pub invariant-loop-i : goal.invariant-loop-i
invariant-loop-i l = Passing distinct l.ids (length l.ids) l.i
