-- The test for a sound topology decides which case it is.
-- Assumes nothing.
use Rattle.network.proofs.Tests.{as_true}
use Rattle.topology_types.specs.Outcome.{turned_away}
use Rattle.topology_sound.specs.Sound.{sound}
use Rattle.topology.specs.Written.{writing}
use Rattle.topology.specs.Theorems.{WritingExact}

pub writing_exact : WritingExact
unfolding writing turned_away
writing_exact t buffer = record { unsound = λ e. rw e; of_sound = λ s. rw (as_true (sound t) s) }
