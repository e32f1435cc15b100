-- What was counted is how often the ID stands among those passed.
-- Assumes nothing.
use Rattle.std.proofs.Common.{◌≡◌, ◌≤◌, length, take, eqb}
use Rattle.network.specs.Lists.{keep}
use Rattle.topology_sound.proofs.testing.times.Given as goal

abbrev pub invariant-loop-x : goal.invariant-loop-x
invariant-loop-x l = (l.found ≤ l.x-index) × (l.found ≡ length (keep (eqb l.id) (take l.x-index l.ids)))
