-- The opposite half has the same places.
-- Assumes nothing.
use Rattle.stream.proofs.Steps.{back_placed}
use Rattle.stream.proofs.unchecked.test_back.Goals as goal

pub test_new-requires : goal.test_new-requires
test_new-requires c = rw c.opposite.ensures (back_placed c.args.h c.requires)
