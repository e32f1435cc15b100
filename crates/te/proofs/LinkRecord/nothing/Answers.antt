-- The pattern of a 0 is that of +0.
-- Assumes nothing.
use Rattle.std.proofs.Common.{refl}
use lib.Ieee.{of_bits}
use Rattle.te.specs.Cost as said
use Rattle.te.proofs.LinkRecord.nothing.Goals as goal

pub returns : goal.returns
unfolding of_bits said.nothing
returns c = refl
