-- The end record lists nothing more.
-- Assumes nothing.
use Rattle.stream_rules.specs.Reading.{fault, added}
use Rattle.std.proofs.Common.{refl}
use Rattle.stream.proofs.Steps.{taken}
use Rattle.stream.proofs.unchecked.Listing.take.Goals as goal

pub returns-in-End : goal.returns-in-End
unfolding fault added
returns-in-End c = rw c.in-End.is (taken (λ p w. refl) (λ p w. w))
