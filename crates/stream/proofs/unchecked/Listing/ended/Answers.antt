-- What a listing holds is held while it is read.
-- Assumes nothing.
use Rattle.std.proofs.Common.{ap, ◌∙◌}
use Rattle.stream_rules.specs.Reading.{ended}
use Rattle.stream.proofs.Filled.{contents_are, listed}
use Rattle.stream.proofs.unchecked.Listing.ended.Goals as goal

pub returns : goal.returns
returns c = λ p w. c.ended.ensures (listed w) ∙ ap (ended _ c.args.at) (contents_are w)
