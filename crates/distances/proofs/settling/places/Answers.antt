-- `distances::settling::places` meets its contract: marks that each are their place are the numbers below.
-- Assumes nothing.
use Rattle.std.proofs.Common.{sym, ◌∙◌, arith}
use lib.Seq.{ext_get_or}
use Rattle.network.specs.Lists.{below}
use Rattle.network.proofs.Below.{length_below}
use Rattle.distances.proofs.Unsettled.{below_at}
use Rattle.distances.proofs.settling.places.Goals as goal

pub returns : goal.returns
returns c =
    let at = c.loop-v in
    ext_get_or 0 at.marks (below 64) (at.invariant.long ∙ sym (length_below 64)) (λ w h. at.invariant.each w (omega arith) ∙ sym (below_at 64 w (omega arith)))
