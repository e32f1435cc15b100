-- The ID is compared with each of them, the other way round.
-- Assumes nothing.
use Rattle.std.proofs.Common.{◌∙◌}
use Rattle.network.specs.Lists.{any, member}
use Rattle.topology_types.proofs.Prefix.{eqb_sym}
use Rattle.topology_sound.proofs.unchecked.is_listed.Goals as goal

pub returns : goal.returns
unfolding member
returns c = c.contains.ensures.value ∙ (λ i. any (λ y. eqb_sym y c.args.id i) c.args.ids.now)
