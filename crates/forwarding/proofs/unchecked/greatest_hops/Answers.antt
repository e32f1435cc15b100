-- The bounds of all places are the figures.
use Rattle.std.proofs.Common.{◌≡◌, map}
use Rattle.network.specs.Lists.{below}
use Rattle.network.proofs.Below.{below_lt}
use Rattle.topology_sound.proofs.Sound.{sound_exact}
use Rattle.order.proofs.Runs.{map_same}
use Rattle.forwarding_rules.specs.Calls.{figures}
use Rattle.forwarding_steps.specs.Inner.{bound_of}
use Rattle.forwarding.proofs.unchecked.greatest_hops.Goals as goal

pub put-requires : goal.put-requires
put-requires c = (((sound_exact _).0 c.requires.0).routers_most, c.requires.2)

pub returns : goal.returns
unfolding figures
returns c =
    let same : map (bound_of c.bounds_of-bounds.result.by) (below c.args.t.now.routers) ≡ figures c.args.t.now c.args.table.now =
    map_same _ _ _ (λ u m. c.bounds_of-bounds.ensures.each u (below_lt _ m)) in
    rw (← same) c.put.ensures
