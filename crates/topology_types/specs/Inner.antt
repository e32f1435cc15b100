-- What functions of more than one crate ask of their arguments and promise of their results.
-- Assumes nothing.
use Rattle.std.specs.Prelude.{◌≤◌}
use Rattle.topology_types.specs.declared.Topology.{Topology}
use Rattle.topology_types.specs.Limits.{most_routers, most_links}

-- the counts are within the limits
pub record CountsFit (t : Topology) : Type 0 where
  pub routers_fit : t.routers ≤ most_routers
  pub links-fit : t.links ≤ most_links
