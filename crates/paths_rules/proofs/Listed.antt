-- Ranks fall along the rows of an accepted table, so that network's rule for paths holds of what it lists. An entry leads to a router with a path, and so
-- has its own router one: the rank bytes of both are the ranks that fall.
-- Assumes nothing.
use Prim.Native.Nat.{ℕ, ◌<◌}
use mathlib.Core.List.{List, Memᴰ}
use mathlib.Core.Path.{◌≡◌}
use native.Mathlib.Omega.{arith}
use lib.Dec.{T}
use Rattle.network.specs.Network.{Arc, Network}
use Rattle.network.specs.Distance.{along}
use Rattle.network.specs.Theorems.Paths.{PathRule}
use Rattle.network.proofs.Paths.{paths_by_rule}
use Rattle.topology_types.specs.declared.Topology.{Topology}
use Rattle.topology_types.specs.Topology.{network_of}
use Rattle.topology_types.specs.Outcome.{answer}
use Rattle.topology_sound.specs.Sound.{sound}
use Rattle.table.specs.Listed.{falling_rank, entries_in}
use Rattle.table.specs.Calls.{table_checking}
use Rattle.forwarding_rules.specs.Calls.{by}
use Rattle.forwarding_rules.specs.Theorems.{rank_byte}
use Rattle.forwarding_rules.proofs.Listed.{Over, over}

module _ (t : Topology) (good : T (sound t)) (table : List ℕ) (right : table_checking t table ≡ answer 0 0) where
  abbrev n : Network
  n = network_of t

  pub o : Over t table
  o = over t good table right

  module _ (u : ℕ) (inside : u < t.routers) where
    pub rule : PathRule (by t table) t.routers u
    rule = paths_by_rule (by t table) (falling_rank t.routers table) _ o.lawful t.routers u (omega (arith, o.rank_below u inside))

    -- an entry is a place of lower rank
    pub lower : (a : Arc) → Memᴰ a (entries_in n table u) → (a.to < t.routers) × (rank_byte table a.to < rank_byte table u)
    lower a m =
        let arc = o.falling.arcs u a m in
        let on = o.falling.onward u a m in
        let there : a.to < t.routers = omega (arith, (o.well_formed.sound u a arc).place, o.routers_are) in
        (there, omega (arith, o.falling.falls u a m, o.rank_reached a.to there on, o.rank_reached u inside (along a arc on)))
