-- What the functions of `unchecked` ask of arcs, distances and orders, and promise of distances and ranks.
-- Assumes nothing.
use Rattle.std.specs.Prelude.{ℕ, ◌≤◌, ◌<◌, ◌≡◌, T, length, get_or, take}
use mathlib.Core.List.{List, Memᴰ, []}
use Rattle.network.specs.Lists.{Distinct}
use Rattle.network.specs.Network.{Network, size}
use Rattle.network.specs.Distance.{distances}
use Rattle.network.specs.Row.{rank}
use Rattle.topology_types.specs.Limits.{most_routers}
use Rattle.topology_types.specs.Topology.{network_of}
use Rattle.topology_types.specs.declared.Topology.{Topology}
use Rattle.topology_sound.specs.Sound.{sound}
use Rattle.arcs.specs.declared.Arcs.{Arcs}
use Rattle.arcs.specs.Inner.{Laid}
use Rattle.distances.specs.Inner.{farthest, Settled, Alike}
use Rattle.order_standings.specs.declared.Mode.{Mode}
use Rattle.order_standings.specs.declared.Mode.TheVariants as mode
use Rattle.order.specs.declared.unchecked.Ranks.{Ranks}
use Rattle.order.specs.Calls.{wrong_ranks}

-- what a mode needs of distances to build an order: shortest-path mode those to d, by place, free mode only that none is more than absent can be; to judge
-- one both need those to d (`Measured`)
pub record DistancesFor (n : Network) (d : ℕ) (m : Mode) (ds : List ℕ) : Type 0 where
  pub first : m ≡ mode.ShortestPath → take (size n) ds ≡ distances n d
  pub long : length ds ≡ most_routers
  pub near : (v : ℕ) → v < most_routers → get_or ds v 0 ≤ farthest

-- a sound topology with its arcs laid out, a place of it as destination, and distances that serve the mode
pub record LaidOut (t : Topology) (a : Arcs) (d : ℕ) (m : Mode) (ds : List ℕ) : Type 0 where
  pub is-sound : T (sound t)
  pub holds : Laid t a
  pub place : d < t.routers
  pub for_mode : DistancesFor (network_of t) d m ds

-- the same where all that is read of the topology and its arcs is lent: the arcs, whatever the numbers of their links, and the IDs of its routers
pub record Lent (t : Topology) (a : Arcs) (ids : List ℕ) (d : ℕ) (m : Mode) (ds : List ℕ) : Type 0 where
  pub numbered : Arcs
  pub alike : Alike numbered a
  pub laid : LaidOut t numbered d m ds
  pub ids_are : take t.routers t.id ≡ ids

-- a sound topology with its arcs laid out, a place of it as destination, and the distances to it
pub record Measured (t : Topology) (a : Arcs) (d : ℕ) (ds : List ℕ) : Type 0 where
  pub is-sound : T (sound t)
  pub holds : Laid t a
  pub place : d < t.routers
  pub settled : Settled (network_of t) d ds

-- an order of places, none twice
pub record Ranked (order : List ℕ) : Type 0 where
  pub places : (u : ℕ) → Memᴰ u order → u < most_routers
  pub once : Distinct order

-- for each place that the order holds its rank, for every other 255: it has no rank
pub record RanksOf (order : List ℕ) (r : Ranks) : Type 0 where
  pub long : length r.by ≡ most_routers
  pub ranks : (u : ℕ) → Memᴰ u order → (get_or r.by u (record { 0 = 0 })).0 ≡ rank order u
  pub others : (u : ℕ) → u < most_routers → (Memᴰ u order → ⊥) → (get_or r.by u (record { 0 = 0 })).0 ≡ 255

-- places of a sound topology, none twice, of which d is the first
pub record FirstPlaced (t : Topology) (d : ℕ) (order : List ℕ) : Type 0 where
  pub on_sound : T (sound t)
  pub place : d < t.routers
  pub some_rank : 1 ≤ length order
  pub once : wrong_ranks t.routers order ≡ []
  pub first : get_or order 0 0 ≡ d
