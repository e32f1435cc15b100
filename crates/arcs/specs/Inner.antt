-- The arcs of a topology in slots (01, Stations, links and limits: at most 16 neighbours to a router).
-- Assumes nothing.
use Rattle.std.specs.Prelude.{ℕ, ◌+◌, ◌*◌, ◌<◌, ◌≤◌, List, map, ◌≡◌, get_or, set, take, drop}
use Rattle.network.specs.Network as network
use Rattle.network.specs.Network.{Network, size, arcs_of}
use Rattle.topology_types.specs.Limits.{most_neighbours}
use Rattle.topology_types.specs.Topology.{network_of}
use Rattle.topology_types.specs.declared.Topology.{Topology}
use Rattle.arcs.specs.Back.{network_back}
use Rattle.arcs.specs.declared.Arc.{Arc}
use Rattle.arcs.specs.declared.Arcs.{Arcs}

-- the arcs of the router u: so many of its slots, from the first on
unfoldable pub arcs_at : Arcs → ℕ → List Arc
arcs_at a u = take (get_or a.count u 0) (drop (u * most_neighbours) a.slot)

-- one arc more of the router u, in its next slot
unfoldable pub with_arc : Arcs → ℕ → Arc → Arcs
with_arc a u arc =
    record {
      count = set a.count u (get_or a.count u 0 + 1);
      slot = set a.slot (u * most_neighbours + get_or a.count u 0) arc;
    }

-- an arc as its router sends over it, and the same at what going the other way costs
abbrev pub leaving : Arc → network.Arc
leaving arc = record { to = arc.to.0; cost = arc.cost; link = arc.link }

abbrev pub returning : Arc → network.Arc
returning arc = record { to = arc.to.0; cost = arc.back; link = arc.link }

-- the arcs of every router of the network, seen so, and none that has more than slots
pub record ArcsHeld (seen : Arc → network.Arc) (n : Network) (a : Arcs) : Type 0 where
  pub few : (u : ℕ) → u < size n → get_or a.count u 0 ≤ most_neighbours
  pub arcs : (u : ℕ) → u < size n → map seen (arcs_at a u) ≡ arcs_of n u

-- a topology's arcs laid out, each with its cost and with what going the other way costs
pub record Laid (t : Topology) (a : Arcs) : Type 0 where
  pub out : ArcsHeld leaving (network_of t) a
  pub back : ArcsHeld returning (network_back t) a
