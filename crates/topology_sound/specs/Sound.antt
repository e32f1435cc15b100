-- Which topology values reading could return (01, Stations, links and limits; Refusals, 14).
-- Assumes nothing.
use Rattle.std.specs.Prelude.{ℕ, ◌^◌, Bool, ◌&&◌, map, eqb, ltb, leb, length, drop}
use Rattle.network.specs.Lists.{below, every}
use Rattle.network.specs.Network.{arcs_of, sound_links}
use Rattle.topology_types.specs.declared.Link.{Link}
use Rattle.topology_types.specs.declared.Topology.{Topology}
use Rattle.topology_types.specs.Limits.{most_routers, most_links, most_neighbours, most_next_hops}
use Rattle.topology_types.specs.Topology.{contents, seen, network_of}

-- n is from 1 to most (01, Stations, links and limits: 1 to 64 routers, K from 1 to 16)
unfoldable pub within : ℕ → ℕ → Bool
within most n = leb 1 n && leb n most

-- 1 to 64 routers, 0 to 256 links, a next-hop limit from 1 to 16
unfoldable pub in_limits_lem : Topology → Bool
in_limits_lem t = within most_routers t.routers && leb t.links most_links && within most_next_hops t.limit

-- the IDs differ; links name listed places, none joins a router to itself or costs 0 either way, no pair is linked twice
unfoldable pub well_linked : Topology → Bool
well_linked t = sound_links (contents t).ids (map seen (contents t).links)

-- at most 16 neighbours to a router
unfoldable pub uncrowded : Topology → Bool
uncrowded t = every (λ u. leb (length (arcs_of (network_of t) u)) most_neighbours) (below t.routers)

-- a link of all zeros
unfoldable pub is_no_link : Link → Bool
is_no_link l = eqb l.first.0 0 && eqb l.second.0 0 && eqb l.cost 0 && eqb l.back 0

-- slots that are not used hold zeros
unfoldable pub unused_zero : Topology → Bool
unused_zero t = every (eqb 0) (drop t.routers t.id) && every is_no_link (drop t.links t.link)

-- what every value of the struct has: 64 slots for IDs of 32 bits, and 256 for links
unfoldable pub slotted : Topology → Bool
slotted t = eqb (length t.id) most_routers && eqb (length t.link) most_links && every (λ i. ltb i (2 ^ 32)) t.id

-- 01, Refusals, 14: a topology value that reading could return
unfoldable pub sound : Topology → Bool
sound t = in_limits_lem t && well_linked t && uncrowded t && unused_zero t && slotted t
