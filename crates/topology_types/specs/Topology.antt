-- What a `Topology` holds, and how it is seen as a network (01, Stations, links and limits).
-- Assumes nothing.
use Rattle.std.specs.Prelude.{ℕ, ◌-◌, List, [], ◌++◌, map, length, take, replicate}
use Rattle.network.specs.Network as network
use Rattle.topology_types.specs.declared.Link.{Link}
use Rattle.topology_types.specs.declared.Topology.{Topology}
use Rattle.topology_types.specs.Limits.{most_routers, most_links}

-- The routers and links that have been listed: IDs by place, links by number, and the next-hop limit K.
pub record Contents : Type 0 where
  pub ids : List ℕ
  pub links : List Link
  pub limit : ℕ

-- a link of all zeros, as unused slots hold it
unfoldable pub no_link : Link
no_link = record { first = record { 0 = 0 }; second = record { 0 = 0 }; cost = 0; back = 0 }

-- the list, and z in the slots after it, `slots` in all
unfoldable pub padded : {A : Type 0} → A → ℕ → List A → List A
padded z slots xs = xs ++ replicate (slots - length xs) z

-- what the used slots of a topology hold
unfoldable pub contents : Topology → Contents
contents t = record { ids = take t.routers t.id; links = take t.links t.link; limit = t.limit }

-- the topology that holds this, its unused slots zero
unfoldable pub held : Contents → Topology
held c = record {
  routers = length c.ids;
  links = length c.links;
  limit = c.limit;
  id = padded 0 most_routers c.ids;
  link = padded no_link most_links c.links;
}

-- 01, Refusals: the topology of all zeros
unfoldable pub zeros : Topology
zeros = held record { ids = []; links = []; limit = 0 }

-- a link as `network` has it, places as numbers
unfoldable pub seen : Link → network.Link
seen l = record { first = l.first.0; second = l.second.0; cost = l.cost; back = l.back }

-- 01, Stations, links and limits: the network of these routers and links, arcs in the order of link numbers
unfoldable pub network_in : Contents → network.Network
network_in c = network.linked c.ids (map seen c.links)

-- the network that a topology is seen as
unfoldable pub network_of : Topology → network.Network
network_of t = network_in (contents t)
