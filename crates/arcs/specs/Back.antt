-- The network with the costs of every link exchanged (02, #105).
-- Assumes nothing.
use Rattle.std.specs.Prelude.{map}
use Rattle.network.specs.Network.{Link, Network, linked}
use Rattle.topology_types.specs.declared.Topology.{Topology}
use Rattle.topology_types.specs.Topology.{contents, seen}

-- a link with the costs of its two directions exchanged
unfoldable pub link_back : Link → Link
link_back l = record { first = l.first; second = l.second; cost = l.back; back = l.cost }

-- 02, #105: the network of a topology with the costs of every link exchanged: each arc costs what going the other way does
unfoldable pub network_back : Topology → Network
network_back t = linked (contents t).ids (map link_back (map seen (contents t).links))
