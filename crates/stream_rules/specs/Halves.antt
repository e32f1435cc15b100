-- Halves of links (02, #105): two opposite halves make a link, and a half that has no opposite yet is lone.
-- Assumes nothing.
use Rattle.std.specs.Prelude.{ℕ, Bool, ◌&&◌, List, [], ◌∷◌, ◌++◌, eqb}
use Rattle.topology_types.specs.declared.Half.{Half}
use Rattle.topology_types.specs.declared.Link.{Link}
use Rattle.topology_types.specs.Topology.{Contents}

-- What is listed while records are taken: routers, links and K, and the lone halves in the order in which they came.
pub record StreamListing : Type 0 where
  pub contents : Contents
  pub lone : List Half

-- 02, #105: the half of a link that its first place sends, and the one that its second place sends
unfoldable pub first_half : Link → Half
first_half l = record { from = l.first; to = l.second; cost = l.cost }

unfoldable pub second_half : Link → Half
second_half l = record { from = l.second; to = l.first; cost = l.back }

unfoldable pub link_halves : List Link → List Half
link_halves [] = []
link_halves (l ∷ ls) = first_half l ∷ second_half l ∷ link_halves ls

-- every half that is listed: both of each link, and the lone ones
unfoldable pub halves : StreamListing → List Half
halves p = link_halves p.contents.links ++ p.lone

-- 02, #105, 8: the same half, from one place to the other, whatever it costs
unfoldable pub same_half : Half → Half → Bool
same_half h k = eqb h.from.0 k.from.0 && eqb h.to.0 k.to.0

-- 02, #105, 10: the half leaves the router at that place
unfoldable pub leaves : ℕ → Half → Bool
leaves place k = eqb k.from.0 place

-- the half the other way round, at the same cost
unfoldable pub opposite : Half → Half
opposite h = record { from = h.to; to = h.from; cost = h.cost }

-- 02, #105: the link of two opposite halves; its first place is the first half's sender
unfoldable pub link_of : Half → Half → Link
link_of first second = record { first = first.from; second = first.to; cost = first.cost; back = second.cost }
