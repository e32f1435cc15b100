-- Routers, links and costs (01, Stations, links and limits; Order).
-- Assumes nothing.
use Rattle.std.specs.Prelude.{ℕ, suc, ◌≤◌, ◌<◌, Bool, true, cond, not, ◌&&◌, ◌||◌, ◌≡◌, ◌≢◌, eqb, ltb, leb, length, get_or}
use mathlib.Core.List.{List, [], ◌∷◌, Memᴰ, map}
use Rattle.network.specs.Lists.{Pairwise, Distinct, below, every, any, distinct}

-- An arc is a link seen from one of its ends (01, Stations, links and limits): the place of the neighbour that it leads to, the cost in that
-- direction, and the link's number.
pub record Arc : Type 0 where
  pub to : ℕ
  pub cost : ℕ
  pub link : ℕ

-- A network: the router IDs by place, for each place its arcs in the order of their link numbers, and how many links there are. A router's *place*
-- is its turn in the stream, a link's number its turn among the links, both from 0 (01, Stations, links and limits).
pub record Network : Type 0 where
  pub ids : List ℕ
  pub arcs : List (List Arc)
  pub links : ℕ

-- 01, Stations, links and limits: how many routers there are, N
unfoldable pub size : Network → ℕ
size n = length n.ids

-- 01, Stations, links and limits: the router ID of a place
unfoldable pub id_of : Network → ℕ → ℕ
id_of n u = get_or n.ids u 0

-- 01, Stations, links and limits: the arcs to the neighbours of u
unfoldable pub arcs_of : Network → ℕ → List Arc
arcs_of n u = get_or n.arcs u []

-- 01, Stations, links and limits: costs are at most 65,535
unfoldable pub greatest_cost : ℕ
greatest_cost = 65535

-- 01, Refusals, 5 to 7, and Stations, links and limits: an arc of u leads to another place below N, at a cost from 1 to 65,535, over a link of the
-- network
pub record SoundArc (n : Network) (u : ℕ) (a : Arc) : Type 0 where
  pub place : a.to < size n
  pub other : a.to ≢ u
  pub cost_least : 1 ≤ a.cost
  pub cost_most : a.cost ≤ greatest_cost
  pub numbered : a.link < n.links

-- What the theorems ask of a network, all of it asked of a topology by 01, Stations, links and limits: IDs differ, every arc is sound, and no two arcs
-- of a router lead to one place or share a link.
pub record WellFormed (n : Network) : Type 0 where
  pub each_place : length n.arcs ≡ size n
  pub ids-differ : Distinct n.ids
  pub sound : (u : ℕ) (a : Arc) → Memᴰ a (arcs_of n u) → SoundArc n u a
  pub places_differ : (u : ℕ) → Pairwise (λ a b. a.to ≢ b.to) (arcs_of n u)
  pub links_differ : (u : ℕ) → Pairwise (λ a b. a.link ≢ b.link) (arcs_of n u)

-- 02, #105: a link has a cost for each direction, that of the end that sends: `cost` from its first place to its second, `back` from its second to its
-- first
pub record Link : Type 0 where
  pub first : ℕ
  pub second : ℕ
  pub cost : ℕ
  pub back : ℕ

-- 02, #105: the arcs of u among links, each at the cost of the end that sends; the first of the links has the given number
unfoldable pub arcs_among : ℕ → ℕ → List Link → List Arc
arcs_among u number [] = []
arcs_among u number (l ∷ ls) =
    cond (eqb l.first u) (record { to = l.second; cost = l.cost; link = number } ∷ arcs_among u (suc number) ls)
    (cond (eqb l.second u) (record { to = l.first; cost = l.back; link = number } ∷ arcs_among u (suc number) ls)
    (arcs_among u (suc number) ls))

-- 01, Stations, links and limits: the network of the IDs by place and the links by number
unfoldable pub linked : List ℕ → List Link → Network
linked ids ls = record { ids = ids; arcs = map (λ u. arcs_among u 0 ls) (below (length ids)); links = length ls }

-- 01, Stations, links and limits: a cost within the limits
unfoldable pub sound_cost : ℕ → Bool
sound_cost cost = leb 1 cost && leb cost greatest_cost

-- 01, Refusals, 5 to 7: a link joins two different places that are listed, at costs within the limits
unfoldable pub sound_link : ℕ → Link → Bool
sound_link count l =
    (ltb l.first count && ltb l.second count) && not (eqb l.first l.second) && (sound_cost l.cost && sound_cost l.back)

-- 02, #105, 8: two links join one pair, in either order, so that they would share both halves
unfoldable pub same_pair : Link → Link → Bool
same_pair l k = (eqb l.first k.first && eqb l.second k.second) || (eqb l.first k.second && eqb l.second k.first)

-- 02, #105, 8: no pair is linked twice, as no half is listed twice
unfoldable pub pairs_differ : List Link → Bool
pairs_differ [] = true
pairs_differ (l ∷ ls) = not (any (same_pair l) ls) && pairs_differ ls

-- 01, Refusals, 3 and 5 to 8: IDs differ, every link is sound, and no pair is linked twice
unfoldable pub sound_links : List ℕ → List Link → Bool
sound_links ids ls = distinct ids && every (sound_link (length ids)) ls && pairs_differ ls
