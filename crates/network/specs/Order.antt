-- Orders (01, Order; 001, 5.1 and 5.2): candidates, selection, building and the test for proposals.
-- `ds` are the distances to the destination by place, `placed` the routers that have a rank already.
-- Assumes nothing.
use Rattle.std.specs.Prelude.{ℕ, zero, suc, pred, Bool, true, false, not, ◌&&◌, List, [], ◌∷◌, ◌++◌, eqb, ltb, length}
use Rattle.std.proofs.Math.Option.{Option, none, some}
use Rattle.network.specs.Lists.{below, keep, every, any, foremost, member, distinct, wins}
use Rattle.network.specs.Network.{Arc, Network, size, id_of, arcs_of}
use Rattle.network.specs.Distance.{absent, distance_in, through, distances}

-- 01, Order: shortest-path mode is ANHOR-SP (001, 5.2), free mode ANHOR (5.1)
pub data Mode : Type 0 where
  shortest-path free : Mode

-- 01, Order: u has a distance, that is, a path to the destination
unfoldable pub reached : Network → List ℕ → ℕ → Bool
reached n ds u = ltb (distance_in n ds u) (absent n)

-- 01, Order: a shortest next hop of u is a neighbour v with cost(u,v) + distance(v) = distance(u)
unfoldable pub shortest_next_hops : Network → List ℕ → ℕ → List Arc
shortest_next_hops n ds u = keep (λ a. eqb (through n ds a) (distance_in n ds u)) (arcs_of n u)

-- 01, Order: the neighbour that the arc leads to is placed
unfoldable pub leads_into : List ℕ → Arc → Bool
leads_into placed a = member a.to placed

-- 01, Order: in shortest-path mode all its shortest next hops are placed, in free mode at least one neighbour
unfoldable pub ready : Network → List ℕ → Mode → List ℕ → ℕ → Bool
ready n ds shortest-path placed u = every (leads_into placed) (shortest_next_hops n ds u)
ready n ds free placed u = any (leads_into placed) (arcs_of n u)

-- 01, Order: an unplaced candidate. A router with no path to the destination is a candidate in neither mode.
unfoldable pub candidate : Network → List ℕ → Mode → List ℕ → ℕ → Bool
candidate n ds mode placed u = reached n ds u && not (member u placed) && ready n ds mode placed u

-- 001, 5.1: c[u], how many of its neighbours are placed
unfoldable pub placed_neighbours : Network → List ℕ → ℕ → ℕ
placed_neighbours n placed u = length (keep (leads_into placed) (arcs_of n u))

-- 01, Order: the one with most placed neighbours is taken; ties go to the highest router ID
unfoldable pub preferred : Network → List ℕ → ℕ → ℕ → Bool
preferred n placed u v = wins (placed_neighbours n placed v) (placed_neighbours n placed u) (id_of n u) (id_of n v)

-- 01, Order: the candidate that takes the next rank, if there is one (001, section 4, Select)
unfoldable pub select : Network → List ℕ → Mode → List ℕ → Option ℕ
select n ds mode placed = foremost (preferred n placed) (keep (candidate n ds mode placed) (below (size n)))

-- 01, Order: the router that takes the next rank, and on from there; where there is none, the order ends
unfoldable pub continued : Option ℕ → (ℕ → List ℕ) → List ℕ
continued none rest = []
continued (some u) rest = u ∷ rest u

-- 01, Order: each later rank goes to one unplaced candidate; at most `left` of them
unfoldable pub placing : Network → List ℕ → Mode → ℕ → List ℕ → List ℕ
placing n ds mode zero placed = []
placing n ds mode (suc left) placed = continued (select n ds mode placed) (λ u. placing n ds mode left (placed ++ (u ∷ [])))

-- 01, Order: rank 0 is d; the order that we build for d
unfoldable pub build : Network → ℕ → Mode → List ℕ
build n d mode = d ∷ placing n (distances n d) mode (pred (size n)) (d ∷ [])

-- 01, Order, on proposals: each of the routers is a candidate when it is placed, after those placed already and those before it
unfoldable pub candidates_in_turn : Network → List ℕ → Mode → List ℕ → List ℕ → Bool
candidates_in_turn n ds mode placed [] = true
candidates_in_turn n ds mode placed (u ∷ us) = candidate n ds mode placed u && candidates_in_turn n ds mode (placed ++ (u ∷ [])) us

-- 01, Order, and 02, #107, on proposals: each router that has a distance stands in the order once, and nothing else does
unfoldable pub holds_each_once : Network → List ℕ → List ℕ → Bool
holds_each_once n ds order = distinct order && every (reached n ds) order && every (λ u. member u order) (keep (reached n ds) (below (size n)))

-- 01, Order, on proposals: d is first
unfoldable pub first_is : ℕ → List ℕ → Bool
first_is d [] = false
first_is d (u ∷ us) = eqb u d

-- 01, Order, on proposals: every router but the first is a candidate when placed
unfoldable pub others_in_turn : Network → List ℕ → Mode → List ℕ → Bool
others_in_turn n ds mode [] = true
others_in_turn n ds mode (u ∷ us) = candidates_in_turn n ds mode (u ∷ []) us

-- 01, Order, and 02, #107: a proposed order is accepted if it holds each place that has a path to d once, d is first, and every other router, when placed,
-- is a candidate in that mode
unfoldable pub accepted : Network → ℕ → Mode → List ℕ → Bool
accepted n d mode order = holds_each_once n (distances n d) order && first_is d order && others_in_turn n (distances n d) mode order
