-- Paths and distances (01, Order, first sentence).
-- Assumes nothing.
use Rattle.std.specs.Prelude.{ℕ, zero, suc, pred, ◌+◌, ◌*◌, cond, ◌≡◌, eqb, get_or}
use mathlib.Core.List.{List, Memᴰ, map}
use Rattle.network.specs.Lists.{below, least_by}
use Rattle.network.specs.Network.{Arc, Network, size, arcs_of, greatest_cost}

-- 01, Order: a path from a router to the destination d has arrived, or goes along an arc and on from there
pub data PathTo (n : Network) (d : ℕ) : ℕ → Type 0 where
  arrived : {u : ℕ} → u ≡ d → PathTo n d u
  along : {u : ℕ} (a : Arc) → Memᴰ a (arcs_of n u) → PathTo n d a.to → PathTo n d u

-- 01, Order: the sum of the costs of its arcs
unfoldable pub path_cost : {n : Network} {d u : ℕ} → PathTo n d u → ℕ
path_cost (arrived e) = 0
path_cost (along a m p) = a.cost + path_cost p

-- 01, Order: how many arcs it goes along
unfoldable pub path_hops : {n : Network} {d u : ℕ} → PathTo n d u → ℕ
path_hops (arrived e) = 0
path_hops (along a m p) = suc (path_hops p)

-- 01, Order, where there is no path: the number that then stands for the distance, more than any path that visits no router twice can cost
unfoldable pub absent : Network → ℕ
absent n = size n * suc greatest_cost

-- 01, Order: distance(u), in a list of distances by place
unfoldable pub distance_in : Network → List ℕ → ℕ → ℕ
distance_in n ds u = get_or ds u (absent n)

-- 01, Order: cost(u,v) + distance(v) for the arc from u to v, what going to the neighbour v costs in all
unfoldable pub through : Network → List ℕ → Arc → ℕ
through n ds a = a.cost + distance_in n ds a.to

-- 01, Order, the least sum over paths of no arc: only d itself has one
unfoldable pub at_first_lem : Network → ℕ → List ℕ
at_first_lem n d = map (λ u. cond (eqb u d) 0 (absent n)) (below (size n))

-- 01, Order, the least sum over paths of one arc more: the least of what it was and what going to any neighbour costs in all
unfoldable pub round : Network → List ℕ → List ℕ
round n ds = map (λ u. least_by (through n ds) (distance_in n ds u) (arcs_of n u)) (below (size n))

-- 01, Order: the least sums over paths of at most k arcs
unfoldable pub rounds : Network → ℕ → ℕ → List ℕ
rounds n d zero = at_first_lem n d
rounds n d (suc k) = round n (rounds n d k)

-- 01, Order: the distances to d, by place. A path that visits no router twice has at most N - 1 arcs.
unfoldable pub distances : Network → ℕ → List ℕ
distances n d = rounds n d (pred (size n))

-- 01, Order: the distance of u to destination d is the least sum of costs over all paths
unfoldable pub distance : Network → ℕ → ℕ → ℕ
distance n d u = distance_in n (distances n d) u
