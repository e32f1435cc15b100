-- Shortest next hops, from the exactness of distances: every reached router but d has one, each is nearer to d, and no neighbour offers less.
-- Assumes nothing.
use Prim.Native.Nat.{ℕ, ◌+◌, ◌≤◌, ◌<◌}
use mathlib.Core.List.{Memᴰ}
use mathlib.Core.Logic.{◌≢◌}
use mathlib.Core.Path.{◌≡◌, refl}
use native.Mathlib.Decide.{dec_lt}
use native.Mathlib.Omega.{arith}
use lib.Dec.{T, eqb→eq, ltb→lt, lt→ltb}
use Rattle.network.specs.Network.{Arc, Network, size, arcs_of, WellFormed}
use Rattle.network.specs.Distance.{PathTo, arrived, along, path_cost, absent, through, distances, distance}
use Rattle.network.specs.Order.{reached, shortest_next_hops}
use Rattle.network.specs.Theorems.Distance.{DistanceExact}
use Rattle.network.specs.Theorems.Order.{via}
use Rattle.network.proofs.Distance.{distances_exact}
use Rattle.network.proofs.Lists.{mem_keep, keep_mem}
use Rattle.network.proofs.Tests.{eq_test}

module _ (n : Network) (wf : WellFormed n) (d : ℕ) (in_network : d < size n) where
  pub exact : (u : ℕ) → DistanceExact n d u
  exact = distances_exact n wf d in_network

  pub path_reached : {u : ℕ} → PathTo n d u → T (reached n (distances n d) u)
  unfolding reached distance
  path_reached {u} p = lt→ltb (distance n d u) (absent n) ((exact u).present p)

  pub reached_path : (u : ℕ) → T (reached n (distances n d) u) → PathTo n d u
  unfolding reached distance
  reached_path u t = ((exact u).attained (ltb→lt (distance n d u) (absent n) t)).0

  pub zero_at_d : distance n d d ≡ 0
  unfolding path_cost
  zero_at_d = let h : distance n d d ≤ 0 = (exact d).least (arrived refl) in omega arith

  pub at_most_absent : (u : ℕ) → distance n d u ≤ absent n
  at_most_absent u = cases (dec_lt (distance n d u) (absent n))
    where
      cases : Dec (distance n d u < absent n) → distance n d u ≤ absent n
      cases (yes h) = omega arith
      cases (no h) = let e : distance n d u ≡ absent n = (exact u).missing (λ p. h ((exact u).present p)) in omega arith

  -- no neighbour offers less than the distance
  pub no_less : (u : ℕ) (a : Arc) → Memᴰ a (arcs_of n u) → distance n d u ≤ via n d a
  unfolding path_cost
  no_less u a m = cases (dec_lt (distance n d a.to) (absent n))
    where
      cases : Dec (distance n d a.to < absent n) → distance n d u ≤ a.cost + distance n d a.to
      cases (yes h) = let (p, e) = (exact a.to).attained h in let l : distance n d u ≤ a.cost + path_cost p = (exact u).least (along a m p) in omega arith
      cases (no h) = omega (arith, at_most_absent u)

  module _ (u : ℕ) {a : Arc} (m : Memᴰ a (shortest_next_hops n (distances n d) u)) where
    pub next_arc : Memᴰ a (arcs_of n u)
    unfolding shortest_next_hops
    next_arc = (mem_keep _ (arcs_of n u) m).0

    pub next_via : via n d a ≡ distance n d u
    unfolding shortest_next_hops through distance
    next_via = eqb→eq _ _ (mem_keep _ (arcs_of n u) m).1

    pub next_nearer : distance n d a.to < distance n d u
    next_nearer = omega (arith, next_via, (wf.sound u a next_arc).cost_least)

    pub next_path : PathTo n d u → PathTo n d a.to
    next_path p = ((exact a.to).attained (omega (arith, next_nearer, (exact u).present p))).0

  pub is_next : (u : ℕ) (a : Arc) → Memᴰ a (arcs_of n u) → via n d a ≡ distance n d u → Memᴰ a (shortest_next_hops n (distances n d) u)
  unfolding shortest_next_hops through distance
  is_next u a m e = keep_mem _ (arcs_of n u) m (eq_test e)

  -- a router with a shortest next hop has a path: what lies behind the arc has a distance, so it has a path
  pub through_path : (u : ℕ) (a : Arc) → Memᴰ a (arcs_of n u) → via n d a ≡ distance n d u → PathTo n d u
  through_path u a m e =
      along a m ((exact a.to).attained (omega (arith, at_most_absent u, (wf.sound u a m).cost_least))).0

  -- a shortest path begins with a shortest next hop
  pub some_next : {u : ℕ} → PathTo n d u → u ≢ d → (a : Arc) × Memᴰ a (shortest_next_hops n (distances n d) u)
  unfolding path_cost
  some_next {u} p other = first ((exact u).attained ((exact u).present p))
    where
      first : ((q : PathTo n d u) × (path_cost q ≡ distance n d u)) → (a : Arc) × Memᴰ a (shortest_next_hops n (distances n d) u)
      first (arrived e, c) = absurd (other e)
      first (along a m q, c) = (a, is_next u a m (omega (arith, no_less u a m, (exact a.to).least q, c)))
