-- Distances along the arcs of a network, and along those of the other ends: no router is farther than by way of a neighbour.
-- Assumes nothing.
use Prim.Native.Nat.{ℕ, pred, ◌+◌, ◌*◌, ◌≤◌, ◌<◌}
use mathlib.Core.List.{Memᴰ}
use mathlib.Core.Path.{◌≡◌, ap}
use native.Mathlib.Decide.{dec_lt}
use native.Mathlib.Omega.{arith}
use lib.Dec.{T}
use lib.ListN.{length}
use Rattle.network.specs.Network.{Arc, Network, size, arcs_of, greatest_cost, WellFormed}
use Rattle.network.specs.Distance.{along, path_cost, absent, distances, distance}
use Rattle.network.specs.Theorems.Distance.{DistanceExact}
use Rattle.network.proofs.Distance.{distances_exact, rounds_exact, rounds_settle}
use Rattle.topology_types.specs.declared.Topology.{Topology}
use Rattle.topology_types.specs.Topology.{network_of}
use Rattle.topology_sound.specs.Sound.{sound}
use Rattle.topology_sound.proofs.Sound.{sound_networks}
use Rattle.arcs.specs.declared.Arcs.{Arcs}
use Rattle.arcs.specs.Inner.{ArcsHeld, returning}
use Rattle.arcs.specs.Back.{network_back}
use Rattle.arcs.specs.Theorems.{Opposite}
use Rattle.arcs.proofs.Back.{back_exact}
use Rattle.distances.proofs.Slots.{Within, back_within, arc_place}

-- a network, a place of it as destination, and the network of the other ends
pub record Given (m other : Network) (n d : ℕ) : Type 0 where
  pub formed : WellFormed m
  pub sized : size m ≡ n
  pub within : Within other n
  pub opposite : Opposite m other n
  pub place : d < n

module _ (m other : Network) (n d : ℕ) (given : Given m other n d) where
  home_in : d < size m
  home_in = let sized = given.sized in let place = given.place in omega arith

  pub exact : (u : ℕ) → DistanceExact m d u
  exact = distances_exact m given.formed d home_in

  pub at_most_absent : (u : ℕ) → distance m d u ≤ absent m
  unfolding distance distances
  at_most_absent u = (rounds_exact m given.formed d home_in (pred (size m)) u).most

  pub absent_is : absent m ≡ n * 65536
  unfolding absent greatest_cost
  absent_is = ap (λ (x : ℕ). x * 65536) given.sized

  -- no router is farther than by way of a neighbour
  along_arc : (u : ℕ) (b : Arc) → Memᴰ b (arcs_of m u) → distance m d u ≤ b.cost + distance m d b.to
  unfolding path_cost
  along_arc u b at = step (dec_lt (distance m d b.to) (absent m))
    where
      step : Dec (distance m d b.to < absent m) → distance m d u ≤ b.cost + distance m d b.to
      step (yes h) = let (p, e) = (exact b.to).attained h in omega (arith, (exact u).least (along b at p))
      step (no h) = omega (arith, at_most_absent u)

  -- nor is the router that the arc of another end leads to farther than by way of that end
  pub against : (u : ℕ) → u < n → (b : Arc) → Memᴰ b (arcs_of other u) → distance m d b.to ≤ b.cost + distance m d u
  against u h b at = along_arc b.to _ ((given.opposite u b.to b.cost b.link h (arc_place given.within u h b at)).0 at)

  -- an arc of u is one of the other ends, at the router that it leads to
  pub turned_round : (u : ℕ) → u < n → (b : Arc) → Memᴰ b (arcs_of m u) →
      (b.to < n) × Memᴰ (record { to = u; cost = b.cost; link = b.link }) (arcs_of other b.to)
  turned_round u h b at =
      let sized = given.sized in
      let place : b.to < n = omega (arith, (given.formed.sound u b at).place) in
      (place, (given.opposite b.to u b.cost b.link place h).1 at)

  -- there is a distance for each place
  pub by_place : length (distances m d) ≡ size m
  unfolding distances
  by_place = (rounds_settle m given.formed d home_in).by_place (pred (size m))

-- a sound topology's network, and the one with costs exchanged, are such
pub lent : (t : Topology) (a : Arcs) (d : ℕ) → T (sound t) × ArcsHeld returning (network_back t) a × (d < t.routers) →
    Given (network_of t) (network_back t) t.routers d
lent t a d (s, _, h) =
    let seen = sound_networks t s in
    record {
      formed = seen.well_formed;
      sized = seen.routers;
      within = back_within t s;
      opposite = (back_exact t s).arcs;
      place = h;
    }
