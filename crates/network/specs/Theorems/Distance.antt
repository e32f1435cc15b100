-- What is proved of distances, over every well_formed network and every destination in it.
-- Assumes nothing.
use Rattle.std.specs.Prelude.{ℕ, suc, pred, ◌+◌, ◌≤◌, ◌<◌, ◌≡◌, length}
use Rattle.network.specs.Network.{Network, size, WellFormed}
use Rattle.network.specs.Distance.{PathTo, path_cost, path_hops, absent, distance_in, rounds, distances, distance}

-- The distance is the cost of some path to d, and no path costs less; it is absent exactly where there is no path.
pub record DistanceExact (n : Network) (d u : ℕ) : Type 0 where
  pub attained : distance n d u < absent n → (p : PathTo n d u) × (path_cost p ≡ distance n d u)
  pub least : (p : PathTo n d u) → distance n d u ≤ path_cost p
  pub present : PathTo n d u → distance n d u < absent n
  pub missing : (PathTo n d u → ⊥) → distance n d u ≡ absent n

abbrev pub DistancesExact : Type 0
DistancesExact = (n : Network) → WellFormed n → (d : ℕ) → d < size n → (u : ℕ) → DistanceExact n d u

-- Round k counts the paths of at most k arcs: no such path costs less, and some such path costs as much, unless the distance is absent.
pub record RoundExact (n : Network) (d k u : ℕ) : Type 0 where
  pub least : (p : PathTo n d u) → path_hops p ≤ k → distance_in n (rounds n d k) u ≤ path_cost p
  pub attained : distance_in n (rounds n d k) u < absent n →
      (p : PathTo n d u) × (path_hops p ≤ k) × (path_cost p ≡ distance_in n (rounds n d k) u)
  pub most : distance_in n (rounds n d k) u ≤ absent n

abbrev pub RoundsExact : Type 0
RoundsExact = (n : Network) → WellFormed n → (d : ℕ) → d < size n → (k u : ℕ) → RoundExact n d k u

-- Every round has a distance for each place, and no more. No round past N - 1 changes one; after a round that changes none no later one does, so
-- whoever computes them may stop there.
pub record RoundsEnd (n : Network) (d : ℕ) : Type 0 where
  pub by_place : (k : ℕ) → length (rounds n d k) ≡ size n
  pub settled : (k : ℕ) → rounds n d (pred (size n) + k) ≡ distances n d
  pub still : (k : ℕ) → rounds n d (suc k) ≡ rounds n d k → (j : ℕ) → rounds n d (k + j) ≡ rounds n d k
  pub stopped : (k : ℕ) → rounds n d (suc k) ≡ rounds n d k → rounds n d k ≡ distances n d

abbrev pub RoundsSettle : Type 0
RoundsSettle = (n : Network) → WellFormed n → (d : ℕ) → d < size n → RoundsEnd n d
