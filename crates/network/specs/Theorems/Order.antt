-- What is proved of orders, over every well_formed network and every destination in it.
-- Assumes nothing.
use Rattle.std.specs.Prelude.{ℕ, ◌+◌, ◌<◌, ◌↔◌, ◌≢◌, ◌⊎◌, ◌≡◌, T, length}
use mathlib.Core.List.{List, ◌∷◌, ◌++◌, Memᴰ}
use Rattle.std.proofs.Math.Option.{none, some}
use Rattle.network.specs.Lists.{Distinct}
use Rattle.network.specs.Network.{Arc, Network, size, id_of, arcs_of, WellFormed}
use Rattle.network.specs.Distance.{PathTo, distances, distance}
use Rattle.network.specs.Order.{Mode, shortest-path, free, placed_neighbours, select, build, holds_each_once, accepted}

-- a claim of every well_formed network and every destination in it
abbrev pub OfOrders : (Network → ℕ → Type 0) → Type 0
OfOrders claim = (n : Network) → WellFormed n → (d : ℕ) → d < size n → claim n d

-- cost(u,v) + distance(v) for the arc a from u to v
abbrev pub via : Network → ℕ → Arc → ℕ
via n d a = a.cost + distance n d a.to

-- 01, Order: a shortest next hop of u is a neighbour v with cost(u,v) + distance(v) = distance(u)
abbrev pub ShortestNextHop : Network → ℕ → ℕ → Arc → Type 0
ShortestNextHop n d u a = Memᴰ a (arcs_of n u) × (via n d a ≡ distance n d u)

-- `placed_neighbours` is how many neighbours of u are placed: as many as any list has that holds each arc to a placed neighbour once and nothing else,
-- and there is such a list.
abbrev pub ArcsInto : Network → List ℕ → ℕ → List Arc → Type 0
ArcsInto n placed u arcs = Distinct arcs × ((a : Arc) → Memᴰ a arcs ↔ (Memᴰ a (arcs_of n u) × Memᴰ a.to placed))

abbrev pub NeighboursCounted : Type 0
NeighboursCounted =
    (n : Network) → WellFormed n → (placed : List ℕ) (u : ℕ) →
    ((arcs : List Arc) × ArcsInto n placed u arcs) × ((arcs : List Arc) → ArcsInto n placed u arcs → placed_neighbours n placed u ≡ length arcs)

-- u is ready in shortest-path mode where all its shortest next hops are placed, in free mode where at least one neighbour is
abbrev pub Ready : Network → ℕ → Mode → List ℕ → ℕ → Type 0
Ready n d shortest-path placed u = (a : Arc) → ShortestNextHop n d u a → Memᴰ a.to placed
Ready n d free placed u = (a : Arc) × Memᴰ a (arcs_of n u) × Memᴰ a.to placed

-- 01, Order: u has a path to d, is not placed, and is ready in its mode
pub record Candidate (n : Network) (d : ℕ) (mode : Mode) (placed : List ℕ) (u : ℕ) : Type 0 where
  pub path : PathTo n d u
  pub unplaced : Memᴰ u placed → ⊥
  pub next_hops : Ready n d mode placed u

-- v has fewer placed neighbours than u, or as many and a lower ID
abbrev pub Behind : Network → List ℕ → ℕ → ℕ → Type 0
Behind n placed v u =
    (placed_neighbours n placed v < placed_neighbours n placed u)
    ⊎ ((placed_neighbours n placed v ≡ placed_neighbours n placed u) × (id_of n v < id_of n u))

-- The one taken is a candidate, and every other candidate is behind it; none is taken only where there is no candidate.
pub record Selected (n : Network) (d : ℕ) (mode : Mode) (placed : List ℕ) : Type 0 where
  pub taken : (u : ℕ) → select n (distances n d) mode placed ≡ some u → Candidate n d mode placed u
  pub others : (u : ℕ) → select n (distances n d) mode placed ≡ some u → (v : ℕ) → Candidate n d mode placed v → v ≢ u → Behind n placed v u
  pub stuck : select n (distances n d) mode placed ≡ none → (v : ℕ) → Candidate n d mode placed v → ⊥

abbrev pub SelectionRight : Type 0
SelectionRight = OfOrders (λ n d. (mode : Mode) (placed : List ℕ) → Selected n d mode placed)

-- 01, Order, what is asked of a proposed order: it holds each place that has a path once and nothing else, d is first, and every other router is a
-- candidate when placed.
pub record Accepted (n : Network) (d : ℕ) (mode : Mode) (order : List ℕ) : Type 0 where
  pub once : Distinct order
  pub all : (u : ℕ) → PathTo n d u → Memᴰ u order
  pub only : (u : ℕ) → Memᴰ u order → PathTo n d u
  pub first : (rest : List ℕ) × (order ≡ d ∷ rest)
  pub in-turn : (v : ℕ) (before : List ℕ) (u : ℕ) (after : List ℕ) → order ≡ (v ∷ before) ++ (u ∷ after) → Candidate n d mode (v ∷ before) u

-- The first part of that test by itself.
abbrev pub HeldOnce : Type 0
HeldOnce =
    OfOrders (λ n d. (order : List ℕ) → T (holds_each_once n (distances n d) order)
    ↔ (Distinct order × ((u : ℕ) → PathTo n d u → Memᴰ u order) × ((u : ℕ) → Memᴰ u order → PathTo n d u)))

abbrev pub AcceptanceExact : Type 0
AcceptanceExact = OfOrders (λ n d. (mode : Mode) (order : List ℕ) → T (accepted n d mode order) ↔ Accepted n d mode order)

-- 001, propositions 1 and 2: building never gets stuck. It places every router that has a path; where all have one, the order has length N.
pub record Complete (n : Network) (d : ℕ) (order : List ℕ) : Type 0 where
  pub once : Distinct order
  pub all : (u : ℕ) → PathTo n d u → Memᴰ u order
  pub first : (rest : List ℕ) × (order ≡ d ∷ rest)
  pub whole : ((u : ℕ) → u < size n → PathTo n d u) → length order ≡ size n

abbrev pub NeverStuck : Type 0
NeverStuck = OfOrders (λ n d. (mode : Mode) → Complete n d (build n d mode))

-- 01, Order, as a rule for a whole order: rank 0 is d, each later rank goes to the one selected behind those before it, and no candidate is left.
pub record ByRule (n : Network) (d : ℕ) (mode : Mode) (order : List ℕ) : Type 0 where
  pub first : (rest : List ℕ) × (order ≡ d ∷ rest)
  pub each : (v : ℕ) (before : List ℕ) (u : ℕ) (after : List ℕ) → order ≡ (v ∷ before) ++ (u ∷ after) →
      select n (distances n d) mode (v ∷ before) ≡ some u
  pub none_left : select n (distances n d) mode order ≡ none

-- What is built is the one order by that rule.
abbrev pub BuiltByRule : Type 0
BuiltByRule = OfOrders (λ n d. (mode : Mode) → ByRule n d mode (build n d mode) × ((order : List ℕ) → ByRule n d mode order → order ≡ build n d mode))

abbrev pub BuiltAccepted : Type 0
BuiltAccepted = OfOrders (λ n d. (mode : Mode) → T (accepted n d mode (build n d mode)))

abbrev pub ShortestPathIsFree : Type 0
ShortestPathIsFree = OfOrders (λ n d. (order : List ℕ) → T (accepted n d shortest-path order) → T (accepted n d free order))
