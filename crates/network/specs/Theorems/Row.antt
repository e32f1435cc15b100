-- What is proved of rows, over every well_formed network, every destination in it, every limit K and, unless said otherwise, every list of places as
-- the order.
-- Assumes nothing.
use Rattle.std.specs.Prelude.{ℕ, min, ◌≤◌, ◌<◌, ◌↔◌, ◌≢◌, ◌⊎◌, ◌≡◌, T, length}
use mathlib.Core.List.{List, [], ◌∷◌, ◌++◌, Memᴰ}
use Rattle.network.specs.Lists.{Pairwise}
use Rattle.network.specs.Network.{Arc, Network, size, id_of, arcs_of}
use Rattle.network.specs.Distance.{PathTo, distances}
use Rattle.network.specs.Order.{shortest-path, free, accepted}
use Rattle.network.specs.Row.{rank, full_row, row}
use Rattle.network.specs.Theorems.Order.{OfOrders, via, ShortestNextHop}

-- A router's rank is how many stand before it in the order; one that the order does not hold has all of them before it.
abbrev pub RankIsTurn : Type 0
RankIsTurn =
    (u : ℕ) → ((before after : List ℕ) → (Memᴰ u before → ⊥) → rank (before ++ (u ∷ after)) u ≡ length before)
    × ((order : List ℕ) → (Memᴰ u order → ⊥) → rank order u ≡ length order)

-- a sorts before b: it costs less in all, or as much and its router ID is higher
abbrev pub Before : Network → ℕ → Arc → Arc → Type 0
Before n d a b = (via n d a < via n d b) ⊎ ((via n d a ≡ via n d b) × (id_of n b.to < id_of n a.to))

-- It holds exactly the neighbours ranked before, each once; its keys rise strictly, and it is the only list of these arcs whose keys do.
pub record FullRow (n : Network) (d : ℕ) (order : List ℕ) (u : ℕ) : Type 0 where
  pub holds : (a : Arc) → Memᴰ a (full_row n (distances n d) order u) ↔ (Memᴰ a (arcs_of n u) × (rank order a.to < rank order u))
  pub once : Pairwise (λ a b. a.to ≢ b.to) (full_row n (distances n d) order u)
  pub rising : Pairwise (Before n d) (full_row n (distances n d) order u)
  pub only : (other : List Arc) → ((a : Arc) → Memᴰ a other ↔ Memᴰ a (full_row n (distances n d) order u)) → Pairwise (Before n d) other →
      other ≡ full_row n (distances n d) order u

abbrev pub FullRowExact : Type 0
FullRowExact = OfOrders (λ n d. (order : List ℕ) (u : ℕ) → FullRow n d order u)

-- the list begins with the arcs of which P holds, all of them
abbrev pub Begins : List Arc → (Arc → Type 0) → Type 0
Begins arcs P = (front back : List Arc) × (arcs ≡ front ++ back) × ((a : Arc) → Memᴰ a front ↔ P a)

-- 01, Rows and tables: shortest next hops ranked earlier come first, whatever the order.
abbrev pub ShortestFirst : Type 0
ShortestFirst =
    OfOrders (λ n d. (order : List ℕ) (u : ℕ) →
    Begins (full_row n (distances n d) order u) (λ a. ShortestNextHop n d u a × (rank order a.to < rank order u)))

-- Under an order accepted in shortest-path mode the full row of a router other than d begins with all its shortest next hops.
abbrev pub AllShortestFirst : Type 0
AllShortestFirst =
    OfOrders (λ n d. (order : List ℕ) → T (accepted n d shortest-path order) → (u : ℕ) → u ≢ d →
    Begins (full_row n (distances n d) order u) (ShortestNextHop n d u))

-- The row is the first K of the full row, or all if fewer; every entry has a lower rank, and the links of its entries differ.
pub record Row (n : Network) (d limit : ℕ) (order : List ℕ) (u : ℕ) : Type 0 where
  pub how_many : length (row n (distances n d) limit order u) ≡ min limit (length (full_row n (distances n d) order u))
  pub cut : (rest : List Arc) × (full_row n (distances n d) order u ≡ row n (distances n d) limit order u ++ rest)
  pub lower : (a : Arc) → Memᴰ a (row n (distances n d) limit order u) → rank order a.to < rank order u
  pub links_differ : Pairwise (λ a b. a.link ≢ b.link) (row n (distances n d) limit order u)

abbrev pub RowSound : Type 0
RowSound = OfOrders (λ n d. (limit : ℕ) (order : List ℕ) (u : ℕ) → Row n d limit order u)

-- Under an accepted order every router with a path but d has a row that is not empty, for every K of at least 1, and d's row is empty.
pub record RowFilled (n : Network) (d limit : ℕ) (order : List ℕ) : Type 0 where
  pub some_entry : 1 ≤ limit → (u : ℕ) → PathTo n d u → u ≢ d → row n (distances n d) limit order u ≢ []
  pub no_entry : row n (distances n d) limit order d ≡ []

abbrev pub RowsFilled : Type 0
RowsFilled = OfOrders (λ n d. (limit : ℕ) (order : List ℕ) → T (accepted n d free order) → RowFilled n d limit order)

-- Under an accepted order every router with a path has a rank below N, and d has rank 0.
abbrev pub RanksBelow : Type 0
RanksBelow =
    OfOrders (λ n d. (order : List ℕ) → T (accepted n d free order) → (rank order d ≡ 0) × ((u : ℕ) → PathTo n d u → rank order u < size n))
