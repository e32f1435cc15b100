-- What is proved of routers that forward by their rows, over every well_formed network, every destination in it and all rows along whose entries ranks
-- fall; and so of every limit K and every order accepted for it, whose rows are such rows.
-- Assumes nothing.
use Rattle.std.specs.Prelude.{ℕ, suc, ◌≤◌, ◌<◌, ◌↔◌, ◌≢◌, ◌⊎◌, ◌≡◌, T, length, get_or, drop}
use mathlib.Core.List.{List, [], ◌∷◌, ◌++◌, Memᴰ, map}
use Rattle.network.specs.Lists.{Pairwise, Distinct}
use Rattle.network.specs.Network.{Arc, Network, size, arcs_of}
use Rattle.network.specs.Distance.{PathTo, distances, distance}
use Rattle.network.specs.Order.{shortest-path, free, accepted}
use Rattle.network.specs.Row.{row, rank}
use Rattle.network.specs.Forwarding.{Packet, delivered, moved, dropped, delivered_at, dropped_at, hop, walk, route, start}
use Rattle.network.specs.Routing.{valid_states, routers_by, routers, greatest_hop_by, greatest_hop, greatest_hops_lem, call_tests_by, call_tests, cost_of_lem}
use Rattle.network.specs.Theorems.Order.{OfOrders, ShortestNextHop}
use Rattle.network.specs.Theorems.Forwarding.{Lawful, Exact}
use Rattle.network.specs.Theorems.Calls.{CallsBounded}

-- Rows for d along whose entries ranks fall: every entry is an arc of its router, to a router of lower rank that has a path to d, no two entries of a row
-- share a link, and d has no entry. The rank of a place is below N, that of any number at most N, and only d may have rank 0.
pub record FallingRows (n : Network) (d : ℕ) (rows : ℕ → List Arc) (ranks : ℕ → ℕ) : Type 0 where
  pub home_row : rows d ≡ []
  pub arcs : (u : ℕ) (a : Arc) → Memᴰ a (rows u) → Memᴰ a (arcs_of n u)
  pub falls : (u : ℕ) (a : Arc) → Memᴰ a (rows u) → ranks a.to < ranks u
  pub onward : (u : ℕ) (a : Arc) → Memᴰ a (rows u) → PathTo n d a.to
  pub links_differ : (u : ℕ) → Pairwise (λ a b. a.link ≢ b.link) (rows u)
  pub ranks_most : (u : ℕ) → ranks u ≤ size n
  pub ranks_below : (u : ℕ) → u < size n → ranks u < size n
  pub only_home : (u : ℕ) → ranks u ≡ 0 → u ≡ d

-- every router with a path to d has an entry, but d
abbrev pub SomeEntry : Network → ℕ → (ℕ → List Arc) → Type 0
SomeEntry n d rows = (u : ℕ) → PathTo n d u → u ≢ d → rows u ≢ []

-- and the first of them is a shortest next hop
abbrev pub ShortestEntry : Network → ℕ → (ℕ → List Arc) → Type 0
ShortestEntry n d rows = (u : ℕ) → PathTo n d u → u ≢ d → (a : Arc) × (rest : List Arc) × (rows u ≡ a ∷ rest) × ShortestNextHop n d u a

-- a claim of every well_formed network, every destination in it, and all rows and ranks that fall along them
abbrev pub OfRows : (Network → ℕ → (ℕ → List Arc) → (ℕ → ℕ) → Type 0) → Type 0
OfRows claim = OfOrders (λ n d. (rows : ℕ → List Arc) (ranks : ℕ → ℕ) → FallingRows n d rows ranks → claim n d rows ranks)

-- a claim of every well_formed network, every destination in it, every limit and every order accepted for it
abbrev pub OfTables : (Network → ℕ → ℕ → List ℕ → Type 0) → Type 0
OfTables claim = OfOrders (λ n d. (limit : ℕ) (order : List ℕ) → T (accepted n d free order) → claim n d limit order)

-- Ranks in an accepted order fall along its rows, so that what holds of rows whose ranks fall holds of it. That its routers have entries is `RowsFilled`;
-- in shortest-path mode the first is a shortest next hop.
abbrev pub OrdersFall : Type 0
OrdersFall = OfTables (λ n d limit order. FallingRows n d (row n (distances n d) limit order) (rank order))

abbrev pub OrdersShortest : Type 0
OrdersShortest =
    OfOrders (λ n d. (limit : ℕ) (order : List ℕ) → T (accepted n d shortest-path order) → 1 ≤ limit →
    ShortestEntry n d (row n (distances n d) limit order))

-- 02, #107: a router with no path to d has no entry, since one would give it a path
abbrev pub RowsUnreached : Type 0
RowsUnreached = OfRows (λ n d rows ranks. (u : ℕ) → (PathTo n d u → ⊥) → rows u ≡ [])

-- 01, Packet, hop and schedule: the link is up, its byte 1
abbrev pub Up : List ℕ → ℕ → Type 0
Up states link = get_or states link 0 ≡ 1

-- no link to an entry of the row is up
abbrev pub AllDown : List ℕ → List Arc → Type 0
AllDown states entries = (a : Arc) → Memᴰ a entries → Up states a.link → ⊥

-- a is the first entry whose link is up
pub record FirstLive (states : List ℕ) (entries : List Arc) (a : Arc) : Type 0 where
  pub before : List Arc
  pub after : List Arc
  pub stands : entries ≡ before ++ (a ∷ after)
  pub down : AllDown states before
  pub live : Up states a.link

-- Demand 3, last sentence: a hop drops the packet exactly when it is short of its destination and no link to a listed next hop is up; else, off d,
-- it goes to the first entry whose link is up, and makes one hop more.
pub record RowHop (d : ℕ) (rows : ℕ → List Arc) (states : List ℕ) (p : Packet ℕ) : Type 0 where
  pub delivers : (hop (routers_by d rows) states p ≡ delivered) ↔ (p.station ≡ d)
  pub drops : (hop (routers_by d rows) states p ≡ dropped) ↔ ((p.station ≢ d) × AllDown states (rows p.station))
  pub moves : (a : Arc) → p.station ≢ d → FirstLive states (rows p.station) a →
      hop (routers_by d rows) states p ≡ moved (record { station = a.to; hops = suc p.hops })
  pub else_moves : p.station ≢ d → (hop (routers_by d rows) states p ≡ dropped) ⊎ ((a : Arc) × FirstLive states (rows p.station) a)

-- It needs nothing of the rows.
abbrev pub RowHopsByRule : Type 0
RowHopsByRule = (d : ℕ) (rows : ℕ → List Arc) (states : List ℕ) (p : Packet ℕ) → RowHop d rows states p

abbrev pub HopRule : Network → ℕ → ℕ → List ℕ → List ℕ → Packet ℕ → Type 0
HopRule n d limit order states p = RowHop d (row n (distances n d) limit order) states p

abbrev pub HopsByRule : Type 0
HopsByRule = OfTables (λ n d limit order. (states : List ℕ) (p : Packet ℕ) → HopRule n d limit order states p)

-- First-live obeys the laws, so the greatest hop counts are exact.
abbrev pub RowsLawful : Type 0
RowsLawful = OfRows (λ n d rows ranks. Lawful (routers_by d rows) ranks (λ states. T (valid_states n states)))

abbrev pub RoutersLawful : Type 0
RoutersLawful = OfTables (λ n d limit order. Lawful (routers n d limit order) (rank order) (λ states. T (valid_states n states)))

-- Demand 3, for walks: the greatest hop count of u is exact, and so it is 0 where u has no path to d
abbrev pub RowsExact : Type 0
RowsExact = OfRows (λ n d rows ranks. (u : ℕ) → Exact (routers_by d rows) ranks (λ states. T (valid_states n states)) u (greatest_hop_by n d rows u))

abbrev pub RoutersExact : Type 0
RoutersExact =
    OfTables (λ n d limit order. (u : ℕ) →
    Exact (routers n d limit order) (rank order) (λ states. T (valid_states n states)) u (greatest_hop n d limit order u))

-- How a walk ends: delivered at d, or dropped off d where the states for that hop have no link to an entry of the row up.
pub data RowWalkEnd (d : ℕ) (rows : ℕ → List Arc) (xs : List (List ℕ)) (u : ℕ) : Type 0 where
  delivers : (p : Packet ℕ) → walk (routers_by d rows) xs (start u) ≡ delivered_at p → p.station ≡ d → RowWalkEnd d rows xs u
  drops : (p : Packet ℕ) → walk (routers_by d rows) xs (start u) ≡ dropped_at p → p.station ≢ d →
      (states : List ℕ) (rest : List (List ℕ)) → drop p.hops xs ≡ states ∷ rest → AllDown states (rows p.station) → RowWalkEnd d rows xs u

abbrev pub RowsEnd : Type 0
RowsEnd = OfRows (λ n d rows ranks. (xs : List (List ℕ)) (u : ℕ) → ranks u ≤ length xs → RowWalkEnd d rows xs u)

abbrev pub WalkEnd : Network → ℕ → ℕ → List ℕ → List (List ℕ) → ℕ → Type 0
WalkEnd n d limit order xs u = RowWalkEnd d (row n (distances n d) limit order) xs u

abbrev pub WalksEnd : Type 0
WalksEnd = OfTables (λ n d limit order. (xs : List (List ℕ)) (u : ℕ) → rank order u ≤ length xs → WalkEnd n d limit order xs u)

-- Demand 3, hop by hop, from every station: the bound is its greatest hop count, 0 where it has no path to d
abbrev pub RowsCalls : Type 0
RowsCalls = OfRows (λ n d rows ranks. CallsBounded (routers_by d rows) (call_tests_by n d rows) (greatest_hop_by n d rows))

abbrev pub RoutersCalls : Type 0
RoutersCalls = OfTables (λ n d limit order. CallsBounded (routers n d limit order) (call_tests n d limit order) (greatest_hop n d limit order))

-- 01, Refusals, 15, 22 and 23: which starts and hops are not refused
abbrev pub TestsRight : Type 0
TestsRight =
    (n : Network) (d limit : ℕ) (order : List ℕ) → ((u : ℕ) → T ((call_tests n d limit order).start_ok u) ↔ (u < size n))
    × ((states : List ℕ) (p : Packet ℕ) → T ((call_tests n d limit order).hop_ok states p)
    ↔ ((p.station < size n) × (p.hops < size n) × ((length states ≡ n.links) × ((b : ℕ) → Memᴰ b states → b ≤ 1))))

-- Whatever the links do, a walk never visits a router twice.
abbrev pub RowsNeverLoop : Type 0
RowsNeverLoop = OfRows (λ n d rows ranks. (xs : List (List ℕ)) (u : ℕ) → Distinct (u ∷ map (λ a. a.to) (route (routers_by d rows) xs u)))

abbrev pub RoutersNeverLoop : Type 0
RoutersNeverLoop =
    OfTables (λ n d limit order. (xs : List (List ℕ)) (u : ℕ) → Distinct (u ∷ map (λ a. a.to) (route (routers n d limit order) xs u)))

-- 01, Packet, hop and schedule: for all places the greatest hop counts are N, place by place
abbrev pub FiguresByPlace : Type 0
FiguresByPlace =
    (n : Network) (d limit : ℕ) (order : List ℕ) → (length (greatest_hops_lem n d limit order) ≡ size n)
    × ((u : ℕ) → u < size n → get_or (greatest_hops_lem n d limit order) u 0 ≡ greatest_hop n d limit order u)

-- a schedule in which every link is up before every hop
abbrev pub AllUp : Network → List (List ℕ) → Type 0
AllUp n xs = (states : List ℕ) → Memᴰ states xs → (link : ℕ) → link < n.links → Up states link

-- Demand 2, last clause: where first entries are shortest next hops, as in shortest-path mode, with all links up, the walk is delivered and the arcs it
-- took cost the distance.
pub record ShortestRowWalk (n : Network) (d : ℕ) (rows : ℕ → List Arc) (xs : List (List ℕ)) (u : ℕ) : Type 0 where
  pub arrives : (p : Packet ℕ) × (walk (routers_by d rows) xs (start u) ≡ delivered_at p) × (p.station ≡ d)
  pub shortest : cost_of_lem (route (routers_by d rows) xs u) ≡ distance n d u

abbrev pub ShortestByRows : Type 0
ShortestByRows =
    OfRows (λ n d rows ranks. ShortestEntry n d rows → (u : ℕ) → PathTo n d u → (xs : List (List ℕ)) → AllUp n xs → ranks u ≤ length xs →
    ShortestRowWalk n d rows xs u)

abbrev pub ShortestWalk : Network → ℕ → ℕ → List ℕ → List (List ℕ) → ℕ → Type 0
ShortestWalk n d limit order xs u = ShortestRowWalk n d (row n (distances n d) limit order) xs u

abbrev pub ShortestWalks : Type 0
ShortestWalks =
    OfOrders (λ n d. (limit : ℕ) (order : List ℕ) → T (accepted n d shortest-path order) → 1 ≤ limit → (u : ℕ) → PathTo n d u →
    (xs : List (List ℕ)) → AllUp n xs → rank order u ≤ length xs → ShortestWalk n d limit order xs u)
