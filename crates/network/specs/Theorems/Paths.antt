-- What is proved of the paths down the rows, over any rows and any rule of choice that obeys the laws; then of routers, over every well_formed network,
-- every destination in it and all rows along whose entries ranks fall, and so of every limit K and every order accepted for it.
-- Assumes nothing.
use Rattle.std.specs.Prelude.{ℕ, suc, ◌≤◌, ◌<◌, ◌↔◌, ◌≢◌, ◌≡◌, T, length}
use mathlib.Core.List.{List, [], ◌∷◌, ◌++◌, Memᴰ, map}
use Rattle.network.specs.Lists.{counted, Pairwise, Distinct}
use Rattle.network.specs.Network.{Arc, Network, size}
use Rattle.network.specs.Distance.{PathTo, distances}
use Rattle.network.specs.Row.{rank, row}
use Rattle.network.specs.Forwarding.{Forwarding, Packet, delivered_at, walk, start, route, longest}
use Rattle.network.specs.Paths.{paths_from, paths_through}
use Rattle.network.specs.Routing.{valid_states, routers_by, greatest_hop_by, greatest_hop, every_path_by, every_path}
use Rattle.network.specs.Theorems.Forwarding.{Lawful}
use Rattle.network.specs.Theorems.Routing.{SomeEntry, OfRows, OfTables}

-- a claim of every station, over rows and a rule of choice that obey the laws, where at least as many moves are allowed as its rank
abbrev pub OfPaths : ((f : Forwarding) (rank : f.State → ℕ) (valid : f.States → Type 0) → ℕ → f.State → Type 0) → Type 1
OfPaths claim =
    (f : Forwarding) (rank : f.State → ℕ) (valid : f.States → Type 0) → Lawful f rank valid → (left : ℕ) (s : f.State) → rank s ≤ left →
    claim f rank valid left s

-- 02, 103, its rule: from the destination there is one path, itself; from any other station they are those through each entry of its row in turn, and
-- an entry's are those from the station it names. The moves allowed may stay the same throughout, once they are at least the rank.
pub record PathRule (f : Forwarding) (left : ℕ) (s : f.State) : Type 0 where
  pub at_home : T (f.home s) → paths_from f left s ≡ (s ∷ []) ∷ []
  pub elsewhere : (T (f.home s) → ⊥) → paths_from f left s ≡ map (λ p. s ∷ p) (paths_through f left (f.row s))
  pub no_entry : paths_through f left [] ≡ []
  pub each_entry : (e : f.Entry) (es : List f.Entry) → paths_through f left (e ∷ es) ≡ paths_from f left (f.next e) ++ paths_through f left es

abbrev pub PathsByRule : Type 1
PathsByRule = OfPaths (λ f rank valid left s. PathRule f left s)

-- A path down the rows: it starts at s, each next station is the one that an entry of the row before it names, and it ends at the destination.
pub record PathDown (f : Forwarding) (s : f.State) (p : List f.State) : Type 0 where
  pub starts : (rest : List f.State) × (p ≡ s ∷ rest)
  pub steps : (before : List f.State) (u v : f.State) (after : List f.State) → p ≡ before ++ (u ∷ v ∷ after) →
      (e : f.Entry) × Memᴰ e (f.row u) × (f.next e ≡ v)
  pub ends : (before : List f.State) × (t : f.State) × (p ≡ before ++ (t ∷ [])) × T (f.home t)

-- The list holds exactly these.
abbrev pub PathsExact : Type 1
PathsExact = OfPaths (λ f rank valid left s. (p : List f.State) → Memᴰ p (paths_from f left s) ↔ PathDown f s p)

-- p and q go together as far as a station, where p goes to an earlier entry of its row than q
pub record Earlier (f : Forwarding) (p q : List f.State) : Type 0 where
  pub together : List f.State
  pub station : f.State
  pub sooner : f.Entry
  pub later : f.Entry
  pub before : List f.Entry
  pub between : List f.Entry
  pub behind : List f.Entry
  pub listed : f.row station ≡ before ++ (sooner ∷ between ++ (later ∷ behind))
  pub p_rest : List f.State
  pub q_rest : List f.State
  pub p_goes : p ≡ together ++ (station ∷ f.next sooner ∷ p_rest)
  pub q_goes : q ≡ together ++ (station ∷ f.next later ∷ q_rest)

-- They stand in the order of the rows: each goes to an earlier entry than every later one, where the two part.
abbrev pub PathsInOrder : Type 1
PathsInOrder = (f : Forwarding) (left : ℕ) (s : f.State) → Pairwise (Earlier f) (paths_from f left s)

-- Each stands in the list once, if no two entries of a row name one station.
abbrev pub PathsOnce : Type 1
PathsOnce =
    (f : Forwarding) → ((s : f.State) → Pairwise (λ a b. f.next a ≢ f.next b) (f.row s)) → (left : ℕ) (s : f.State) →
    Distinct (paths_from f left s)

-- None has a repeated station, since ranks fall along it; so it has at most as many moves as the rank.
pub record NoRepeat (f : Forwarding) (rank : f.State → ℕ) (s : f.State) (p : List f.State) : Type 0 where
  pub falls : Pairwise (λ earlier later. rank later < rank earlier) p
  pub once : Distinct p
  pub at_most_rank : length p ≤ suc (rank s)

abbrev pub PathsNeverRepeat : Type 1
PathsNeverRepeat = OfPaths (λ f rank valid left s. (p : List f.State) → Memᴰ p (paths_from f left s) → NoRepeat f rank s p)

-- the way down the rows from s can come by t
pub data Met (f : Forwarding) : f.State → f.State → Type 0 where
  here : {s : f.State} → Met f s s
  down : {s t : f.State} (e : f.Entry) → Memᴰ e (f.row s) → Met f (f.next e) t → Met f s t

-- 02, 103: the longest path has as many moves as the greatest hop count, and a path has one station more than it has moves. None has more moves; one
-- has as many, unless the way down can come to an empty row short of the destination.
pub record LongestPath (f : Forwarding) (left : ℕ) (s : f.State) : Type 0 where
  pub never_passed : (p : List f.State) → Memᴰ p (paths_from f left s) → length p ≤ suc (longest f left s)
  pub reached : ((t : f.State) → Met f s t → (T (f.home t) → ⊥) → f.row t ≢ []) →
      (p : List f.State) × Memᴰ p (paths_from f left s) × (length p ≡ suc (longest f left s))

abbrev pub LongestPaths : Type 1
LongestPaths = OfPaths (λ f rank valid left s. LongestPath f left s)

-- the stations of a walk: its start, then what the entries of its route name
abbrev pub visited : (f : Forwarding) → List f.States → f.State → List f.State
visited f xs s = s ∷ map f.next (route f xs s)

-- Every walk that is delivered goes along one of the paths, and along each of them goes some walk that is delivered, of any number of valid rows that is
-- at least the rank.
pub record Walked (f : Forwarding) (rank : f.State → ℕ) (valid : f.States → Type 0) (s : f.State) (paths : List (List f.State)) : Type 0 where
  pub each_walk : (xs : List f.States) (q : Packet f.State) → walk f xs (start s) ≡ delivered_at q → Memᴰ (visited f xs s) paths
  pub each_path : (p : List f.State) → Memᴰ p paths → (rows : ℕ) → rank s ≤ rows →
      (xs : List f.States) × (length xs ≡ rows) × ((x : f.States) → Memᴰ x xs → valid x)
      × ((q : Packet f.State) × (walk f xs (start s) ≡ delivered_at q)) × (visited f xs s ≡ p)

abbrev pub PathsWalked : Type 1
PathsWalked = OfPaths (λ f rank valid left s. Walked f rank valid s (paths_from f left s))

-- 02, 103, refusal 25: a count that stops beyond the limit tells whether there are more, and if there are not, how many. It may be taken part by part,
-- and a count that is beyond the limit already stays there.
pub record Counted {A : Type 0} (most : ℕ) (xs : List A) : Type 0 where
  pub more : (most < counted most 0 xs) ↔ (most < length xs)
  pub how_many : length xs ≤ most → counted most 0 xs ≡ length xs
  pub in-turn : (total : ℕ) (ys : List A) → counted most total (xs ++ ys) ≡ counted most (counted most total xs) ys
  pub stopped : (total : ℕ) → most < total → counted most total xs ≡ suc most

abbrev pub CountsExact : Type 1
CountsExact = (A : Type 0) (most : ℕ) (xs : List A) → Counted most xs

-- 02, 103, of routers: a path starts at u, each next place is an entry of the row of the place before it, and it ends at d.
pub record RowPath (d : ℕ) (rows : ℕ → List Arc) (u : ℕ) (p : List ℕ) : Type 0 where
  pub starts : (rest : List ℕ) × (p ≡ u ∷ rest)
  pub steps : (before : List ℕ) (v w : ℕ) (after : List ℕ) → p ≡ before ++ (v ∷ w ∷ after) → (a : Arc) × Memᴰ a (rows v) × (a.to ≡ w)
  pub ends : (before : List ℕ) × (p ≡ before ++ (d ∷ []))

-- What is listed for u, and its greatest hop count; `filled` is what gives every router with a path but d an entry.
pub record RowPaths (n : Network) (d : ℕ) (rows : ℕ → List Arc) (ranks : ℕ → ℕ) (filled : Type 0) (u : ℕ) (listed : List (List ℕ)) (most : ℕ) : Type 0 where
  -- the list holds exactly these, each once, in the order of the rows
  pub holds : (p : List ℕ) → Memᴰ p listed ↔ RowPath d rows u p
  pub each_once : Distinct listed
  pub in_order : Pairwise (Earlier (routers_by d rows)) listed
  -- none has a repeated router, so each fits N places
  pub no_repeat : (p : List ℕ) → Memᴰ p listed → Distinct p
  pub in_network : u < size n → (p : List ℕ) → Memᴰ p listed → (length p ≤ size n) × ((v : ℕ) → Memᴰ v p → v < size n)
  -- the longest has as many moves as the greatest hop count
  pub never_passed : (p : List ℕ) → Memᴰ p listed → length p ≤ suc most
  pub longest_one : filled → PathTo n d u → (p : List ℕ) × Memᴰ p listed × (length p ≡ suc most)
  -- where there is no way to d over the links there is none in the list
  pub only_reached : (PathTo n d u → ⊥) → listed ≡ []
  pub walks : Walked (routers_by d rows) ranks (λ states. T (valid_states n states)) u listed

abbrev pub PathsByRowsExact : Type 0
PathsByRowsExact =
    OfRows (λ n d rows ranks. (u : ℕ) → RowPaths n d rows ranks (SomeEntry n d rows) u (every_path_by n d rows u) (greatest_hop_by n d rows u))

abbrev pub RouterPath : Network → ℕ → ℕ → List ℕ → ℕ → List ℕ → Type 0
RouterPath n d limit order u p = RowPath d (row n (distances n d) limit order) u p

abbrev pub EveryPath : Network → ℕ → ℕ → List ℕ → ℕ → Type 0
EveryPath n d limit order u =
    RowPaths n d (row n (distances n d) limit order) (rank order) (1 ≤ limit) u (every_path n d limit order u) (greatest_hop n d limit order u)

abbrev pub EveryPathExact : Type 0
EveryPathExact = OfTables (λ n d limit order. (u : ℕ) → EveryPath n d limit order u)
