-- What is proved of walks, over any rows and any rule of choice that obeys the laws.
-- Assumes nothing.
use Rattle.std.specs.Prelude.{ℕ, suc, ◌+◌, ◌≤◌, ◌<◌, ◌↔◌, ◌≢◌, ◌⊎◌, ◌≡◌, T, length, drop}
use mathlib.Core.List.{List, [], ◌∷◌, Memᴰ, map}
use Rattle.std.proofs.Math.Option.{none, some}
use Rattle.network.specs.Lists.{Pairwise}
use Rattle.network.specs.Forwarding.{Forwarding, Packet, delivered, moved, dropped, delivered_at, dropped_at, unfinished_at, packet_of, hop, walk, start, route, end_of, longest}

-- A hop delivers at home; off home it drops where nothing is chosen, and else moves to the entry chosen, with one hop more.
pub record HopChosen (f : Forwarding) (x : f.States) (p : Packet f.State) : Type 0 where
  pub delivers : (hop f x p ≡ delivered) ↔ T (f.home p.station)
  pub drops : (hop f x p ≡ dropped) ↔ ((T (f.home p.station) → ⊥) × (f.choose x p.station ≡ none))
  pub moves : (q : Packet f.State) → (hop f x p ≡ moved q) ↔ ((T (f.home p.station) → ⊥)
      × ((e : f.Entry) × (f.choose x p.station ≡ some e) × (q ≡ record { station = f.next e; hops = suc p.hops })))

abbrev pub HopsChosen : Type 1
HopsChosen = (f : Forwarding) (x : f.States) (p : Packet f.State) → HopChosen f x p

-- The laws that exactness needs. Of the rows: home has none, and ranks fall along entries. Of the rule of choice, two: what is chosen stands in the
-- row, and each entry of a row is chosen under some valid states. Some row of states is valid, so that schedules can be any length.
pub record Lawful (f : Forwarding) (rank : f.State → ℕ) (valid : f.States → Type 0) : Type 0 where
  pub home_row : (s : f.State) → T (f.home s) → f.row s ≡ []
  pub falls : (s : f.State) (e : f.Entry) → Memᴰ e (f.row s) → rank (f.next e) < rank s
  pub chosen : (x : f.States) (s : f.State) (e : f.Entry) → f.choose x s ≡ some e → Memᴰ e (f.row s)
  pub choosable : (s : f.State) (e : f.Entry) → Memᴰ e (f.row s) → (x : f.States) × valid x × (f.choose x s ≡ some e)
  pub some_valid : (x : f.States) × valid x

-- Demand 3, for walks: the figure of a station is exactly the greatest hop count of a walk from there.
pub record Exact (f : Forwarding) (rank : f.State → ℕ) (valid : f.States → Type 0) (s : f.State) (figure : ℕ) : Type 0 where
  -- no schedule passes it
  pub never_passed : (xs : List f.States) → (packet_of (walk f xs (start s))).hops ≤ figure
  -- some schedule of any number of valid rows, at least the rank, reaches it
  pub reached : (rows : ℕ) → rank s ≤ rows → (xs : List f.States) × (length xs ≡ rows)
      × ((x : f.States) → Memᴰ x xs → valid x) × ((packet_of (walk f xs (start s))).hops ≡ figure)
  -- it never exceeds the rank
  pub at_most_rank : figure ≤ rank s

-- The longest way is that figure, in any number of hops allowed that is at least the rank.
abbrev pub WalksExact : Type 1
WalksExact =
    (f : Forwarding) (rank : f.State → ℕ) (valid : f.States → Type 0) → Lawful f rank valid → (left : ℕ) (s : f.State) → rank s ≤ left →
    Exact f rank valid s (longest f left s)

-- how a walk ended: at home; off home where the row of states for that hop left nothing to choose; or off home at a station of rank 0, which has an
-- empty row, where no row of states was left
pub data Ended (f : Forwarding) (rank : f.State → ℕ) (xs : List f.States) (s : f.State) : Type 0 where
  at_home : (p : Packet f.State) → walk f xs (start s) ≡ delivered_at p → T (f.home p.station) → Ended f rank xs s
  nothing_live : (p : Packet f.State) → walk f xs (start s) ≡ dropped_at p → (T (f.home p.station) → ⊥) →
      (x : f.States) (rest : List f.States) → drop p.hops xs ≡ x ∷ rest → f.choose x p.station ≡ none → Ended f rank xs s
  no_entry : (p : Packet f.State) → walk f xs (start s) ≡ dropped_at p → (T (f.home p.station) → ⊥) →
      drop p.hops xs ≡ [] → f.row p.station ≡ [] → rank p.station ≡ 0 → Ended f rank xs s

-- A walk with at least rank many rows ends delivered or dropped, and never merely runs out of rows. Where only home has rank 0 the last way to end does
-- not occur.
abbrev pub WalksFinish : Type 1
WalksFinish =
    (f : Forwarding) (rank : f.State → ℕ) (valid : f.States → Type 0) → Lawful f rank valid →
    (xs : List f.States) (s : f.State) → rank s ≤ length xs → Ended f rank xs s

-- A walk goes hop by hop, each by the rule for a single hop under the schedule's row for it. With no row of states left it is delivered at home, dropped
-- at an empty row, and else unfinished.
pub record WalkRule (f : Forwarding) (x : f.States) (xs : List f.States) (p : Packet f.State) : Type 0 where
  pub delivers : hop f x p ≡ delivered → walk f (x ∷ xs) p ≡ delivered_at p
  pub drops : hop f x p ≡ dropped → walk f (x ∷ xs) p ≡ dropped_at p
  pub goes_on : (q : Packet f.State) → hop f x p ≡ moved q → walk f (x ∷ xs) p ≡ walk f xs q
  pub arrives : T (f.home p.station) → walk f [] p ≡ delivered_at p
  pub drops_out : (T (f.home p.station) → ⊥) → f.row p.station ≡ [] → walk f [] p ≡ dropped_at p
  pub runs_out : (T (f.home p.station) → ⊥) → f.row p.station ≢ [] → walk f [] p ≡ unfinished_at p

abbrev pub WalksByHops : Type 1
WalksByHops = (f : Forwarding) (x : f.States) (xs : List f.States) (p : Packet f.State) → WalkRule f x xs p

-- The route of a walk is what it walked, hop by hop: the entry of each hop that moves.
pub record RouteRule (f : Forwarding) (x : f.States) (xs : List f.States) (p : Packet f.State) : Type 0 where
  pub stops : (hop f x p ≡ delivered) ⊎ (hop f x p ≡ dropped) → route f (x ∷ xs) p.station ≡ []
  pub goes_on : (q : Packet f.State) → hop f x p ≡ moved q → (e : f.Entry) × (f.choose x p.station ≡ some e) × (f.next e ≡ q.station)
      × (route f (x ∷ xs) p.station ≡ e ∷ route f xs q.station)
  pub ends : route f [] p.station ≡ []

abbrev pub RoutesByHops : Type 1
RoutesByHops = (f : Forwarding) (x : f.States) (xs : List f.States) (p : Packet f.State) → RouteRule f x xs p

-- It leads to the packet's station, and has an entry for each hop made.
abbrev pub RoutesWalked : Type 1
RoutesWalked =
    (f : Forwarding) (xs : List f.States) (p : Packet f.State) →
    packet_of (walk f xs p)
    ≡ record { station = end_of f p.station (route f xs p.station); hops = p.hops + length (route f xs p.station) }

-- No walk loops: ranks fall from each station that it visits to every later one.
abbrev pub NeverLoops : Type 1
NeverLoops =
    (f : Forwarding) (rank : f.State → ℕ) (valid : f.States → Type 0) → Lawful f rank valid → (xs : List f.States) (s : f.State) →
    Pairwise (λ earlier later. rank later < rank earlier) (s ∷ map f.next (route f xs s))
