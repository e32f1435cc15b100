-- What is proved of the listing: what stands in each field of each line, in the terms of 01, for every sound topology, destination and buffer; what is
-- refused; and what the lines of all destinations are.
-- Assumes nothing.
use Rattle.std.specs.Prelude.{ℕ, ◌+◌, ◌/◌, ◌%◌, ◌^◌, ◌≤◌, ◌<◌, List, [], ◌∷◌, ◌++◌, ◌≡◌, T, length, get_or, drop}
use Rattle.network.specs.Lists.{below}
use Rattle.network.specs.Network.{Arc}
use Rattle.network.specs.Distance.{PathTo, distances}
use Rattle.network.specs.Order.{shortest-path}
use Rattle.network.specs.Row.{row}
use Rattle.network.specs.Forwarding.{Walk, packet_of}
use Rattle.network.specs.Theorems.Order.{ByRule}
use Rattle.topology_types.specs.declared.Topology.{Topology}
use Rattle.topology_types.specs.Outcome.{answer, turned_away}
use Rattle.topology_types.specs.Topology.{network_of}
use Rattle.topology_sound.specs.Sound.{sound}
use Rattle.topology.specs.Written.{joined_over}
use Rattle.table.specs.Calls.{table_checking}
use Rattle.table.specs.Theorems.{GivenBy}
use Rattle.forwarding_rules.specs.Calls.{done, walking}
use Rattle.text.specs.Numbers.{number_text}
use Rattle.listing_rules.specs.Listing.{all_lines, listing}

-- a number in decimal, below 2 ^ 64 as all that are printed: one digit, or the digits of its tenth part and the last
pub record Spelled (n : ℕ) : Type 0 where
  pub one : n < 10 → number_text n ≡ (48 + n) ∷ []
  pub more : 10 ≤ n → n < 2 ^ 64 → number_text n ≡ number_text (n / 10) ++ ((48 + n % 10) ∷ [])

abbrev pub NumbersSpelled : Type 0
NumbersSpelled = (n : ℕ) → Spelled n

-- texts one after the other
pub record JoinedOver (A : Type 0) (f : A → List ℕ) : Type 0 where
  pub none : joined_over f [] ≡ []
  pub more : (x : A) (xs : List A) → joined_over f (x ∷ xs) ≡ f x ++ joined_over f xs

abbrev pub JoinsInTurn : Type 1
JoinsInTurn = (A : Type 0) (f : A → List ℕ) → JoinedOver A f

-- 01, Two networks by hand: destination, router, rank, greatest hop count, and the row behind them; 32 is the space
abbrev pub listing_line : ℕ → ℕ → ℕ → ℕ → List ℕ → List ℕ
listing_line d u rank hops rest =
    number_text d ++ (32 ∷ (number_text u ++ (32 ∷ (number_text rank ++ (32 ∷ (number_text hops ++ rest))))))

-- 01, Two networks by hand: the line of router u for destination d, to which it has a path, under an order and by a table. Its fields: the rank, u's
-- turn in the order from 0; the greatest hop count, the most hops made that a walk from u answers over all schedules, which some schedule reaches; the
-- row, the places of its entries, at most K, with one space before each; `-`, 45, if it is empty. A newline, 10, ends it.
pub record LineIs (t : Topology) (d : ℕ) (order table : List ℕ) (u : ℕ) (line : List ℕ) : Type 0 where
  pub rank : ℕ
  pub rank_below : rank < length order
  pub turn : get_or order rank 0 ≡ u
  pub hops : ℕ
  pub hops_below : hops < t.routers
  pub never_passed : (schedule : List ℕ) (w : Walk ℕ) → walking t table u schedule ≡ done w → (packet_of w).hops ≤ hops
  pub reached : (schedule : List ℕ) × (w : Walk ℕ) × (walking t table u schedule ≡ done w) × ((packet_of w).hops ≡ hops)
  pub entries : List Arc
  pub row_is : entries ≡ row (network_of t) (distances (network_of t) d) t.limit order u
  pub if_empty : entries ≡ [] → line ≡ listing_line d u rank hops (32 ∷ 45 ∷ 10 ∷ [])
  pub if_not : (a : Arc) (rest : List Arc) → entries ≡ a ∷ rest →
      line ≡ listing_line d u rank hops (joined_over (λ b. 32 ∷ number_text b.to) entries ++ (10 ∷ []))

-- 02, #107: the line of a router that has a path to d, and that of one that has none: rank and greatest hop count 255, and the row empty
pub record LineByPath (t : Topology) (d : ℕ) (order table : List ℕ) (u : ℕ) (line : List ℕ) : Type 0 where
  pub reached : PathTo (network_of t) d u → LineIs t d order table u line
  pub unreached : (PathTo (network_of t) d u → ⊥) → line ≡ listing_line d u 255 255 (32 ∷ 45 ∷ 10 ∷ [])

-- The lines of a destination: each router's, by place, under the order by 01's rule in shortest-path mode and by the table that it and the topology's
-- K give. They are written where there is room, the rest of the buffer staying, and refused with 24 at their length where there is not.
pub record LinesListed (t : Topology) (d : ℕ) (buffer : List ℕ) : Type 0 where
  pub order : List ℕ
  pub by_rule : ByRule (network_of t) d shortest-path order
  pub table : List ℕ
  pub given : GivenBy t table d t.limit order
  pub accepted : table_checking t table ≡ answer 0 0
  pub line : ℕ → List ℕ
  pub lines : (u : ℕ) → u < t.routers → LineByPath t d order table u (line u)
  pub text : List ℕ
  pub text_is : text ≡ joined_over line (below t.routers)
  pub success : length text ≤ length buffer →
      listing t d buffer ≡ record { answer = answer 0 (length text); buffer = text ++ drop (length text) buffer }
  pub no_room : length buffer < length text → listing t d buffer ≡ turned_away 24 (length text) buffer

abbrev pub ListsRight : Type 0
ListsRight = (t : Topology) → T (sound t) → (d : ℕ) → d < t.routers → (buffer : List ℕ) → LinesListed t d buffer

-- 01, Refusals, 14 and 15: each with the buffer as it was; all else is `ListsRight`.
pub record Refuses (t : Topology) (d : ℕ) (buffer : List ℕ) : Type 0 where
  pub not_sound : (T (sound t) → ⊥) → listing t d buffer ≡ turned_away 14 0 buffer
  pub no_place : T (sound t) → t.routers ≤ d → listing t d buffer ≡ turned_away 15 d buffer

abbrev pub ListingRefuses : Type 0
ListingRefuses = (t : Topology) (d : ℕ) (buffer : List ℕ) → Refuses t d buffer

-- 01, Two networks by hand: the lines of all destinations are those that listing each destination writes, destination by destination, by place.
pub record ListsAll (t : Topology) : Type 0 where
  pub text : ℕ → List ℕ
  pub each : (d : ℕ) → d < t.routers → (buffer : List ℕ) → length (text d) ≤ length buffer →
      listing t d buffer ≡ record { answer = answer 0 (length (text d)); buffer = text d ++ drop (length (text d)) buffer }
  pub all : all_lines t ≡ joined_over text (below t.routers)

abbrev pub ListingRight : Type 0
ListingRight = (t : Topology) → T (sound t) → ListsAll t
