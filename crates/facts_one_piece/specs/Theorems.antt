-- What holds of a topology in one piece (02, #107): there every router is reached, and every promise that speaks of reached stations now, or of 255, holds as
-- it was before #107.
-- Assumes nothing.
use Rattle.std.specs.Prelude.{ℕ, suc, ◌≤◌, ◌<◌, cond, not, ◌↔◌, ◌≡◌, T, eqb, length, get_or, take, drop}
use mathlib.Core.List.{List, ◌∷◌, Memᴰ, map}
use Rattle.network.specs.Lists.{below}
use Rattle.network.specs.Distance.{PathTo}
use Rattle.network.specs.Order as network
use Rattle.network.specs.Order.{shortest-path, free}
use Rattle.network.specs.Row.{rank}
use Rattle.network.specs.Forwarding.{Packet}
use Rattle.network.specs.Theorems.Order.{Accepted, ByRule}
use Rattle.topology_types.specs.declared.Answer.{Answer}
use Rattle.topology_types.specs.declared.Topology.{Topology}
use Rattle.topology_types.specs.Outcome.{answer, given}
use Rattle.topology_types.specs.Topology.{network_of}
use Rattle.topology_sound.specs.Sound.{sound}
use Rattle.order_standings.specs.declared.Mode.{Mode}
use Rattle.order.specs.Calls.{mode_of, wrong_ranks, unready_ranks, refused_at_first, building, checking}
use Rattle.order.specs.Theorems.{up_to_n, InBoth}
use Rattle.order.specs.Facts.{T-topology, two_parts}
use Rattle.table_rows.specs.Layout.{narrow, table_length}
use Rattle.table.specs.Listed.{order_in}
use Rattle.table.specs.Calls.{filling, table_checking}
use Rattle.table.specs.Theorems.{RankAt, GivenBy, limit_set_to}
use Rattle.forwarding_rules.specs.Calls.{figure, figures}
use Rattle.forwarding_rules.specs.Lists.{PacketCall, set_at, hop_under, after_all, last_set_in}
use Rattle.forwarding_rules.specs.Theorems.{destination_byte, SoundStates, SoundSchedule, router_table, ShortestWalk}
use Rattle.forwarding_rules.specs.Theorems.Demand3.{FigureExact}
use Rattle.paths_rules.specs.Calls.{paths_of}
use Rattle.listing_rules.specs.Theorems.{LineIs, LinesListed}

-- every router has a path to place 0
abbrev pub InOnePiece : Topology → Type 0
InOnePiece t = (u : ℕ) → u < t.routers → PathTo (network_of t) 0 u

-- T of 01 is sound and in one piece; four routers of two parts, links 0-1 and 2-3, are sound and not in one piece
abbrev pub PiecesTold : Type 0
PiecesTold = T (sound T-topology) × InOnePiece T-topology × T (sound two_parts) × (InOnePiece two_parts → ⊥)

-- 01, Refusals, 17 to 20, each over the whole order of N places
unfoldable pub judged_whole : Topology → ℕ → Mode → List ℕ → Answer
judged_whole t d m order =
    cond (not (eqb (length order) t.routers)) (answer 17 (length order))
    (refused_at_first 18 (wrong_ranks t.routers order)
    (cond (not (eqb (get_or order 0 0) d)) (answer 19 0)
    (refused_at_first 20 (unready_ranks (network_of t) d (mode_of m) order) (answer 0 0))))

-- Orders for d in one mode: what is built is the order by 01's rule, a byte for each router; checking tests 17 to 20 over all of it, and answers 0 if and
-- only if it is accepted; an accepted order holds every place, and no 255 stands after it.
pub record Orders (t : Topology) (d : ℕ) (m : Mode) (meant : network.Mode) : Type 0 where
  pub built : (buffer : List ℕ) → building t d m buffer ≡ given (network.build (network_of t) d meant) buffer
  pub by_rule : (buffer : List ℕ) → t.routers ≤ length buffer → ByRule (network_of t) d meant (take t.routers (building t d m buffer).buffer)
  pub checked : (order : List ℕ) → checking t d m order ≡ judged_whole t d m order
  pub exact : (order : List ℕ) → (checking t d m order ≡ answer 0 0) ↔ Accepted (network_of t) d meant order
  pub each_place : (order : List ℕ) → Accepted (network_of t) d meant order → (u : ℕ) → Memᴰ u order ↔ (u < t.routers)
  pub no_more : (order : List ℕ) → Accepted (network_of t) d meant order → (length order ≡ t.routers) × (up_to_n t order ≡ order)

-- Filling for an order accepted in free mode, which is the whole of the bytes.
pub record Filled (t : Topology) (d : ℕ) (order buffer : List ℕ) : Type 0 where
  pub success : (filling t d order buffer).answer ≡ answer 0 (table_length narrow t.routers)
  pub by_order : GivenBy t (take (table_length narrow t.routers) (filling t d order buffer).buffer) d t.limit order
  pub rest : drop (table_length narrow t.routers) (filling t d order buffer).buffer ≡ drop (table_length narrow t.routers) buffer
  pub long : length (filling t d order buffer).buffer ≡ length buffer
  pub accepted : table_checking t (take (table_length narrow t.routers) (filling t d order buffer).buffer) ≡ answer 0 0

-- Over an accepted table, from every station: the figures reported are the greatest hop counts, demand 3 by walks and by lists of calls, demand 2's
-- shortest walk, and #103's longest path.
pub record Stations (t : Topology) (table : List ℕ) : Type 0 where
  pub figures_are : figures t table ≡ map (figure t table) (below t.routers)
  pub by_walks : (u : ℕ) → u < t.routers → FigureExact (router_table t table) u
  pub never_passed : (p : Packet ℕ) (first : ℕ) → first < t.routers → (cs : List (PacketCall (List ℕ))) →
      (last_set_in (router_table t table) cs first < t.routers)
      × ((after_all (router_table t table) (set_at first ∷ cs) p).hops ≤ get_or (figures t table) (last_set_in (router_table t table) cs first) 0)
  pub reached : (p : Packet ℕ) (s : ℕ) → s < t.routers → (cs : List (PacketCall (List ℕ))) × (last_set_in (router_table t table) cs s ≡ s)
      × ((after_all (router_table t table) (set_at s ∷ cs) p).hops ≡ get_or (figures t table) s 0)
      × ((c : PacketCall (List ℕ)) → Memᴰ c cs → (states : List ℕ) × (c ≡ hop_under states) × SoundStates t states)
  pub shortest : Accepted (network_of t) (destination_byte table) shortest-path (order_in t.routers table) → (u : ℕ) → u < t.routers →
      (schedule : List ℕ) → SoundSchedule t schedule → ((b : ℕ) → Memᴰ b schedule → b ≡ 1) → ShortestWalk t table u schedule
  pub longest_one : (u : ℕ) → u < t.routers → (p : List ℕ) × Memᴰ p (paths_of t table u) × (length p ≡ suc (get_or (figures t table) u 0))

-- 02, #107: every earlier promise that speaks of reached stations now, or of 255, of a sound topology in one piece. The others hold of every sound one.
pub record AsBefore (t : Topology) : Type 0 where
  pub paths : (d u : ℕ) → d < t.routers → u < t.routers → PathTo (network_of t) d u
  pub one_alone : t.links ≡ 0 → t.routers ≡ 1
  pub orders : (d : ℕ) → d < t.routers → InBoth (λ m meant. Orders t d m meant)
  pub filled : (d : ℕ) → d < t.routers → (order : List ℕ) → Accepted (network_of t) d free order → (buffer : List ℕ) →
      table_length narrow t.routers ≤ length buffer → Filled t d order buffer
  -- 01, Rows and tables: a table is what filling gives for its order
  pub refilled : (table : List ℕ) (d limit : ℕ) (order : List ℕ) → GivenBy t table d limit order → (buffer : List ℕ) → length buffer ≡ length table →
      filling (limit_set_to t limit) d order buffer ≡ record { answer = answer 0 (length table); buffer = table }
  -- a rank byte is the rank, of every place, where a table is given, begun or listed
  pub rank_is : (d : ℕ) → d < t.routers → (order : List ℕ) → Accepted (network_of t) d free order → (u : ℕ) → u < t.routers → (byte : ℕ) →
      RankAt order u byte ↔ (byte ≡ rank order u)
  pub stations : (table : List ℕ) → table_checking t table ≡ answer 0 0 → Stations t table
  -- the listing's lines name a rank and a greatest hop count for every router
  pub listed : (d : ℕ) → d < t.routers → (buffer : List ℕ) →
      (l : LinesListed t d buffer) × ((u : ℕ) → u < t.routers → LineIs t d l.order l.table u (l.line u))

abbrev pub OnePieceAsBefore : Type 0
OnePieceAsBefore = (t : Topology) → T (sound t) → InOnePiece t → AsBefore t
