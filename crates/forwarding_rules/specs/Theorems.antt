-- What is proved of what the calls answer: demand 1 for these calls, over all values; demand 3, whose claims are said of any system (Demand3), and demand 2's
-- last clause, for every sound topology and every table that checking answers 0 for.
-- Assumes nothing.
use Rattle.std.specs.Prelude.{ℕ, pred, ◌+◌, ◌*◌, ◌≤◌, ◌<◌, ◌↔◌, ◌≢◌, ◌⊎◌, ◌≡◌, T, length, get_or, take, drop, Ok, Err}
use mathlib.Core.List.{List, [], map, Memᴰ}
use Rattle.network.specs.Lists.{below}
use Rattle.network.specs.Network.{Arc, arcs_of}
use Rattle.network.specs.Distance.{PathTo, distance}
use Rattle.network.specs.Order.{shortest-path}
use Rattle.network.specs.Forwarding as network
use Rattle.network.specs.Forwarding.{Packet, Walk, delivered_at, dropped_at}
use Rattle.network.specs.Theorems.Order.{Accepted}
use Rattle.topology_types.specs.declared.Refusal.{Refusal}
use Rattle.topology_types.specs.declared.Topology.{Topology}
use Rattle.topology_types.specs.Outcome.{answer, number_of}
use Rattle.topology_types.specs.Topology.{network_of}
use Rattle.topology_sound.specs.Sound.{sound}
use Rattle.table.specs.Listed.{destination_in_lem, rank_in_lem, places_in, order_in}
use Rattle.table.specs.Calls.{table_checking}
use Rattle.forwarding_rules.specs.declared.Packet as code
use Rattle.forwarding_rules.specs.declared.Hop.TheVariants as hopped
use Rattle.forwarding_rules.specs.declared.Walk.TheVariants as walked
use Rattle.forwarding_rules.specs.Schedule.{row_in, rows_in, sound_length}
use Rattle.forwarding_rules.specs.Calls.{Said, done, refused, said, packet_in, setting_says, hop_says, walk_says, by, figures, counting_hops, setting_at, hopping, walking}
use Rattle.forwarding_rules.specs.Lent.{Left, setting_packet, hopping_packet}
use Rattle.forwarding_rules.specs.System.{System}
use Rattle.forwarding_rules.specs.Theorems.Demand3.{FigureExact, CutOff, HopByRule, WalkEnds, ByHops, WalkCosts, CallsBounded, CallRule, InTurn, Claims}
pub mod Demand3

-- 01, Packet, hop and schedule; Refusals: a packet of the code, and the answers that hold it, with its place as a number
pub record PacketMeant (p : code.Packet) : Type 0 where
  pub packet : packet_in p ≡ record { station = p.station.0; hops = p.hops }
  pub setting_set : setting_says (Ok p) ≡ done (record { station = p.station.0; hops = p.hops })
  pub hop_moved : hop_says (Ok (hopped.Moved p)) ≡ done (network.moved (record { station = p.station.0; hops = p.hops }))
  pub walk_delivered : walk_says (Ok (walked.Delivered p)) ≡ done (delivered_at (record { station = p.station.0; hops = p.hops }))
  pub walk_dropped : walk_says (Ok (walked.Dropped p)) ≡ done (dropped_at (record { station = p.station.0; hops = p.hops }))

-- 01, Refusals: the code's refusals keep number and at
pub record RefusalMeant (r : Refusal) : Type 0 where
  pub setting_refused : setting_says (Err r) ≡ refused (number_of r.fault) r.at
  pub hop_refused : hop_says (Err r) ≡ refused (number_of r.fault) r.at
  pub walk_refused : walk_says (Err r) ≡ refused (number_of r.fault) r.at

-- What each case of the code's answers says, and which number and at that is: 0 and 0 for what is done.
pub record AnswersMean : Type 1 where
  pub packets : (p : code.Packet) → PacketMeant p
  pub hop_delivered : hop_says (Ok hopped.Delivered) ≡ done network.delivered
  pub hop_dropped : hop_says (Ok hopped.Dropped) ≡ done network.dropped
  pub refusals : (r : Refusal) → RefusalMeant r
  pub said_done : {A : Type 0} (x : A) → said (done x) ≡ answer 0 0
  pub said_refused : (A : Type 0) (number at : ℕ) → said {A = A} (refused number at) ≡ answer number at

-- 01, Packet, hop and schedule: row h has one byte per link, the bytes from h * links on
pub record RowRight (links : ℕ) (schedule : List ℕ) (h : ℕ) : Type 0 where
  pub long : h * links + links ≤ length schedule → length (row_in links schedule h) ≡ links
  pub bytes : (i : ℕ) → i < links → get_or (row_in links schedule h) i 0 ≡ get_or schedule (h * links + i) 0

abbrev pub RowsRight : Type 0
RowsRight = (links : ℕ) (schedule : List ℕ) (h : ℕ) → RowRight links schedule h

-- 01, Packet, hop and schedule; Refusals, 22: with no links a schedule is empty, however many routers there are, and stands for N - 1 rows of no states.
pub record WithoutLinks (routers : ℕ) : Type 0 where
  pub empty : (long : ℕ) → T (sound_length routers 0 long) ↔ (long ≡ 0)
  pub rows : rows_in routers 0 [] ≡ map (λ h. []) (below (pred routers))

abbrev pub EmptyWithoutLinks : Type 0
EmptyWithoutLinks = (routers : ℕ) → WithoutLinks routers

-- 01, Packet, hop and schedule: with links a schedule of k whole rows, at least N - 1, stands for these, one after the other.
abbrev pub RowsInTurn : Type 0
RowsInTurn =
    (routers links k : ℕ) (schedule : List ℕ) → 0 < links → length schedule ≡ k * links → pred routers ≤ k →
    rows_in routers links schedule ≡ map (row_in links schedule) (below k)

-- a claim of every sound topology and every table accepted on it
abbrev pub OfAccepted : (Topology → List ℕ → Type 0) → Type 0
OfAccepted claim = (t : Topology) → T (sound t) → (table : List ℕ) → table_checking t table ≡ answer 0 0 → claim t table

-- 01, Rows and tables: the destination, the rank of a place and the places that its row lists, in a table's bytes; which bytes these are, `FieldsRead` of
-- `table` says
abbrev pub destination_byte : List ℕ → ℕ
destination_byte table = destination_in_lem table

abbrev pub rank_byte : List ℕ → ℕ → ℕ
rank_byte table u = rank_in_lem table u

abbrev pub ListsPlace : List ℕ → ℕ → ℕ → ℕ → Type 0
ListsPlace table u j v = (j < length (places_in table u)) × (get_or (places_in table u) j 0 ≡ v)

-- 01, Packet, hop and schedule: the link from u to its neighbour v is up, its byte 1
abbrev pub UpTo : Topology → List ℕ → ℕ → ℕ → Type 0
UpTo t states u v = (a : Arc) × Memᴰ a (arcs_of (network_of t) u) × (a.to ≡ v) × (get_or states a.link 0 ≡ 1)

-- no link to a listed next hop of u is up
abbrev pub NoneUp : Topology → List ℕ → List ℕ → ℕ → Type 0
NoneUp t table states u = (j v : ℕ) → ListsPlace table u j v → UpTo t states u v → ⊥

-- v is the first listed next hop of u whose link is up
pub record FirstUp (t : Topology) (table states : List ℕ) (u v : ℕ) : Type 0 where
  pub turn : ℕ
  pub listed : ListsPlace table u turn v
  pub live : UpTo t states u v
  pub down : (j w : ℕ) → j < turn → ListsPlace table u j w → UpTo t states u w → ⊥

-- 01, Refusals, 22: whole rows of states, at least N - 1 of them; with no links no bytes
pub record WholeRows (t : Topology) (schedule : List ℕ) : Type 0 where
  pub rows : ℕ
  pub whole : length schedule ≡ rows * t.links
  pub enough : pred t.routers ≤ rows

-- 01, Refusals, 22 and 23: and no byte over 1
pub record SoundSchedule (t : Topology) (schedule : List ℕ) : Type 0 where
  pub whole_rows : WholeRows t schedule
  pub states_are : (b : ℕ) → Memᴰ b schedule → b ≤ 1

-- 01, Refusals, 14 and 15, for a hop: the topology is sound, and the packet's station and hops made are below N
pub record PacketStands (t : Topology) (p : Packet ℕ) : Type 0 where
  pub is-sound : T (sound t)
  pub station : p.station < t.routers
  pub hops : p.hops < t.routers

-- 01, Refusals, 22 and 23, for a hop: one byte per link, none over 1
pub record SoundStates (t : Topology) (states : List ℕ) : Type 0 where
  pub long : length states ≡ t.links
  pub states_are : (b : ℕ) → Memᴰ b states → b ≤ 1

-- 02, #107: u has a path to the table's destination
abbrev pub Reached : Topology → List ℕ → ℕ → Type 0
Reached t table u = PathTo (network_of t) (destination_byte table) u

-- 01, Packet, hop and schedule: what a move from u to its neighbour v costs. No two arcs of a router lead to one place (`WellFormed` of `network`, by
-- `SoundNetworks` of `topology_sound`).
abbrev pub MoveCosts : Topology → ℕ → ℕ → ℕ → Type 0
MoveCosts t u v cost = (a : Arc) × Memᴰ a (arcs_of (network_of t) u) × (a.to ≡ v) × (a.cost ≡ cost)

-- One router table is a system: a packet stands at a station and can be set at each, a hop is given a row of link states, and a walk a schedule of at least
-- N - 1 rows. So there is a row for every hop off d, and none is dropped for want of one.
abbrev pub router_table : Topology → List ℕ → System
router_table t table =
    record {
      forwarding = by t table;
      places = t.routers;
      standing = λ u. u;
      Run = List ℕ;
      setting = setting_at t;
      hopping = hopping t table;
      walking = walking t table;
      setting_lent = setting_packet t;
      hopping_lent = hopping_packet t table;
      may_stand = λ p. PacketStands t p;
      sound_states = λ states. SoundStates t states;
      sound_run = λ schedule. SoundSchedule t schedule;
      has_row = λ schedule h. h * t.links + t.links ≤ length schedule;
      row_of = row_in t.links;
      least_run = λ schedule. length schedule ≡ pred t.routers * t.links;
      reported = λ u. get_or (figures t table) u 0;
      bound = rank_byte table;
      reached = Reached t table;
      no_figure = 255;
      at_destination = λ u. u ≡ destination_byte table;
      none_up = NoneUp t table;
      goes = λ states u v. FirstUp t table states u v;
      rowless = λ u. ⊥;
      costs = MoveCosts t;
    }

-- The greatest hop counts are reported for every accepted table, N bytes; a buffer that is too short is refused at N and stays as it was.
pub record Reports (t : Topology) (table buffer : List ℕ) : Type 0 where
  pub success : t.routers ≤ length buffer → (counting_hops t table buffer).answer ≡ answer 0 t.routers
  pub bytes : t.routers ≤ length buffer → take t.routers (counting_hops t table buffer).buffer ≡ figures t table
  pub rest : t.routers ≤ length buffer → drop t.routers (counting_hops t table buffer).buffer ≡ drop t.routers buffer
  pub short : length buffer < t.routers → counting_hops t table buffer ≡ record { answer = answer 24 t.routers; buffer = buffer }
  pub long : length (figures t table) ≡ t.routers

abbrev pub FiguresReported : Type 0
FiguresReported = OfAccepted (λ t table. (buffer : List ℕ) → Reports t table buffer)

-- 01, Refusals, 14 and 21: where the topology or the table is refused, so is the count, and the buffer stays as it was.
abbrev pub CountRefuses : Type 0
CountRefuses =
    (t : Topology) (table buffer : List ℕ) (number at : ℕ) → number ≢ 0 → table_checking t table ≡ answer number at →
    counting_hops t table buffer ≡ record { answer = answer number at; buffer = buffer }

-- A hop is not refused exactly where each of its tests passes.
abbrev pub HopsDone : Type 0
HopsDone =
    (t : Topology) (table states : List ℕ) (p : Packet ℕ) →
    ((h : network.Hop ℕ) × (hopping t table states p ≡ done h)) ↔ (PacketStands t p × (table_checking t table ≡ answer 0 0) × SoundStates t states)

-- A walk is not refused exactly where each of its tests passes.
abbrev pub WalksDone : Type 0
WalksDone =
    (t : Topology) (table : List ℕ) (u : ℕ) (schedule : List ℕ) → ((w : Walk ℕ) × (walking t table u schedule ≡ done w))
    ↔ (T (sound t) × (u < t.routers) × (table_checking t table ≡ answer 0 0) × SoundSchedule t schedule)

-- 01, Refusals, 23, at i: the byte is over 1, and every earlier one is not
pub record FirstOver (states : List ℕ) (i : ℕ) : Type 0 where
  pub within : i < length states
  pub over : 1 < get_or states i 0
  pub earlier : (k : ℕ) → k < i → get_or states k 0 ≤ 1

-- 01, Refusals: what each refusal of a hop says, and when it is given, for every topology, table, states and packet; all else is `HopsByRule`.
pub record HopAnswers (t : Topology) (table states : List ℕ) (p : Packet ℕ) (at : ℕ) : Type 0 where
  pub says_14 : (hopping t table states p ≡ refused 14 at) ↔ ((at ≡ 0) × (T (sound t) → ⊥))
  pub says_15 : (hopping t table states p ≡ refused 15 at)
      ↔ (T (sound t) × (((t.routers ≤ p.station) × (at ≡ p.station)) ⊎ ((p.station < t.routers) × (t.routers ≤ p.hops) × (at ≡ p.hops))))
  pub says_21 : (hopping t table states p ≡ refused 21 at) ↔ (PacketStands t p × (table_checking t table ≡ answer 21 at))
  pub says_22 : (hopping t table states p ≡ refused 22 at)
      ↔ (PacketStands t p × (table_checking t table ≡ answer 0 0) × (length states ≢ t.links) × (at ≡ length states))
  pub says_23 : (hopping t table states p ≡ refused 23 at)
      ↔ (PacketStands t p × (table_checking t table ≡ answer 0 0) × (length states ≡ t.links) × FirstOver states at)
  pub no_other : (number : ℕ) → hopping t table states p ≡ refused number at →
      (number ≡ 14) ⊎ ((number ≡ 15) ⊎ ((number ≡ 21) ⊎ ((number ≡ 22) ⊎ (number ≡ 23))))

abbrev pub HopsAnswer : Type 0
HopsAnswer = (t : Topology) (table states : List ℕ) (p : Packet ℕ) (at : ℕ) → HopAnswers t table states p at

-- 01, Refusals: what each refusal of a walk says, and when it is given, for every topology, table, start and schedule; all else is `WalksEnd` and
-- `WalksByHops`.
pub record WalkAnswers (t : Topology) (table : List ℕ) (u : ℕ) (schedule : List ℕ) (at : ℕ) : Type 0 where
  pub says_14 : (walking t table u schedule ≡ refused 14 at) ↔ ((at ≡ 0) × (T (sound t) → ⊥))
  pub says_15 : (walking t table u schedule ≡ refused 15 at) ↔ (T (sound t) × (t.routers ≤ u) × (at ≡ u))
  pub says_21 : (walking t table u schedule ≡ refused 21 at) ↔ (T (sound t) × (u < t.routers) × (table_checking t table ≡ answer 21 at))
  pub says_22 : (walking t table u schedule ≡ refused 22 at)
      ↔ (T (sound t) × (u < t.routers) × (table_checking t table ≡ answer 0 0) × (WholeRows t schedule → ⊥) × (at ≡ length schedule))
  pub says_23 : (walking t table u schedule ≡ refused 23 at)
      ↔ (T (sound t) × (u < t.routers) × (table_checking t table ≡ answer 0 0) × WholeRows t schedule × FirstOver schedule at)
  pub no_other : (number : ℕ) → walking t table u schedule ≡ refused number at →
      (number ≡ 14) ⊎ ((number ≡ 15) ⊎ ((number ≡ 21) ⊎ ((number ≡ 22) ⊎ (number ≡ 23))))

abbrev pub WalksAnswer : Type 0
WalksAnswer = (t : Topology) (table : List ℕ) (u : ℕ) (schedule : List ℕ) (at : ℕ) → WalkAnswers t table u schedule at

-- 01, Refusals: what a setting answers, whatever the packet held.
pub record SettingAnswers (t : Topology) (u : ℕ) : Type 0 where
  pub sets : T (sound t) → u < t.routers → setting_at t u ≡ done (record { station = u; hops = 0 })
  pub not_sound : (T (sound t) → ⊥) → setting_at t u ≡ refused 14 0
  pub no_place : T (sound t) → t.routers ≤ u → setting_at t u ≡ refused 15 u

abbrev pub SettingsAnswer : Type 0
SettingsAnswer = (t : Topology) (u : ℕ) → SettingAnswers t u

-- An answer, and the packet as it is then.
abbrev pub left : {S A : Type 0} → Said A → Packet S → Left S A
left said p = record { answer = said; packet = p }

-- 01, Packet, hop and schedule; Refusals: what a setting of a lent packet leaves, for every packet before. Its old contents are not tested, and a refusal
-- leaves it as it was.
pub record SettingLeaves (t : Topology) (u : ℕ) (p : Packet ℕ) : Type 0 where
  pub sets : T (sound t) → u < t.routers → setting_packet t u p ≡ left (done (record { station = u; hops = 0 })) (record { station = u; hops = 0 })
  pub not_sound : (T (sound t) → ⊥) → setting_packet t u p ≡ left (refused 14 0) p
  pub no_place : T (sound t) → t.routers ≤ u → setting_packet t u p ≡ left (refused 15 u) p

abbrev pub SettingsLeave : Type 0
SettingsLeave = (t : Topology) (u : ℕ) (p : Packet ℕ) → SettingLeaves t u p

-- 01, Packet, hop and schedule; Refusals: what a hop of a lent packet leaves, for every packet before. It answers what `HopsByRule`, `HopsDone` and
-- `HopsAnswer` say of a hop; a packet that was delivered, dropped or refused is as it was, and only moved changes it.
pub record HopLeaves (t : Topology) (table states : List ℕ) (p : Packet ℕ) : Type 0 where
  pub answers : (hopping_packet t table states p).answer ≡ hopping t table states p
  pub delivers : (hopping_packet t table states p ≡ left (done network.delivered) p) ↔ (hopping t table states p ≡ done network.delivered)
  pub moves : (q : Packet ℕ) → (hopping_packet t table states p ≡ left (done (network.moved q)) q) ↔ (hopping t table states p ≡ done (network.moved q))
  pub drops : (hopping_packet t table states p ≡ left (done network.dropped) p) ↔ (hopping t table states p ≡ done network.dropped)
  pub refuses : (number at : ℕ) → (hopping_packet t table states p ≡ left (refused number at) p) ↔ (hopping t table states p ≡ refused number at)
  pub only_moved : (hopping_packet t table states p).packet ≢ p → (q : Packet ℕ) × (hopping t table states p ≡ done (network.moved q))

abbrev pub HopsLeave : Type 0
HopsLeave = (t : Topology) (table states : List ℕ) (p : Packet ℕ) → HopLeaves t table states p

-- 02, #107: a station is reached or cut off, and its rank byte tells which: below N, or 255
pub record ByRank (t : Topology) (table : List ℕ) (u : ℕ) : Type 0 where
  pub either : Reached t table u ⊎ (Reached t table u → ⊥)
  pub ranked : Reached t table u ↔ (rank_byte table u < t.routers)
  pub unranked : (Reached t table u → ⊥) ↔ (rank_byte table u ≡ 255)

abbrev pub RanksTell : Type 0
RanksTell = OfAccepted (λ t table. (u : ℕ) → u < t.routers → ByRank t table u)

-- Demand 3, entire: its claims (Demand3), of every sound topology and every table accepted on it; that the figures are those that the call reports is
-- `FiguresReported`.
abbrev pub TablesMeet : Type 0
TablesMeet = OfAccepted (λ t table. Claims (router_table t table))

-- Its parts: the figures, and what is cut off.
abbrev pub FiguresExact : Type 0
FiguresExact = OfAccepted (λ t table. (u : ℕ) → u < t.routers → Reached t table u → FigureExact (router_table t table) u)

abbrev pub CutOffDrops : Type 0
CutOffDrops = OfAccepted (λ t table. (u : ℕ) → u < t.routers → (Reached t table u → ⊥) → CutOff (router_table t table) u)

-- each hop, and walks: how they end, and that they are made of single hops
abbrev pub HopsByRule : Type 0
HopsByRule =
    OfAccepted (λ t table. (states : List ℕ) (p : Packet ℕ) → PacketStands t p → SoundStates t states →
    HopByRule (router_table t table) states p)

abbrev pub WalksEnd : Type 0
WalksEnd =
    OfAccepted (λ t table. (u : ℕ) → u < t.routers → (schedule : List ℕ) → SoundSchedule t schedule →
    WalkEnds (router_table t table) u schedule)

abbrev pub WalksByHops : Type 0
WalksByHops =
    OfAccepted (λ t table. (u : ℕ) (schedule : List ℕ) (w : Walk ℕ) → walking t table u schedule ≡ done w →
    (cost : ℕ) × ByHops (router_table t table) schedule (record { station = u; hops = 0 }) w cost)

-- the one claim on lists of calls; what each call does, and in which turn they are made, whatever the table
abbrev pub CallsExact : Type 0
CallsExact = OfAccepted (λ t table. CallsBounded (router_table t table))

abbrev pub CallsByRule : Type 0
CallsByRule = (t : Topology) (table : List ℕ) (p : Packet ℕ) (last : ℕ) → CallRule (router_table t table) p last

abbrev pub CallsInTurn : Type 0
CallsInTurn = (t : Topology) (table : List ℕ) (p : Packet ℕ) (last : ℕ) → InTurn (router_table t table) p last

-- Demand 2, last clause: over a table in shortest-path mode, with all links up before every hop, the walk from every reached start is delivered at d, and
-- what its hops cost, each in the direction of travel, adds up to the distance.
abbrev pub ShortestWalk : Topology → List ℕ → ℕ → List ℕ → Type 0
ShortestWalk t table u schedule = WalkCosts (router_table t table) u schedule (distance (network_of t) (destination_byte table) u)

abbrev pub ShortestWalks : Type 0
ShortestWalks =
    OfAccepted (λ t table. Accepted (network_of t) (destination_byte table) shortest-path (order_in t.routers table) →
    (u : ℕ) → u < t.routers → Reached t table u → (schedule : List ℕ) → SoundSchedule t schedule → ((b : ℕ) → Memᴰ b schedule → b ≡ 1) →
    ShortestWalk t table u schedule)
