-- What is proved of tables as bytes: what filling writes, which tables are accepted, what each answer means, and what an accepted table lists.
-- Assumes nothing.
use Rattle.std.specs.Prelude.{ℕ, ◌+◌, ◌*◌, ◌/◌, ◌%◌, ◌≤◌, ◌<◌, ◌↔◌, ◌≢◌, ◌≡◌, T, length, get_or, take, drop}
use mathlib.Core.List.{List, Memᴰ, [], ◌∷◌, map}
use Rattle.network.specs.Network.{Arc, Network, size}
use Rattle.network.specs.Distance.{PathTo, distances}
use Rattle.network.specs.Order.{shortest-path, free, build}
use Rattle.network.specs.Row.{rank, row}
use Rattle.network.specs.Routing.{routers}
use Rattle.network.specs.Theorems.Order.{Accepted}
use Rattle.network.specs.Theorems.Routing.{FallingRows, SomeEntry, ShortestEntry, OfTables}
use Rattle.topology_types.specs.declared.Topology.{Topology}
use Rattle.topology_types.specs.Outcome.{answer, turned_away}
use Rattle.topology_types.specs.Topology.{network_of}
use Rattle.topology_sound.specs.Sound.{sound}
use Rattle.order_standings.specs.declared.Mode.{Mode}
use Rattle.order_standings.specs.declared.Mode.TheVariants as mode
use Rattle.order.specs.Calls.{mode_of, checking}
use Rattle.order.specs.Theorems.{up_to_n}
use Rattle.table_rows.specs.Layout.{narrow, table_length, number_at, spread}
use Rattle.table_rows.specs.Bytes.{table_bytes}
use Rattle.table.specs.Listed.{layout_of, kind_in, destination_in_lem, count_in_lem, limit_in_lem, rank_in_lem, entry_count, places_in}
use Rattle.table.specs.Listed.{falling_rank, entries_in, listed, forwarding_by, by_rank, order_in, in_shortest_path_mode}
use Rattle.table.specs.Calls.{filling, table_checking, built_table}

-- 01, Rows and tables: what is read of a table, byte by byte. A header has 4 bytes, kind, destination, router count and K; a row has 19, kind, rank, count and
-- 16 places; so a table for N routers has 4 + 19N.
pub record FieldsAre (table : List ℕ) : Type 0 where
  pub layout : layout_of table ≡ record { kind = 16; rows = 17; place = 1; rank = 1 }
  pub kind : kind_in table ≡ get_or table 0 0
  pub destination : destination_in_lem table ≡ get_or table 1 0
  pub count : count_in_lem table ≡ get_or table 2 0
  pub limit_is : limit_in_lem table ≡ get_or table 3 0
  pub rank_is : (u : ℕ) → rank_in_lem table u ≡ get_or table (4 + 19 * u + 1) 0
  pub count_is : (u : ℕ) → entry_count table u ≡ get_or table (4 + 19 * u + 2) 0
  pub entries : (u : ℕ) → length (places_in table u) ≡ get_or table (4 + 19 * u + 2) 0
  pub entry : (u j : ℕ) → j < length (places_in table u) → get_or (places_in table u) j 0 ≡ get_or table (4 + 19 * u + 3 + j) 0
  pub long : (routers : ℕ) → table_length (layout_of table) routers ≡ 4 + 19 * routers

abbrev pub FieldsRead : Type 0
FieldsRead = (table : List ℕ) → FieldsAre table

-- 01, Rows and tables: of a table in this layout 4 + 19N bytes, whatever they are
abbrev pub LengthRight : Type 0
LengthRight = (routers : ℕ) → table_length narrow routers ≡ 4 + 19 * routers

-- 01, Topology stream: numbers are big-endian, in one byte or two
pub record NumberAt (bytes : List ℕ) (at n : ℕ) : Type 0 where
  pub one : number_at 1 bytes at ≡ get_or bytes at 0
  pub two : number_at 2 bytes at ≡ get_or bytes at 0 * 256 + get_or bytes (at + 1) 0
  pub put_one : spread 1 n ≡ n ∷ []
  pub put_two : spread 2 n ≡ n / 256 ∷ n % 256 ∷ []

abbrev pub NumbersRight : Type 0
NumbersRight = (bytes : List ℕ) (at n : ℕ) → NumberAt bytes at n

-- 02, #107: the rank byte of the place u: its rank in the order, which holds the reached routers, and 255 where the order does not hold it
pub record RankAt (order : List ℕ) (u byte : ℕ) : Type 0 where
  pub reached : Memᴰ u order → byte ≡ rank order u
  pub unreached : (Memᴰ u order → ⊥) → byte ≡ 255

-- 01, Rows and tables: the row of the place u, byte by byte: kind 17, its rank, its count, 16 bytes of places, unused ones 255
pub record RowAt (n : Network) (d limit : ℕ) (order table : List ℕ) (u : ℕ) : Type 0 where
  pub kind : get_or table (4 + 19 * u) 0 ≡ 17
  pub rank_is : RankAt order u (get_or table (4 + 19 * u + 1) 0)
  pub count : get_or table (4 + 19 * u + 2) 0 ≡ length (row n (distances n d) limit order u)
  pub entry : (j : ℕ) → j < length (row n (distances n d) limit order u) →
      get_or table (4 + 19 * u + 3 + j) 0 ≡ get_or (map (λ (a : Arc). a.to) (row n (distances n d) limit order u)) j 0
  pub padding : (j : ℕ) → length (row n (distances n d) limit order u) ≤ j → j < 16 → get_or table (4 + 19 * u + 3 + j) 0 ≡ 255

-- 01, Rows and tables: a table byte by byte: kind 16, destination, router count, K, then per place one row; 4 + 19N bytes
pub record TableIs (n : Network) (d limit : ℕ) (order table : List ℕ) : Type 0 where
  pub long : length table ≡ 4 + 19 * size n
  pub kind : get_or table 0 0 ≡ 16
  pub destination : get_or table 1 0 ≡ d
  pub count : get_or table 2 0 ≡ size n
  pub limit_is : get_or table 3 0 ≡ limit
  pub rows : (u : ℕ) → u < size n → RowAt n d limit order table u

-- The bytes of a table are these, and no other bytes are.
abbrev pub BytesExact : Type 0
BytesExact = (n : Network) (d limit : ℕ) → limit ≤ 16 → (order table : List ℕ) → (table ≡ table_bytes n d limit order) ↔ TableIs n d limit order table

-- A destination, a K from 1 to 16 and an order accepted in free mode give exactly these bytes.
pub record GivenBy (t : Topology) (table : List ℕ) (d limit : ℕ) (order : List ℕ) : Type 0 where
  pub place : d < t.routers
  pub limit_least : 1 ≤ limit
  pub limit_most : limit ≤ 16
  pub in_free : Accepted (network_of t) d free order
  pub bytes : TableIs (network_of t) d limit order table

-- Filling for an order accepted in free mode, and then 255 up to N, succeeds at 4 + 19N where there is room. Its first bytes are then the table for the
-- order and the topology's K, which checking accepts; the rest stays.
pub record FilledWell (t : Topology) (d : ℕ) (order buffer : List ℕ) : Type 0 where
  pub success : (filling t d (up_to_n t order) buffer).answer ≡ answer 0 (4 + 19 * t.routers)
  pub given : GivenBy t (take (4 + 19 * t.routers) (filling t d (up_to_n t order) buffer).buffer) d t.limit order
  pub rest : drop (4 + 19 * t.routers) (filling t d (up_to_n t order) buffer).buffer ≡ drop (4 + 19 * t.routers) buffer
  pub long : length (filling t d (up_to_n t order) buffer).buffer ≡ length buffer
  pub accepted : table_checking t (take (4 + 19 * t.routers) (filling t d (up_to_n t order) buffer).buffer) ≡ answer 0 0

abbrev pub FillsWell : Type 0
FillsWell =
    (t : Topology) → T (sound t) → (d : ℕ) → d < t.routers → (order : List ℕ) → Accepted (network_of t) d free order →
    (buffer : List ℕ) → 4 + 19 * t.routers ≤ length buffer → FilledWell t d order buffer

-- The table for the order that is built in a mode is one that this order and the topology's K give.
abbrev pub BuiltGiven : Type 0
BuiltGiven =
    (t : Topology) → T (sound t) → (d : ℕ) → d < t.routers → (m : Mode) →
    GivenBy t (built_table t d (mode_of m)) d t.limit (build (network_of t) d (mode_of m))

-- 01, Refusals, 14, 15, 17 to 20 and 24: what filling refuses, where it points, and that it leaves the buffer as it was. All but 24 are those of
-- checking the order in free mode, which `order` spells out (`ChecksEach`); all else is `FillsWell`.
pub record FillRefused (t : Topology) (d : ℕ) (order buffer : List ℕ) : Type 0 where
  pub not_accepted : (number at : ℕ) → number ≢ 0 → checking t d mode.Free order ≡ answer number at →
      filling t d order buffer ≡ turned_away number at buffer
  pub no_room : checking t d mode.Free order ≡ answer 0 0 → length buffer < 4 + 19 * t.routers →
      filling t d order buffer ≡ turned_away 24 (4 + 19 * t.routers) buffer

abbrev pub FillRefuses : Type 0
FillRefuses = (t : Topology) (d : ℕ) (order buffer : List ℕ) → FillRefused t d order buffer

abbrev pub SomeGive : Topology → List ℕ → Type 0
SomeGive t table = (d : ℕ) × (limit : ℕ) × (order : List ℕ) × GivenBy t table d limit order

-- 01, Rows and tables: a table is accepted if and only if some order and K give it; that order and K are the only ones.
abbrev pub TablesExact : Type 0
TablesExact = (t : Topology) → T (sound t) → (table : List ℕ) → (table_checking t table ≡ answer 0 0) ↔ SomeGive t table

abbrev pub OnlyOneGives : Type 0
OnlyOneGives =
    (t : Topology) → T (sound t) → (table : List ℕ) (d limit : ℕ) (order : List ℕ) → GivenBy t table d limit order →
    (d' limit' : ℕ) (order' : List ℕ) → GivenBy t table d' limit' order' → (d ≡ d') × (limit ≡ limit') × (order ≡ order')

-- the topology with next-hop limit k, all else the same
abbrev pub limit_set_to : Topology → ℕ → Topology
limit_set_to t k = record { routers = t.routers; links = t.links; limit = k; id = t.id; link = t.link }

-- 01, Rows and tables: the bytes that are accepted are what filling would give for that order and the header's K, on the topology with that K.
abbrev pub GivenIsFilled : Type 0
GivenIsFilled =
    (t : Topology) → T (sound t) → (table : List ℕ) (d limit : ℕ) (order : List ℕ) → GivenBy t table d limit order →
    (buffer : List ℕ) → length buffer ≡ length table →
    filling (limit_set_to t limit) d (up_to_n t order) buffer ≡ record { answer = answer 0 (length table); buffer = table }

-- 01, Refusals, 21: the header is sound, and the ranks are those of an order accepted in free mode
pub record SoundStart (t : Topology) (table order : List ℕ) : Type 0 where
  pub kind : get_or table 0 0 ≡ 16
  pub destination : get_or table 1 0 < t.routers
  pub count : get_or table 2 0 ≡ t.routers
  pub limit_least : 1 ≤ get_or table 3 0
  pub limit_most : get_or table 3 0 ≤ 16
  pub in_free : Accepted (network_of t) (get_or table 1 0) free order
  pub ranks : (u : ℕ) → u < t.routers → RankAt order u (get_or table (4 + 19 * u + 1) 0)

-- 01, Rows and tables: the order that the ranks form is that one, also where other bytes are wrong, and the table's mode is by it.
abbrev pub RanksOrdered : Type 0
RanksOrdered =
    (t : Topology) → T (sound t) → (table order : List ℕ) → SoundStart t table order → (order_in t.routers table ≡ order)
    × (T (in_shortest_path_mode (network_of t) table) ↔ Accepted (network_of t) (get_or table 1 0) shortest-path order)

-- 01, Order: an order is one byte per rank, the place. 02, #107: it holds the reached routers, then 255 up to N. The ranks of a table form these bytes of
-- that order, also where other bytes are wrong.
abbrev pub RanksInBytes : Type 0
RanksInBytes =
    (t : Topology) → T (sound t) → (table order : List ℕ) → SoundStart t table order → by_rank t.routers table ≡ up_to_n t order

-- 01, Refusals, 21: the byte at the offset is not what filling would give for the order and the header's K, and every earlier byte is
pub record FirstWrong (t : Topology) (table order : List ℕ) (at : ℕ) : Type 0 where
  pub within : at < length table
  pub wrong : get_or table at 0 ≢ get_or (table_bytes (network_of t) (get_or table 1 0) (get_or table 3 0) order) at 0
  pub earlier : (i : ℕ) → i < at → get_or table i 0 ≡ get_or (table_bytes (network_of t) (get_or table 1 0) (get_or table 3 0) order) i 0

-- 01, Refusals, 21: where it points
pub data WrongTableAt (t : Topology) (table : List ℕ) (at : ℕ) : Type 0 where
  by_length : length table ≢ 4 + 19 * t.routers → at ≡ length table → WrongTableAt t table at
  by_start : length table ≡ 4 + 19 * t.routers → ((order : List ℕ) → SoundStart t table order → ⊥) → at ≡ 0 → WrongTableAt t table at
  by_byte : length table ≡ 4 + 19 * t.routers → (order : List ℕ) → SoundStart t table order → FirstWrong t table order at → WrongTableAt t table at

-- 01, Refusals: what each answer of checking a table says, and when it is given.
pub record TableChecked (t : Topology) (table : List ℕ) (at : ℕ) : Type 0 where
  pub says_14 : (table_checking t table ≡ answer 14 at) ↔ ((at ≡ 0) × (T (sound t) → ⊥))
  pub says_21 : (table_checking t table ≡ answer 21 at) ↔ (T (sound t) × WrongTableAt t table at)
  pub says_0 : (table_checking t table ≡ answer 0 at) ↔ ((at ≡ 0) × T (sound t) × SomeGive t table)

abbrev pub TablesEach : Type 0
TablesEach = (t : Topology) (table : List ℕ) (at : ℕ) → TableChecked t table at

-- An accepted table lists `network`'s ranks, 255 where the order does not hold the router, and rows for its order and K, place by place, so that routers
-- that forward by it are `network`'s. The places are those below N; past them it lists no entries, and `network` has no row. 01, Rows and tables: it is in
-- shortest-path mode if and only if its order is accepted in that mode.
pub record ListsRows (t : Topology) (table : List ℕ) (d limit : ℕ) (order : List ℕ) : Type 1 where
  pub destination : (listed (network_of t) table).destination ≡ d
  pub ranks : (u : ℕ) → u < t.routers → RankAt order u ((listed (network_of t) table).rank u)
  pub entries : (u : ℕ) → (listed (network_of t) table).entries u ≡ row (network_of t) (distances (network_of t) d) limit order u
  pub forwards : forwarding_by (listed (network_of t) table) ≡ routers (network_of t) d limit order
  pub ordered : order_in t.routers table ≡ order
  pub mode_is : T (in_shortest_path_mode (network_of t) table) ↔ Accepted (network_of t) d shortest-path order

abbrev pub TablesList : Type 1
TablesList =
    (t : Topology) → T (sound t) → (table : List ℕ) (d limit : ℕ) (order : List ℕ) → GivenBy t table d limit order → ListsRows t table d limit order

-- 02, #107: in an accepted table a router with no path to the destination has rank byte 255, count 0 and 16 bytes of 255. The rank byte of one with a path
-- is its rank in the order, below how many routers that holds.
pub record UnreachedRow (table : List ℕ) (u : ℕ) : Type 0 where
  pub no_rank : get_or table (4 + 19 * u + 1) 0 ≡ 255
  pub no_entries : get_or table (4 + 19 * u + 2) 0 ≡ 0
  pub all_none : (j : ℕ) → j < 16 → get_or table (4 + 19 * u + 3 + j) 0 ≡ 255

pub record ByPath (t : Topology) (table : List ℕ) (d : ℕ) (order : List ℕ) (u : ℕ) : Type 0 where
  pub unreached : (PathTo (network_of t) d u → ⊥) → UnreachedRow table u
  pub reached : PathTo (network_of t) d u → (get_or table (4 + 19 * u + 1) 0 ≡ rank order u) × (rank order u < length order)

abbrev pub RowsByPath : Type 0
RowsByPath =
    (t : Topology) → T (sound t) → (table : List ℕ) (d limit : ℕ) (order : List ℕ) → GivenBy t table d limit order →
    (u : ℕ) → u < t.routers → ByPath t table d order u

-- From the answer: the destination and K that give an accepted table are the header's, K from 1 to 16, and the order is the one that the ranks form.
abbrev pub AcceptedGiven : Type 0
AcceptedGiven =
    (t : Topology) → T (sound t) → (table : List ℕ) → table_checking t table ≡ answer 0 0 →
    GivenBy t table (get_or table 1 0) (get_or table 3 0) (order_in t.routers table)

abbrev pub AcceptedList : Type 1
AcceptedList =
    (t : Topology) → T (sound t) → (table : List ℕ) → table_checking t table ≡ answer 0 0 →
    ListsRows t table (get_or table 1 0) (get_or table 3 0) (order_in t.routers table)

-- So every theorem of `network` on rows and forwarding holds of an accepted table. One on shortest-path mode is a claim that
-- begins with that mode, and with K of at least 1, which `AcceptedGiven` has.
abbrev pub TablesCarry : Type 1
TablesCarry =
    (claim : Network → ℕ → ℕ → List ℕ → Type 0) → OfTables claim →
    (t : Topology) → T (sound t) → (table : List ℕ) → table_checking t table ≡ answer 0 0 →
    claim (network_of t) (get_or table 1 0) (get_or table 3 0) (order_in t.routers table)

-- What an accepted table lists are rows along whose entries ranks fall, so that every theorem of `network` on such rows holds of it.
-- Every router with a path but the destination has an entry, in shortest-path mode a shortest next hop first. The rank of a router with a path is its
-- row's.
pub record TableFalls (t : Topology) (table : List ℕ) : Type 0 where
  pub falling : FallingRows (network_of t) (destination_in_lem table) (entries_in (network_of t) table) (falling_rank t.routers table)
  pub some_entry : SomeEntry (network_of t) (destination_in_lem table) (entries_in (network_of t) table)
  pub shortest : T (in_shortest_path_mode (network_of t) table) → ShortestEntry (network_of t) (destination_in_lem table) (entries_in (network_of t) table)
  pub rank_is : (u : ℕ) → PathTo (network_of t) (destination_in_lem table) u → falling_rank t.routers table u ≡ get_or table (4 + 19 * u + 1) 0

abbrev pub AcceptedFall : Type 0
AcceptedFall = (t : Topology) → T (sound t) → (table : List ℕ) → table_checking t table ≡ answer 0 0 → TableFalls t table
