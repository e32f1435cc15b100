-- Tables by hand, and the examples of 01, Refusals and where they point, for filling and checking tables, as lists: the call and what it answers; and
-- the order and the mode of a table. A new fact is one line.
-- Assumes nothing.
use Rattle.std.specs.Prelude.{ℕ, Bool, true, false, ◌&&◌, List, [], ◌∷◌, ◌++◌, T, replicate, set, take}
use Rattle.std.specs.Bool.{beq}
use Rattle.network.specs.Lists.{every, same_numbers}
use Rattle.topology_types.specs.declared.Topology.{Topology}
use Rattle.topology_types.specs.Topology.{held, zeros, network_of}
use Rattle.order.specs.Facts.{answers, link, two_costs, T-topology, cut_off, two_parts}
use Rattle.table.specs.Listed.{by_rank, order_in, in_shortest_path_mode}
use Rattle.table.specs.Calls.{filling, table_checking}

pub data Fact : Type 0 where
  -- filling for a destination and an order into a buffer answers a number, at, and leaves these bytes
  fills : Topology → ℕ → List ℕ → List ℕ → ℕ → ℕ → List ℕ → Fact
  -- checking a table answers a number, at
  checks : Topology → List ℕ → ℕ → ℕ → Fact
  -- the ranks of a table for so many routers form this order
  orders : ℕ → List ℕ → List ℕ → Fact
  -- the same as bytes, 255 at the ranks that no place has
  by-rank : ℕ → List ℕ → List ℕ → Fact
  -- whether a table is in shortest-path mode
  in_mode : Topology → List ℕ → Bool → Fact

unfoldable pub holds : Fact → Bool
holds (fills t d order buffer number at bytes) =
    answers (filling t d order buffer).answer number at && same_numbers (filling t d order buffer).buffer bytes
holds (checks t table number at) = answers (table_checking t table) number at
holds (orders count table order) = same_numbers (order_in count table) order
holds (by-rank count table bytes) = same_numbers (by_rank count table) bytes
holds (in_mode t table shortest) = beq (in_shortest_path_mode (network_of t) table) shortest

-- one router, no links
unfoldable pub lone : Topology
lone = held (record { ids = 7 ∷ []; links = []; limit = 3 })

-- 01, Two networks by hand: F's links, with IDs and a next-hop limit. F has the IDs 1 to 6; with 6 to 1 they fall as the place rises.
unfoldable pub F-links : List ℕ → ℕ → Topology
F-links ids limit =
    held (record {
      ids = ids;
      links = link 0 1 1 ∷ link 0 2 1 ∷ link 1 2 1 ∷ link 1 3 1 ∷ link 2 4 1 ∷ link 3 4 1 ∷ link 3 5 1 ∷ link 4 5 1 ∷ [];
      limit = limit;
    })

unfoldable pub F-topology : ℕ → Topology
F-topology limit = F-links (1 ∷ 2 ∷ 3 ∷ 4 ∷ 5 ∷ 6 ∷ []) limit

unfoldable pub F-falling : Topology
F-falling = F-links (6 ∷ 5 ∷ 4 ∷ 3 ∷ 2 ∷ 1 ∷ []) 16

-- 02, #105: three routers whose rows go by the direction of travel. For destination 0 the distances are 0, 1 and 2 + 1, so that place 2 lists place 1, at
-- 3, before place 0, at 4; for destination 2 they are 1, 1 + 1 and 0, so that place 1 lists place 0, at 2, before place 2, at 4. By the costs of the other
-- direction, or by one cost both ways, both rows turn round.
unfoldable pub slope : Topology
slope = held (record { ids = 1 ∷ 2 ∷ 3 ∷ []; links = two_costs 0 1 9 1 ∷ two_costs 0 2 1 4 ∷ two_costs 2 1 2 4 ∷ []; limit = 3 })

-- rows of no entry, one and two, behind each other: kind 17, rank, count, places, unused ones 255
unfoldable pub none : ℕ → List ℕ → List ℕ
none rank rest = 17 ∷ rank ∷ 0 ∷ (replicate 16 255 ++ rest)

unfoldable pub one : ℕ → ℕ → List ℕ → List ℕ
one rank v rest = 17 ∷ rank ∷ 1 ∷ v ∷ (replicate 15 255 ++ rest)

unfoldable pub two : ℕ → ℕ → ℕ → List ℕ → List ℕ
two rank v w rest = 17 ∷ rank ∷ 2 ∷ v ∷ w ∷ (replicate 14 255 ++ rest)

-- the table of the one router
unfoldable pub lone_table : List ℕ
lone_table = 16 ∷ 0 ∷ 1 ∷ 3 ∷ none 0 []

-- 01, Two networks by hand: T's tables by its listing, destination, router count and K in the header, then a line a row
unfoldable pub T-table-0 : List ℕ
T-table-0 = 16 ∷ 0 ∷ 3 ∷ 3 ∷ none 0 (one 1 0 (two 2 1 0 []))

unfoldable pub T-table-1 : List ℕ
T-table-1 = 16 ∷ 1 ∷ 3 ∷ 3 ∷ two 2 1 2 (none 0 (one 1 1 []))

unfoldable pub T-table-2 : List ℕ
T-table-2 = 16 ∷ 2 ∷ 3 ∷ 3 ∷ two 2 1 2 (one 1 2 (none 0 []))

-- T, d = 0, in free mode: order 0 2 1, the row of place 1 being 0 2
unfoldable pub T-table-free : List ℕ
T-table-free = 16 ∷ 0 ∷ 3 ∷ 3 ∷ none 0 (two 2 0 2 (one 1 0 []))

-- `slope`'s tables, and the first with the row of place 2 turned round
unfoldable pub slope_table_0 : List ℕ
slope_table_0 = 16 ∷ 0 ∷ 3 ∷ 3 ∷ none 0 (one 1 0 (two 2 1 0 []))

unfoldable pub slope_table_2 : List ℕ
slope_table_2 = 16 ∷ 2 ∷ 3 ∷ 3 ∷ one 1 2 (two 2 0 2 (none 0 []))

unfoldable pub slope_turned : List ℕ
slope_turned = 16 ∷ 0 ∷ 3 ∷ 3 ∷ none 0 (one 1 0 (two 2 0 1 []))

-- 02, #107: tables where routers have no path to the destination. In `cut_off`, for destination 0, T's rows and one with no rank, in either mode; for
-- destination 3 only that router has a rank. In `two_parts`, for destinations 0 and 2, the one pair or the other has ranks.
unfoldable pub cut_table_0 : List ℕ
cut_table_0 = 16 ∷ 0 ∷ 4 ∷ 3 ∷ none 0 (one 1 0 (two 2 1 0 (none 255 [])))

unfoldable pub cut_table_free : List ℕ
cut_table_free = 16 ∷ 0 ∷ 4 ∷ 3 ∷ none 0 (two 2 0 2 (one 1 0 (none 255 [])))

unfoldable pub cut_table_3 : List ℕ
cut_table_3 = 16 ∷ 3 ∷ 4 ∷ 3 ∷ none 255 (none 255 (none 255 (none 0 [])))

unfoldable pub parts_table_0 : List ℕ
parts_table_0 = 16 ∷ 0 ∷ 4 ∷ 3 ∷ none 0 (one 1 0 (none 255 (none 255 [])))

unfoldable pub parts_table_2 : List ℕ
parts_table_2 = 16 ∷ 2 ∷ 4 ∷ 3 ∷ none 255 (none 255 (none 0 (one 1 2 [])))

-- 01, Two networks by hand: F's rows for d = 0, with K = 16 and with K = 1
unfoldable pub F-table : List ℕ
F-table = 16 ∷ 0 ∷ 6 ∷ 16 ∷ none 0 (two 2 0 2 (one 1 0 (two 4 1 4 (one 3 2 (two 5 4 3 [])))))

unfoldable pub F-table-1 : List ℕ
F-table-1 = 16 ∷ 0 ∷ 6 ∷ 1 ∷ none 0 (one 2 0 (one 1 0 (one 4 1 (one 3 2 (one 5 4 [])))))

-- with IDs 6 to 1: in the row of place 5 the places 3 and 4 tie, at cost and distance 3, and place 3 has the higher ID; no other row has a tie
unfoldable pub F-table-falling : List ℕ
F-table-falling = 16 ∷ 0 ∷ 6 ∷ 16 ∷ none 0 (two 2 0 2 (one 1 0 (two 4 1 4 (one 3 2 (two 5 3 4 [])))))

-- a buffer of so many bytes
unfoldable pub room : ℕ → List ℕ
room bytes = replicate bytes 170

unfoldable pub filled : List Fact
filled =
    fills T-topology 0 (0 ∷ 1 ∷ 2 ∷ []) (room 61) 0 61 T-table-0
    ∷ fills T-topology 1 (1 ∷ 2 ∷ 0 ∷ []) (room 61) 0 61 T-table-1
    ∷ fills T-topology 2 (2 ∷ 1 ∷ 0 ∷ []) (room 62) 0 61 (T-table-2 ++ (170 ∷ []))
    ∷ fills T-topology 0 (0 ∷ 2 ∷ 1 ∷ []) (room 61) 0 61 T-table-free
    ∷ fills (F-topology 16) 0 (0 ∷ 2 ∷ 1 ∷ 4 ∷ 3 ∷ 5 ∷ []) (room 118) 0 118 F-table
    ∷ fills (F-topology 1) 0 (0 ∷ 2 ∷ 1 ∷ 4 ∷ 3 ∷ 5 ∷ []) (room 118) 0 118 F-table-1
    ∷ fills F-falling 0 (0 ∷ 2 ∷ 1 ∷ 4 ∷ 3 ∷ 5 ∷ []) (room 118) 0 118 F-table-falling
    ∷ fills lone 0 (0 ∷ []) (room 23) 0 23 lone_table
    ∷ fills slope 0 (0 ∷ 1 ∷ 2 ∷ []) (room 61) 0 61 slope_table_0
    ∷ fills slope 2 (2 ∷ 0 ∷ 1 ∷ []) (room 61) 0 61 slope_table_2
    ∷ fills T-topology 0 (0 ∷ 1 ∷ 2 ∷ []) (room 60) 24 61 (room 60)
    ∷ fills T-topology 0 (0 ∷ 1 ∷ 2 ∷ []) [] 24 61 []
    ∷ fills zeros 0 [] (room 4) 14 0 (room 4)
    ∷ fills T-topology 3 (0 ∷ 1 ∷ 2 ∷ []) (room 61) 15 3 (room 61)
    ∷ fills T-topology 0 (0 ∷ 1 ∷ []) (room 61) 17 2 (room 61)
    ∷ fills T-topology 0 (0 ∷ 1 ∷ 1 ∷ []) (room 61) 18 2 (room 61)
    ∷ fills T-topology 0 (1 ∷ 0 ∷ 2 ∷ []) (room 61) 19 0 (room 61)
    ∷ fills (F-topology 16) 0 (0 ∷ 5 ∷ 1 ∷ 2 ∷ 3 ∷ 4 ∷ []) [] 20 1 []
    ∷ fills cut_off 0 (0 ∷ 1 ∷ 2 ∷ 255 ∷ []) (room 80) 0 80 cut_table_0
    ∷ fills cut_off 0 (0 ∷ 2 ∷ 1 ∷ 255 ∷ []) (room 80) 0 80 cut_table_free
    ∷ fills cut_off 3 (3 ∷ 255 ∷ 255 ∷ 255 ∷ []) (room 81) 0 80 (cut_table_3 ++ (170 ∷ []))
    ∷ fills two_parts 0 (0 ∷ 1 ∷ 255 ∷ 255 ∷ []) (room 80) 0 80 parts_table_0
    ∷ fills two_parts 2 (2 ∷ 3 ∷ 255 ∷ 255 ∷ []) (room 80) 0 80 parts_table_2
    ∷ fills cut_off 0 (0 ∷ 1 ∷ 2 ∷ 255 ∷ []) (room 79) 24 80 (room 79)
    ∷ fills cut_off 0 (0 ∷ 1 ∷ 2 ∷ []) (room 80) 17 3 (room 80)
    ∷ fills cut_off 0 (0 ∷ 1 ∷ 2 ∷ 3 ∷ []) (room 80) 18 3 (room 80)
    ∷ fills cut_off 0 (0 ∷ 1 ∷ 255 ∷ 2 ∷ []) (room 80) 18 2 (room 80)
    ∷ fills cut_off 3 (0 ∷ 255 ∷ 255 ∷ 255 ∷ []) (room 80) 19 0 (room 80)
    ∷ fills cut_off 0 (0 ∷ 1 ∷ 3 ∷ 255 ∷ []) (room 80) 20 2 (room 80)
    ∷ []

-- Tables that are accepted, whatever the topology's K; then 14, and 21 by its length, by the header and the ranks, and by a byte of each kind. Then the same
-- where routers have no path (02, #107): a rank for such a router, one past N, one that another has; none for a reached router, or one too high; and a byte
-- of each kind in a row without a rank.
unfoldable pub checked : List Fact
checked =
    checks T-topology T-table-0 0 0
    ∷ checks T-topology T-table-1 0 0
    ∷ checks T-topology T-table-2 0 0
    ∷ checks T-topology T-table-free 0 0
    ∷ checks (F-topology 16) F-table 0 0
    ∷ checks (F-topology 1) F-table 0 0
    ∷ checks (F-topology 16) F-table-1 0 0
    ∷ checks F-falling F-table-falling 0 0
    ∷ checks lone lone_table 0 0
    ∷ checks slope slope_table_0 0 0
    ∷ checks slope slope_table_2 0 0
    ∷ checks slope slope_turned 21 45
    ∷ checks zeros T-table-0 14 0
    ∷ checks T-topology (take 60 T-table-0) 21 60
    ∷ checks T-topology (T-table-0 ++ (255 ∷ [])) 21 62
    ∷ checks T-topology [] 21 0
    ∷ checks (F-topology 16) T-table-0 21 61
    ∷ checks lone (set lone_table 1 1) 21 0
    ∷ checks F-falling F-table 21 102
    ∷ checks T-topology (set T-table-0 0 17) 21 0
    ∷ checks T-topology (set T-table-0 1 3) 21 0
    ∷ checks T-topology (set T-table-0 1 1) 21 0
    ∷ checks T-topology (set T-table-0 2 4) 21 0
    ∷ checks T-topology (set T-table-0 3 0) 21 0
    ∷ checks T-topology (set T-table-0 3 17) 21 0
    ∷ checks T-topology (set T-table-0 3 1) 21 44
    ∷ checks T-topology (set T-table-0 24 2) 21 0
    ∷ checks T-topology (set T-table-0 24 3) 21 0
    ∷ checks T-topology (set (set T-table-0 24 2) 43 1) 21 25
    ∷ checks T-topology (set T-table-0 23 16) 21 23
    ∷ checks T-topology (set T-table-0 44 1) 21 44
    ∷ checks T-topology (set T-table-0 45 0) 21 45
    ∷ checks T-topology (set T-table-0 60 0) 21 60
    ∷ checks T-topology (set T-table-0 7 0) 21 7
    ∷ checks T-topology (set (set T-table-0 60 0) 44 1) 21 44
    ∷ checks cut_off cut_table_0 0 0
    ∷ checks cut_off cut_table_free 0 0
    ∷ checks cut_off cut_table_3 0 0
    ∷ checks two_parts parts_table_0 0 0
    ∷ checks two_parts parts_table_2 0 0
    ∷ checks cut_off (set cut_table_0 62 3) 21 0
    ∷ checks cut_off (set cut_table_0 62 200) 21 0
    ∷ checks cut_off (set cut_table_0 62 2) 21 0
    ∷ checks cut_off (set cut_table_0 43 255) 21 0
    ∷ checks cut_off (set cut_table_0 43 3) 21 0
    ∷ checks cut_off (set (set cut_table_0 43 255) 62 2) 21 0
    ∷ checks two_parts (set parts_table_2 5 1) 21 0
    ∷ checks two_parts cut_table_0 21 0
    ∷ checks cut_off parts_table_0 21 0
    ∷ checks T-topology (set T-table-0 43 255) 21 0
    ∷ checks cut_off (set cut_table_0 61 16) 21 61
    ∷ checks cut_off (set cut_table_0 63 1) 21 63
    ∷ checks cut_off (set cut_table_0 64 0) 21 64
    ∷ checks cut_off (set cut_table_0 79 0) 21 79
    ∷ checks cut_off (set cut_table_3 6 1) 21 6
    ∷ []

-- The order that a table's ranks form, and its mode.
unfoldable pub formed : List Fact
formed =
    orders 3 T-table-0 (0 ∷ 1 ∷ 2 ∷ [])
    ∷ orders 3 T-table-free (0 ∷ 2 ∷ 1 ∷ [])
    ∷ orders 6 F-table (0 ∷ 2 ∷ 1 ∷ 4 ∷ 3 ∷ 5 ∷ [])
    ∷ in_mode T-topology T-table-0 true
    ∷ in_mode T-topology T-table-free false
    ∷ in_mode slope slope_table_0 true
    ∷ in_mode slope slope_table_2 true
    ∷ orders 4 cut_table_0 (0 ∷ 1 ∷ 2 ∷ [])
    ∷ orders 4 cut_table_free (0 ∷ 2 ∷ 1 ∷ [])
    ∷ orders 4 cut_table_3 (3 ∷ [])
    ∷ orders 4 parts_table_2 (2 ∷ 3 ∷ [])
    ∷ by-rank 4 cut_table_0 (0 ∷ 1 ∷ 2 ∷ 255 ∷ [])
    ∷ by-rank 4 cut_table_3 (3 ∷ 255 ∷ 255 ∷ 255 ∷ [])
    ∷ in_mode cut_off cut_table_0 true
    ∷ in_mode cut_off cut_table_free false
    ∷ in_mode two_parts parts_table_2 true
    ∷ []

-- The three statements: every fact of the lists holds, by computing it.
abbrev pub FilledHold : Type 0
FilledHold = T (every holds filled)

abbrev pub CheckedHold : Type 0
CheckedHold = T (every holds checked)

abbrev pub FormedHold : Type 0
FormedHold = T (every holds formed)
