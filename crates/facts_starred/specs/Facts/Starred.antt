-- The starred facts of 01, Two networks by hand, as one list. A new fact is one line.
-- Assumes nothing.
use Rattle.std.specs.Prelude.{ℕ, List, [], ◌∷◌, ◌≡◌, T, replicate}
use Rattle.network.specs.Lists.{every}
use Rattle.network.specs.Network.{Network, Link, WellFormed, linked}
use Rattle.network.specs.Order.{Mode, shortest-path, free}
use Rattle.topology_types.specs.Topology.{network_of}
use Rattle.stream_rules.specs.Reading.{reading}
use Rattle.stream_rules.specs.Facts.{T-stream}
use Rattle.topology.specs.Written.{joined_over}
use Rattle.order_standings.specs.declared.Mode as call
use Rattle.order_standings.specs.declared.Mode.TheVariants.{ShortestPath, Free}
use Rattle.facts_starred.specs.Facts.Fact.{Fact, Claim, order_is, row_is, greatest_are, paths_are, walk_costs, calls_leave, set, hop, up_but, holds}
use Rattle.facts_starred.specs.Facts.Chain.{Chain, Expected, builds, lists, counts, walks, delivered, dropped, follows}

unfoldable pub link : ℕ → ℕ → ℕ → Link
link u v c = record { first = u; second = v; cost = c; back = c }

-- 02, #105: a link with a cost for each direction
unfoldable pub two_costs : ℕ → ℕ → ℕ → ℕ → Link
two_costs u v c b = record { first = u; second = v; cost = c; back = b }

-- 01: T has IDs 1, 2, 3; links 0-1 cost 1, 1-2 cost 1, 0-2 cost 3
unfoldable pub T-network : Network
T-network = linked (1 ∷ 2 ∷ 3 ∷ []) (link 0 1 1 ∷ link 1 2 1 ∷ link 0 2 3 ∷ [])

-- 01: F has IDs 1 to 6, links numbered 0-1, 0-2, 1-2, 1-3, 2-4, 3-4, 3-5, 4-5, all cost 1
unfoldable pub F-network : Network
F-network =
    linked (1 ∷ 2 ∷ 3 ∷ 4 ∷ 5 ∷ 6 ∷ [])
    (link 0 1 1 ∷ link 0 2 1 ∷ link 1 2 1 ∷ link 1 3 1 ∷ link 2 4 1 ∷ link 3 4 1 ∷ link 3 5 1 ∷ link 4 5 1 ∷ [])

-- 01: one router alone
unfoldable pub alone : Network
alone = linked (1 ∷ []) []

-- 02, #105: three routers with a cost for each direction: 0 sends to 1 at 9 and to 2 at 1, 1 to 0 at 1 and to 2 at 4, 2 to 0 at 4 and to 1 at 2
unfoldable pub slope : Network
slope = linked (1 ∷ 2 ∷ 3 ∷ []) (two_costs 0 1 9 1 ∷ two_costs 0 2 1 4 ∷ two_costs 2 1 2 4 ∷ [])

-- these in bytes, their links as halves
unfoldable pub slope_stream : List ℕ
slope_stream =
    1 ∷ 0 ∷ 0 ∷ 0 ∷ 1 ∷ 1 ∷ 0 ∷ 0 ∷ 0 ∷ 2 ∷ 1 ∷ 0 ∷ 0 ∷ 0 ∷ 3
    ∷ 4 ∷ 0 ∷ 1 ∷ 0 ∷ 9 ∷ 4 ∷ 1 ∷ 0 ∷ 0 ∷ 1 ∷ 4 ∷ 0 ∷ 2 ∷ 0 ∷ 1 ∷ 4 ∷ 2 ∷ 0 ∷ 0 ∷ 4 ∷ 4 ∷ 2 ∷ 1 ∷ 0 ∷ 2 ∷ 4 ∷ 1 ∷ 2 ∷ 0 ∷ 4 ∷ 3 ∷ []

-- F in bytes: its routers, and its links in two lines
unfoldable pub F-stream : List ℕ
F-stream =
    1 ∷ 0 ∷ 0 ∷ 0 ∷ 1 ∷ 1 ∷ 0 ∷ 0 ∷ 0 ∷ 2 ∷ 1 ∷ 0 ∷ 0 ∷ 0 ∷ 3 ∷ 1 ∷ 0 ∷ 0 ∷ 0 ∷ 4 ∷ 1 ∷ 0 ∷ 0 ∷ 0 ∷ 5 ∷ 1 ∷ 0 ∷ 0 ∷ 0 ∷ 6
    ∷ 2 ∷ 0 ∷ 1 ∷ 0 ∷ 1 ∷ 2 ∷ 0 ∷ 2 ∷ 0 ∷ 1 ∷ 2 ∷ 1 ∷ 2 ∷ 0 ∷ 1 ∷ 2 ∷ 1 ∷ 3 ∷ 0 ∷ 1
    ∷ 2 ∷ 2 ∷ 4 ∷ 0 ∷ 1 ∷ 2 ∷ 3 ∷ 4 ∷ 0 ∷ 1 ∷ 2 ∷ 3 ∷ 5 ∷ 0 ∷ 1 ∷ 2 ∷ 4 ∷ 5 ∷ 0 ∷ 1 ∷ 3 ∷ []

-- one router alone, in bytes
unfoldable pub alone_stream : List ℕ
alone_stream = 1 ∷ 0 ∷ 0 ∷ 0 ∷ 1 ∷ 3 ∷ []

-- a fact of a stream with its K: record 8 in front
unfoldable pub from : ℕ → List ℕ → ℕ → call.Mode → Expected → Chain
from k stream d m expected = record { stream = 8 ∷ k ∷ stream; destination = d; mode = m; expected = expected }

-- a schedule for F in bytes, a row of 8 for each list of links, these down and the rest up; N - 1 = 5 rows are enough
unfoldable pub F-schedule : List (List ℕ) → List ℕ
F-schedule down = joined_over (up_but F-network) down

unfoldable pub starred : List Chain
starred =
    from 16 T-stream 0 ShortestPath (builds (0 ∷ 1 ∷ 2 ∷ []))
    ∷ from 16 T-stream 1 ShortestPath (builds (1 ∷ 2 ∷ 0 ∷ []))
    ∷ from 16 T-stream 2 ShortestPath (builds (2 ∷ 1 ∷ 0 ∷ []))
    ∷ from 16 T-stream 0 Free (builds (0 ∷ 2 ∷ 1 ∷ []))
    ∷ from 16 T-stream 0 Free (lists 1 (0 ∷ 2 ∷ []))
    ∷ from 16 F-stream 0 ShortestPath (builds (0 ∷ 2 ∷ 1 ∷ 4 ∷ 3 ∷ 5 ∷ []))
    ∷ from 16 F-stream 0 ShortestPath (counts (0 ∷ 2 ∷ 1 ∷ 3 ∷ 2 ∷ 4 ∷ []))
    ∷ from 1 F-stream 0 ShortestPath (counts (0 ∷ 1 ∷ 1 ∷ 2 ∷ 2 ∷ 3 ∷ []))
    ∷ from 16 F-stream 0 ShortestPath (walks 5 (F-schedule (replicate 5 [])) (delivered 0 3))
    ∷ from 16 F-stream 0 ShortestPath (walks 5 (F-schedule (replicate 5 (1 ∷ []))) (dropped 2 2))
    ∷ from 16 F-stream 0 ShortestPath (walks 5 (F-schedule ((7 ∷ []) ∷ (3 ∷ []) ∷ replicate 3 [])) (delivered 0 4))
    ∷ from 16 alone_stream 0 ShortestPath (builds (0 ∷ []))
    ∷ from 16 alone_stream 0 ShortestPath (walks 0 [] (delivered 0 0))
    ∷ []

-- The one statement: every fact of the list holds, by computing all of its calls.
abbrev pub StarredHold : Type 0
StarredHold = T (every follows starred)

-- T with its IDs against the places, 3, 2, 1: the tie of the free mode now goes to place 1
unfoldable pub T-reversed : Network
T-reversed = linked (3 ∷ 2 ∷ 1 ∷ []) (link 0 1 1 ∷ link 1 2 1 ∷ link 0 2 3 ∷ [])

-- the states of T's three links, all up
unfoldable pub all_up : List ℕ
all_up = up_but T-network []

unfoldable pub about : Network → ℕ → Mode → Claim → Fact
about n d mode claim = record { network = n; destination = d; mode = mode; claim = claim }

-- Facts beside the starred ones: 01's listing of T and its rows of F, where a tie stands in a row; T with its IDs reversed, where an ID taken for a
-- place would show; every path from a start; lists of calls, refused ones included, and what walks cost, worked by hand; orders, rows and walks by
-- the costs of the direction of travel (02, #105): from place 2 to place 0 a walk costs 2 + 1, or 4 by its own link, and from place 0 to place 2 it costs 1.
unfoldable pub further : List Fact
further =
    about T-network 0 shortest-path (greatest_are 16 (0 ∷ 1 ∷ 2 ∷ []))
    ∷ about T-network 0 shortest-path (row_is 16 0 [])
    ∷ about T-network 0 shortest-path (row_is 16 1 (0 ∷ []))
    ∷ about T-network 0 shortest-path (row_is 16 2 (1 ∷ 0 ∷ []))
    ∷ about T-network 1 shortest-path (greatest_are 16 (2 ∷ 0 ∷ 1 ∷ []))
    ∷ about T-network 1 shortest-path (row_is 16 0 (1 ∷ 2 ∷ []))
    ∷ about T-network 1 shortest-path (row_is 16 2 (1 ∷ []))
    ∷ about T-network 2 shortest-path (greatest_are 16 (2 ∷ 1 ∷ 0 ∷ []))
    ∷ about T-network 2 shortest-path (row_is 16 0 (1 ∷ 2 ∷ []))
    ∷ about T-network 2 shortest-path (row_is 16 1 (2 ∷ []))
    ∷ about F-network 0 shortest-path (row_is 16 0 [])
    ∷ about F-network 0 shortest-path (row_is 16 1 (0 ∷ 2 ∷ []))
    ∷ about F-network 0 shortest-path (row_is 16 2 (0 ∷ []))
    ∷ about F-network 0 shortest-path (row_is 16 3 (1 ∷ 4 ∷ []))
    ∷ about F-network 0 shortest-path (row_is 16 4 (2 ∷ []))
    ∷ about F-network 0 shortest-path (row_is 16 5 (4 ∷ 3 ∷ []))
    ∷ about T-reversed 0 free (order_is (0 ∷ 1 ∷ 2 ∷ []))
    ∷ about T-reversed 2 free (order_is (2 ∷ 0 ∷ 1 ∷ []))
    ∷ about T-reversed 2 free (row_is 16 1 (2 ∷ 0 ∷ []))
    ∷ about T-network 0 shortest-path (paths_are 16 0 ((0 ∷ []) ∷ []))
    ∷ about T-network 0 shortest-path (paths_are 16 2 ((2 ∷ 1 ∷ 0 ∷ []) ∷ (2 ∷ 0 ∷ []) ∷ []))
    ∷ about F-network 0 shortest-path
    (paths_are 16 5 ((5 ∷ 4 ∷ 2 ∷ 0 ∷ []) ∷ (5 ∷ 3 ∷ 1 ∷ 0 ∷ []) ∷ (5 ∷ 3 ∷ 1 ∷ 2 ∷ 0 ∷ []) ∷ (5 ∷ 3 ∷ 4 ∷ 2 ∷ 0 ∷ []) ∷ []))
    ∷ about F-network 0 shortest-path (paths_are 1 5 ((5 ∷ 4 ∷ 2 ∷ 0 ∷ []) ∷ []))
    ∷ about T-network 0 shortest-path (walk_costs 16 2 (all_up ∷ all_up ∷ []) 2)
    ∷ about T-network 0 shortest-path (walk_costs 16 2 (up_but T-network (1 ∷ []) ∷ all_up ∷ []) 3)
    ∷ about F-network 0 shortest-path (walk_costs 16 5 (replicate 5 (up_but F-network [])) 3)
    ∷ about slope 0 shortest-path (order_is (0 ∷ 1 ∷ 2 ∷ []))
    ∷ about slope 0 shortest-path (row_is 16 2 (1 ∷ 0 ∷ []))
    ∷ about slope 0 shortest-path (walk_costs 16 2 (all_up ∷ all_up ∷ []) 3)
    ∷ about slope 0 shortest-path (walk_costs 16 2 (up_but slope (2 ∷ []) ∷ all_up ∷ []) 4)
    ∷ about slope 2 shortest-path (order_is (2 ∷ 0 ∷ 1 ∷ []))
    ∷ about slope 2 shortest-path (row_is 16 1 (0 ∷ 2 ∷ []))
    ∷ about slope 2 shortest-path (walk_costs 16 0 (all_up ∷ all_up ∷ []) 1)
    ∷ about T-network 0 shortest-path (calls_leave 16 (set 2 ∷ hop all_up ∷ []) 1 1)
    ∷ about T-network 0 shortest-path (calls_leave 16 (set 2 ∷ hop (1 ∷ 1 ∷ []) ∷ []) 2 0)
    ∷ about T-network 0 shortest-path (calls_leave 16 (set 2 ∷ hop all_up ∷ set 3 ∷ []) 1 1)
    ∷ about T-network 0 shortest-path (calls_leave 16 (set 2 ∷ hop all_up ∷ set 1 ∷ []) 1 0)
    ∷ about T-network 0 shortest-path (calls_leave 16 (set 2 ∷ hop (0 ∷ 0 ∷ 0 ∷ []) ∷ hop all_up ∷ []) 1 1)
    ∷ about T-network 0 shortest-path (calls_leave 16 (set 2 ∷ hop all_up ∷ hop all_up ∷ hop all_up ∷ []) 0 2)
    ∷ []

abbrev pub FurtherHold : Type 0
FurtherHold = T (every holds further)

-- The networks are well formed, so every theorem of the crate network holds of them.
abbrev pub WorkedWellFormed : Type 0
WorkedWellFormed = WellFormed T-network × WellFormed F-network × WellFormed alone × WellFormed slope

-- The streams, with the K that the list gives them, 16 for the last, are read as these networks.
abbrev pub StreamsRead : Type 0
StreamsRead =
    (network_of (reading (8 ∷ 16 ∷ T-stream)).topology ≡ T-network)
    × (network_of (reading (8 ∷ 16 ∷ F-stream)).topology ≡ F-network)
    × (network_of (reading (8 ∷ 1 ∷ F-stream)).topology ≡ F-network)
    × (network_of (reading (8 ∷ 16 ∷ alone_stream)).topology ≡ alone)
    × (network_of (reading (8 ∷ 16 ∷ slope_stream)).topology ≡ slope)
