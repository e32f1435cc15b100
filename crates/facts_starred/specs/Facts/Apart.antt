-- Facts of topologies whose parts are apart (02, #107), worked by hand, as one list: orders, rows, greatest hop counts, walks and lists of calls where
-- some router has no path to the destination.
-- Assumes nothing.
use Rattle.std.specs.Prelude.{ℕ, List, [], ◌∷◌, T, replicate}
use Rattle.network.specs.Lists.{every}
use Rattle.order_standings.specs.declared.Mode.TheVariants.{ShortestPath, Free}
use Rattle.forwarding_rules.specs.Lists.{set_at, hop_under}
use Rattle.facts_starred.specs.Facts.Chain.{Chain, builds, lists, counts, walks, leaves, delivered, dropped, follows}
use Rattle.facts_starred.specs.Facts.Starred.{from}

-- T with a fourth router, of ID 4, that no link joins; the limit K is not among these bytes
unfoldable pub cut_off : List ℕ
cut_off =
    1 ∷ 0 ∷ 0 ∷ 0 ∷ 1 ∷ 1 ∷ 0 ∷ 0 ∷ 0 ∷ 2 ∷ 1 ∷ 0 ∷ 0 ∷ 0 ∷ 3 ∷ 1 ∷ 0 ∷ 0 ∷ 0 ∷ 4
    ∷ 2 ∷ 0 ∷ 1 ∷ 0 ∷ 1 ∷ 2 ∷ 1 ∷ 2 ∷ 0 ∷ 1 ∷ 2 ∷ 0 ∷ 2 ∷ 0 ∷ 3 ∷ 3 ∷ []

-- four routers in two parts, links 0-1 and 2-3, both cost 1
unfoldable pub two_parts : List ℕ
two_parts =
    1 ∷ 0 ∷ 0 ∷ 0 ∷ 1 ∷ 1 ∷ 0 ∷ 0 ∷ 0 ∷ 2 ∷ 1 ∷ 0 ∷ 0 ∷ 0 ∷ 3 ∷ 1 ∷ 0 ∷ 0 ∷ 0 ∷ 4
    ∷ 2 ∷ 0 ∷ 1 ∷ 0 ∷ 1 ∷ 2 ∷ 2 ∷ 3 ∷ 0 ∷ 1 ∷ 3 ∷ []

-- two routers, no link
unfoldable pub pair : List ℕ
pair = 1 ∷ 0 ∷ 0 ∷ 0 ∷ 1 ∷ 1 ∷ 0 ∷ 0 ∷ 0 ∷ 2 ∷ 3 ∷ []

-- the states of three links, all up
unfoldable pub three_up : List ℕ
three_up = replicate 3 1

-- N - 1 = 3 rows are 9 states for cut_off and 6 for two_parts; with no links a schedule is empty
unfoldable pub apart : List Chain
apart =
    from 3 cut_off 0 ShortestPath (builds (0 ∷ 1 ∷ 2 ∷ 255 ∷ []))
    ∷ from 3 cut_off 0 ShortestPath (lists 3 [])
    ∷ from 3 cut_off 0 ShortestPath (counts (0 ∷ 1 ∷ 2 ∷ 255 ∷ []))
    ∷ from 3 cut_off 0 ShortestPath (walks 3 (replicate 9 1) (dropped 3 0))
    ∷ from 3 cut_off 0 ShortestPath (walks 3 (replicate 9 0) (dropped 3 0))
    ∷ from 3 cut_off 0 ShortestPath (walks 2 (replicate 9 1) (delivered 0 2))
    ∷ from 3 cut_off 0 ShortestPath (walks 2 (1 ∷ 0 ∷ 1 ∷ replicate 6 1) (delivered 0 1))
    ∷ from 3 cut_off 0 ShortestPath (walks 2 (1 ∷ 1 ∷ 1 ∷ replicate 6 0) (dropped 1 1))
    ∷ from 3 cut_off 0 ShortestPath (leaves (set_at 3 ∷ hop_under three_up ∷ set_at 4 ∷ hop_under three_up ∷ []) 3 0)
    ∷ from 3 cut_off 0 ShortestPath (leaves (set_at 2 ∷ hop_under three_up ∷ set_at 3 ∷ hop_under three_up ∷ hop_under (1 ∷ 1 ∷ []) ∷ []) 3 0)
    ∷ from 3 cut_off 0 ShortestPath (leaves (set_at 3 ∷ set_at 2 ∷ hop_under three_up ∷ hop_under three_up ∷ []) 0 2)
    ∷ from 3 cut_off 0 Free (builds (0 ∷ 2 ∷ 1 ∷ 255 ∷ []))
    ∷ from 3 cut_off 0 Free (counts (0 ∷ 2 ∷ 1 ∷ 255 ∷ []))
    ∷ from 3 cut_off 3 ShortestPath (builds (3 ∷ 255 ∷ 255 ∷ 255 ∷ []))
    ∷ from 3 cut_off 3 ShortestPath (counts (255 ∷ 255 ∷ 255 ∷ 0 ∷ []))
    ∷ from 3 cut_off 3 ShortestPath (walks 0 (replicate 9 1) (dropped 0 0))
    ∷ from 3 cut_off 3 ShortestPath (walks 3 (replicate 9 0) (delivered 3 0))
    ∷ from 3 two_parts 0 ShortestPath (builds (0 ∷ 1 ∷ 255 ∷ 255 ∷ []))
    ∷ from 3 two_parts 0 ShortestPath (counts (0 ∷ 1 ∷ 255 ∷ 255 ∷ []))
    ∷ from 3 two_parts 0 ShortestPath (walks 1 (replicate 6 1) (delivered 0 1))
    ∷ from 3 two_parts 0 ShortestPath (walks 2 (replicate 6 1) (dropped 2 0))
    ∷ from 3 two_parts 3 ShortestPath (builds (3 ∷ 2 ∷ 255 ∷ 255 ∷ []))
    ∷ from 3 two_parts 3 ShortestPath (counts (255 ∷ 255 ∷ 1 ∷ 0 ∷ []))
    ∷ from 3 two_parts 3 ShortestPath (walks 2 (replicate 6 1) (delivered 3 1))
    ∷ from 3 pair 0 ShortestPath (builds (0 ∷ 255 ∷ []))
    ∷ from 3 pair 0 ShortestPath (counts (0 ∷ 255 ∷ []))
    ∷ from 3 pair 0 ShortestPath (walks 0 [] (delivered 0 0))
    ∷ from 3 pair 0 ShortestPath (walks 1 [] (dropped 1 0))
    ∷ from 3 pair 0 ShortestPath (leaves (set_at 1 ∷ hop_under [] ∷ hop_under [] ∷ []) 1 0)
    ∷ from 3 pair 1 ShortestPath (builds (1 ∷ 255 ∷ []))
    ∷ from 3 pair 1 ShortestPath (counts (255 ∷ 0 ∷ []))
    ∷ []

-- Every fact of the list holds, by computing all of its calls.
abbrev pub ApartHold : Type 0
ApartHold = T (every follows apart)
