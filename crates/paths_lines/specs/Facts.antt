-- Lines of paths by hand, as a list: a new fact is one line. Texts are given byte by byte: 48 is `0`, 32 the space, 58 `:` and 10 the line's end.
-- Assumes nothing.
use Rattle.std.specs.Prelude.{ℕ, Bool, List, [], ◌∷◌, ◌++◌, T}
use Rattle.network.specs.Lists.{every, same_numbers}
use Rattle.topology_types.specs.declared.Topology.{Topology}
use Rattle.order.specs.Facts.{T-topology}
use Rattle.table.specs.Facts.{lone, F-topology}
use Rattle.paths_rules.specs.Facts.{twelve}
use Rattle.listing_rules.specs.Facts.{eleven}
use Rattle.paths_lines.specs.Lines.{lines_from, all_paths}

pub data Fact : Type 0 where
  -- the lines of a start for a destination
  lines : Topology → ℕ → ℕ → List ℕ → Fact
  -- the lines of all destinations
  all : Topology → List ℕ → Fact

unfoldable pub holds : Fact → Bool
holds (lines t d u text) = same_numbers (lines_from t d u) text
holds (all t text) = same_numbers (all_paths t) text

-- T for destination 0, by the rows of 01's listing: `0 0 : 0`, `0 1 : 1 0`, `0 2 : 2 1 0`, `0 2 : 2 0`
unfoldable pub T-0 : List ℕ
T-0 =
    48 ∷ 32 ∷ 48 ∷ 32 ∷ 58 ∷ 32 ∷ 48 ∷ 10
    ∷ 48 ∷ 32 ∷ 49 ∷ 32 ∷ 58 ∷ 32 ∷ 49 ∷ 32 ∷ 48 ∷ 10
    ∷ 48 ∷ 32 ∷ 50 ∷ 32 ∷ 58 ∷ 32 ∷ 50 ∷ 32 ∷ 49 ∷ 32 ∷ 48 ∷ 10
    ∷ 48 ∷ 32 ∷ 50 ∷ 32 ∷ 58 ∷ 32 ∷ 50 ∷ 32 ∷ 48 ∷ 10 ∷ []

-- `1 0 : 0 1`, `1 0 : 0 2 1`, `1 1 : 1`, `1 2 : 2 1`
unfoldable pub T-1 : List ℕ
T-1 =
    49 ∷ 32 ∷ 48 ∷ 32 ∷ 58 ∷ 32 ∷ 48 ∷ 32 ∷ 49 ∷ 10
    ∷ 49 ∷ 32 ∷ 48 ∷ 32 ∷ 58 ∷ 32 ∷ 48 ∷ 32 ∷ 50 ∷ 32 ∷ 49 ∷ 10
    ∷ 49 ∷ 32 ∷ 49 ∷ 32 ∷ 58 ∷ 32 ∷ 49 ∷ 10
    ∷ 49 ∷ 32 ∷ 50 ∷ 32 ∷ 58 ∷ 32 ∷ 50 ∷ 32 ∷ 49 ∷ 10 ∷ []

-- `2 0 : 0 1 2`, `2 0 : 0 2`, `2 1 : 1 2`, `2 2 : 2`
unfoldable pub T-2 : List ℕ
T-2 =
    50 ∷ 32 ∷ 48 ∷ 32 ∷ 58 ∷ 32 ∷ 48 ∷ 32 ∷ 49 ∷ 32 ∷ 50 ∷ 10
    ∷ 50 ∷ 32 ∷ 48 ∷ 32 ∷ 58 ∷ 32 ∷ 48 ∷ 32 ∷ 50 ∷ 10
    ∷ 50 ∷ 32 ∷ 49 ∷ 32 ∷ 58 ∷ 32 ∷ 49 ∷ 32 ∷ 50 ∷ 10
    ∷ 50 ∷ 32 ∷ 50 ∷ 32 ∷ 58 ∷ 32 ∷ 50 ∷ 10 ∷ []

-- F for destination 0 from 5, by 01's rows: `0 5 : 5 4 2 0`, `0 5 : 5 3 1 0`, `0 5 : 5 3 1 2 0`, `0 5 : 5 3 4 2 0`; with K = 1 the first alone
unfoldable pub F-first : List ℕ
F-first = 48 ∷ 32 ∷ 53 ∷ 32 ∷ 58 ∷ 32 ∷ 53 ∷ 32 ∷ 52 ∷ 32 ∷ 50 ∷ 32 ∷ 48 ∷ 10 ∷ []

unfoldable pub F-others : List ℕ
F-others =
    48 ∷ 32 ∷ 53 ∷ 32 ∷ 58 ∷ 32 ∷ 53 ∷ 32 ∷ 51 ∷ 32 ∷ 49 ∷ 32 ∷ 48 ∷ 10
    ∷ 48 ∷ 32 ∷ 53 ∷ 32 ∷ 58 ∷ 32 ∷ 53 ∷ 32 ∷ 51 ∷ 32 ∷ 49 ∷ 32 ∷ 50 ∷ 32 ∷ 48 ∷ 10
    ∷ 48 ∷ 32 ∷ 53 ∷ 32 ∷ 58 ∷ 32 ∷ 53 ∷ 32 ∷ 51 ∷ 32 ∷ 52 ∷ 32 ∷ 50 ∷ 32 ∷ 48 ∷ 10 ∷ []

-- one router alone: `0 0 : 0`
unfoldable pub lone_0 : List ℕ
lone_0 = 48 ∷ 32 ∷ 48 ∷ 32 ∷ 58 ∷ 32 ∷ 48 ∷ 10 ∷ []

-- the last of eleven routers in a line, two digits in every field: `10 8 : 8 9 10`, and itself, `10 10 : 10`
unfoldable pub eleven_8 : List ℕ
eleven_8 = 49 ∷ 48 ∷ 32 ∷ 56 ∷ 32 ∷ 58 ∷ 32 ∷ 56 ∷ 32 ∷ 57 ∷ 32 ∷ 49 ∷ 48 ∷ 10 ∷ []

unfoldable pub eleven_10 : List ℕ
eleven_10 = 49 ∷ 48 ∷ 32 ∷ 49 ∷ 48 ∷ 32 ∷ 58 ∷ 32 ∷ 49 ∷ 48 ∷ 10 ∷ []

-- Eleven routers, each linked to every other, and a twelfth that is linked to the first and the last of them. The order to the first is 0, 11, 10 and
-- then down to 1, and there are 1, 2 and 3 paths from 11, 10 and 9; each router behind them has twice as many as the one before it, so 768 from 1.
-- `0 10 : 10 0`, `0 10 : 10 11 0`; `0 1 : more than 512 paths`
unfoldable pub twelve_10 : List ℕ
twelve_10 =
    48 ∷ 32 ∷ 49 ∷ 48 ∷ 32 ∷ 58 ∷ 32 ∷ 49 ∷ 48 ∷ 32 ∷ 48 ∷ 10
    ∷ 48 ∷ 32 ∷ 49 ∷ 48 ∷ 32 ∷ 58 ∷ 32 ∷ 49 ∷ 48 ∷ 32 ∷ 49 ∷ 49 ∷ 32 ∷ 48 ∷ 10 ∷ []

unfoldable pub twelve_1 : List ℕ
twelve_1 =
    48 ∷ 32 ∷ 49 ∷ 32 ∷ 58
    ∷ 32 ∷ 109 ∷ 111 ∷ 114 ∷ 101 ∷ 32 ∷ 116 ∷ 104 ∷ 97 ∷ 110 ∷ 32 ∷ 53 ∷ 49 ∷ 50 ∷ 32 ∷ 112 ∷ 97 ∷ 116 ∷ 104 ∷ 115 ∷ 10 ∷ []

unfoldable pub facts : List Fact
facts =
    all T-topology (T-0 ++ (T-1 ++ T-2))
    ∷ all lone lone_0
    ∷ lines (F-topology 16) 0 5 (F-first ++ F-others)
    ∷ lines (F-topology 1) 0 5 F-first
    ∷ lines eleven 10 8 eleven_8
    ∷ lines eleven 10 10 eleven_10
    ∷ lines twelve 0 10 twelve_10
    ∷ []

-- The two statements: every fact of the list holds, by computing it; and where there are more than 512 paths there is one line.
abbrev pub FactsHold : Type 0
FactsHold = T (every holds facts)

abbrev pub MoreHold : Type 0
MoreHold = T (holds (lines twelve 0 1 twelve_1))
