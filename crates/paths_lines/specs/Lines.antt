-- The lines of every path to every destination (02, 103, the program for the repair crews), by the listing's tables.
-- Assumes nothing.
use Rattle.std.specs.Prelude.{ℕ, cond, List, [], ◌∷◌, ◌++◌, map, ltb, length}
use Rattle.network.specs.Lists.{below}
use Rattle.topology_types.specs.declared.Topology.{Topology}
use Rattle.topology.specs.Written.{joined_over}
use Rattle.text.specs.Lines.{newline}
use Rattle.text.specs.Numbers.{number_text}
use Rattle.listing_rules.specs.Listing.{spaced, table_for}
use Rattle.paths_rules.specs.Calls.{most_paths, paths_of}

-- `:`, a field of its own
unfoldable pub colon : List ℕ
colon = 58 ∷ []

-- `more than 512 paths`
unfoldable pub too_many : List ℕ
too_many = 109 ∷ 111 ∷ 114 ∷ 101 ∷ 32 ∷ 116 ∷ 104 ∷ 97 ∷ 110 ∷ 32 ∷ 53 ∷ 49 ∷ 50 ∷ 32 ∷ 112 ∷ 97 ∷ 116 ∷ 104 ∷ 115 ∷ []

-- a line: destination, start, `:`, and what is said of it
unfoldable pub line_of : ℕ → ℕ → List (List ℕ) → List ℕ
line_of d u fields = spaced (number_text d ∷ number_text u ∷ colon ∷ fields) ++ (newline ∷ [])

-- 02, 103: a path as places
unfoldable pub path_line : ℕ → ℕ → List ℕ → List ℕ
path_line d u path = line_of d u (map number_text path)

-- the lines of a start: each path to the destination, one a line; one line where there are more than 512
unfoldable pub lines_from : Topology → ℕ → ℕ → List ℕ
lines_from t d u =
    cond (ltb most_paths (length (paths_of t (table_for t d) u))) (line_of d u (too_many ∷ [])) (joined_over (path_line d u) (paths_of t (table_for t d) u))

-- the lines of a destination: each start, by place
unfoldable pub lines_to : Topology → ℕ → List ℕ
lines_to t d = joined_over (lines_from t d) (below t.routers)

-- the lines of all destinations, by place
unfoldable pub all_paths : Topology → List ℕ
all_paths t = joined_over (lines_to t) (below t.routers)
