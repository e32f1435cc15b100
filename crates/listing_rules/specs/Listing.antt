-- The listing's text (01, Two networks by hand, first paragraph), and what writing its lines of one destination into a lent buffer leaves.
-- Assumes nothing.
use Rattle.std.specs.Prelude.{ℕ, List, [], ◌∷◌, ◌++◌, map}
use Rattle.network.specs.Lists.{below}
use Rattle.network.specs.Order.{shortest-path}
use Rattle.topology_types.specs.declared.Topology.{Topology}
use Rattle.topology_types.specs.Outcome.{Outcome, turned_away, given}
use Rattle.topology_sound.specs.Place.{on_place}
use Rattle.topology.specs.Written.{joined_over}
use Rattle.table.specs.Listed.{rank_in_lem, places_in}
use Rattle.table.specs.Calls.{built_table}
use Rattle.forwarding_rules.specs.Calls.{figure_byte}
use Rattle.text.specs.Fields.{space}
use Rattle.text.specs.Lines.{newline}
use Rattle.text.specs.Numbers.{number_text}
use Rattle.text.specs.Hex.{none}

-- fields with one space between
unfoldable pub spaced : List (List ℕ) → List ℕ
spaced [] = []
spaced (f ∷ []) = f
spaced (f ∷ g ∷ fs) = f ++ (space ∷ spaced (g ∷ fs))

-- the row, `-` if empty
unfoldable pub row_fields : List ℕ → List (List ℕ)
row_fields [] = none ∷ []
row_fields (v ∷ vs) = map number_text (v ∷ vs)

-- a line: destination, router, rank, greatest hop count, row
unfoldable pub line_text : ℕ → ℕ → ℕ → ℕ → List ℕ → List ℕ
line_text d u rank hops row =
    spaced (number_text d ∷ number_text u ∷ number_text rank ∷ number_text hops ∷ row_fields row) ++ (newline ∷ [])

-- the table of destination d in shortest-path mode
unfoldable pub table_for : Topology → ℕ → List ℕ
table_for t d = built_table t d shortest-path

-- the line of router u, by what the table lists; rank and greatest hop count are 255 where the table gives the router no rank (02, #107)
unfoldable pub line_for : Topology → ℕ → List ℕ → ℕ → List ℕ
line_for t d table u = line_text d u (rank_in_lem table u) (figure_byte t table u) (places_in table u)

-- the lines of one destination: each router, by place
unfoldable pub lines_for : Topology → ℕ → List ℕ
lines_for t d = joined_over (line_for t d (table_for t d)) (below t.routers)

-- the lines of all destinations, by place
unfoldable pub all_lines : Topology → List ℕ
all_lines t = joined_over (lines_for t) (below t.routers)

-- 14, 15, then 24 at the length needed; else the lines of the destination, the rest of a longer buffer staying
unfoldable pub listing : Topology → ℕ → List ℕ → Outcome
listing t d buffer = on_place (λ number at. turned_away number at buffer) t d (given (lines_for t d) buffer)
