-- What the functions of `coverage_counts` ask of a table and of the room, and what they count; the calls that users name do not rest on it.
-- Assumes nothing.
use Rattle.std.specs.Prelude.{ℕ, ◌≤◌, ◌<◌, List, leb, length}
use Rattle.network.specs.Lists.{below, keep}
use Rattle.topology_types.specs.Limits.{most_routers}
use Rattle.table.specs.Listed.{places_in}
use Rattle.table.specs.Inner.{RowOf}
use Rattle.coverage_rules.specs.Theorems.{total}

-- room for a line: two numbers of at most 20 digits, the space between and the line's end
abbrev pub most_fraction : ℕ
most_fraction = 42

-- room for the line of the pairs and those of 64 destinations
abbrev pub most_text : ℕ
most_text = 2730

-- how many entries the row of u has
abbrev pub listed_at : List ℕ → ℕ → ℕ
listed_at table u = length (places_in table u)

-- how many of the first rows have two entries or more, and how many entries they have
unfoldable pub two_in : List ℕ → ℕ → ℕ
two_in table n = length (keep (λ u. leb 2 (listed_at table u)) (below n))

unfoldable pub all_in : List ℕ → ℕ → ℕ
all_in table n = total (listed_at table) n

-- a table for so many routers, as far as its rows are counted
pub record Countable (table : List ℕ) (n : ℕ) : Type 0 where
  pub routers : n ≤ most_routers
  pub row : (u : ℕ) → u < n → RowOf table u
