-- What the inner functions of `report` ask of the bytes that they print, and what they make of them; of the open contracts only those of its `unchecked`
-- name it, for the room that they ask for and the fields that `put_fields` puts.
-- Assumes nothing.
use Rattle.std.specs.Prelude.{ℕ, ◌≤◌, ◌<◌, List, ◌∷◌, ◌++◌, length, get_or}
use Rattle.network.specs.Lists.{below}
use Rattle.topology_types.specs.Limits.{most_routers, most_next_hops}
use Rattle.topology.specs.Written.{joined_over}
use Rattle.table.specs.Listed.{rank_in_lem, places_in}
use Rattle.table.specs.Inner.{RowOf}
use Rattle.text.specs.Fields.{space}
use Rattle.text.specs.Numbers.{number_text}
use Rattle.listing_rules.specs.declared.Front.{Front}
use Rattle.listing_rules.specs.Listing.{row_fields, line_text}

-- room for a line: two numbers of two digits and two of three, at most 16 entries of two, the space before each but the first, and the line's end
abbrev pub most_listing_line : ℕ
most_listing_line = 62

-- room for the lines of a destination
abbrev pub most_listing_lines : ℕ
most_listing_lines = 3968

-- a number behind a space
abbrev pub spaced_number : ℕ → List ℕ
spaced_number n = space ∷ number_text n

-- numbers, a space before each
unfoldable pub fields_text : List ℕ → List ℕ
fields_text numbers = joined_over spaced_number numbers

-- numbers of one digit or two
abbrev pub Short : List ℕ → Type 0
Short numbers = (i : ℕ) → i < length numbers → get_or numbers i 0 < 100

-- the row with a space before each field
unfoldable pub row_text : List ℕ → List ℕ
row_text row = joined_over (λ f. space ∷ f) (row_fields row)

-- numbers of one digit or two, at most as many as a row has
pub record RowFits (row : List ℕ) : Type 0 where
  pub few : length row ≤ most_next_hops
  pub small : Short row

-- the fields before the row, by their numbers
abbrev pub front_of_lem : ℕ → ℕ → ℕ → ℕ → Front
front_of_lem d u rank hops = record { destination = record { 0 = d }; router = record { 0 = u }; rank = record { 0 = rank }; hops = record { 0 = hops } }

-- the fields before the row, each but the first behind a space
unfoldable pub front_text : Front → List ℕ
front_text f =
    number_text f.destination.0
    ++ ((space ∷ number_text f.router.0) ++ ((space ∷ number_text f.rank.0) ++ (space ∷ number_text f.hops.0)))

unfoldable pub front_line : Front → List ℕ → List ℕ
front_line f row = line_text f.destination.0 f.router.0 f.rank.0 f.hops.0 row

-- places of one digit or two; rank and hops are bytes, 255 where there is no path
pub record Small (f : Front) : Type 0 where
  pub destination : f.destination.0 < 100
  pub router : f.router.0 < 100
  pub rank : f.rank.0 < 256
  pub hops : f.hops.0 < 256

-- a table for so many routers, and the hop counts by place, as far as lines are made of them
pub record Listable (table hops : List ℕ) (n d : ℕ) : Type 0 where
  pub destination : d < n
  pub routers : n ≤ most_routers
  pub counted : n ≤ length hops
  pub row : (u : ℕ) → u < n → RowOf table u
  pub rank : (u : ℕ) → u < n → rank_in_lem table u < 256
  pub hop_count : (u : ℕ) → u < n → get_or hops u 0 < 256

-- the line of a place, and the lines of a table
unfoldable pub line_in : List ℕ → List ℕ → ℕ → ℕ → List ℕ
line_in table hops d u = line_text d u (rank_in_lem table u) (get_or hops u 0) (places_in table u)

unfoldable pub table_text : List ℕ → List ℕ → ℕ → ℕ → List ℕ
table_text table hops d n = joined_over (line_in table hops d) (below n)
