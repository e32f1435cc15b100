-- What the inner functions ask of the bytes of paths, and what they make of them; of the open contracts only those of `unchecked` name it, for the table
-- and the room that they ask for.
-- Assumes nothing.
use Rattle.std.specs.Prelude.{ℕ, ◌+◌, ◌*◌, ◌≤◌, ◌<◌, List, ◌∷◌, ◌++◌, ◌≡◌, T, length, take, drop}
use Rattle.network.specs.Lists.{below}
use Rattle.topology_types.specs.declared.Topology.{Topology}
use Rattle.topology_types.specs.Limits.{most_routers}
use Rattle.topology_sound.specs.Sound.{sound}
use Rattle.topology.specs.Written.{joined_over}
use Rattle.text.specs.Fields.{space, before}
use Rattle.text.specs.Lines.{answer_text}
use Rattle.listing_rules.specs.Inner.{Short}
use Rattle.listing_rules.specs.Listing.{table_for}
use Rattle.paths_rules.specs.Calls.{most_paths}
use Rattle.paths_lines.specs.Lines.{colon, path_line}

-- room for a line: two numbers of two digits, the space between, ` :`, at most 64 places of two digits with a space before each, and the line's end
abbrev pub most_path_line : ℕ
most_path_line = 200

-- room for the lines of a start
abbrev pub most_path_lines : ℕ
most_path_lines = most_path_line * most_paths

-- the fields before a path
unfoldable pub start_text : ℕ → ℕ → List ℕ
start_text d u = answer_text d u ++ (space ∷ colon)

-- the places of a path of 64 bytes
unfoldable pub places_of : List ℕ → List ℕ
places_of bytes = before 255 bytes

-- path i of those that stand in bytes, one behind the other
unfoldable pub path_in : List ℕ → ℕ → List ℕ
path_in bytes i = take most_routers (drop (most_routers * i) bytes)

-- their lines
unfoldable pub paths_text : ℕ → ℕ → List ℕ → ℕ → List ℕ
paths_text d u bytes count = joined_over (λ i. path_line d u (places_of (path_in bytes i))) (below count)

-- at most so many paths stand in bytes
pub record Paths (bytes : List ℕ) : Type 0 where
  pub few : length bytes ≤ most_routers * most_paths
  pub places : (i : ℕ) → most_routers * i + most_routers ≤ length bytes → Short (places_of (path_in bytes i))

-- destination and start are places of a sound topology, and the table is that of the listing
pub record Toward (t : Topology) (table : List ℕ) (d u : ℕ) : Type 0 where
  pub good : T (sound t)
  pub destination : d < t.routers
  pub start : u < t.routers
  pub listed : table ≡ table_for t d
