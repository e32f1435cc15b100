-- What writing every path to the destination leaves, whole (02, 103; 01, Refusals, 14, 15, 21 and 24).
-- Assumes nothing.
use Rattle.std.specs.Prelude.{ℕ, cond, List, ltb, length, drop}
use Rattle.network.specs.Paths.{paths_from, paths_through}
use Rattle.topology_types.specs.declared.Topology.{Topology}
use Rattle.topology_types.specs.Limits.{most_routers}
use Rattle.topology_types.specs.Outcome.{Outcome, turned_away, given}
use Rattle.topology_types.specs.Topology.{network_of, padded}
use Rattle.topology_sound.specs.Place.{on_place}
use Rattle.topology.specs.Written.{joined_over}
use Rattle.table.specs.Listed.{entries_in}
use Rattle.table.specs.Calls.{unless_refused, table_checking}
use Rattle.forwarding_rules.specs.Calls.{by}

-- 02, 103: up to 512 paths
abbrev pub most_paths : ℕ
most_paths = 512

-- 02, 103: every path from the station at u to the destination, over what the table lists
unfoldable pub paths_of : Topology → List ℕ → ℕ → List (List ℕ)
paths_of t table u = paths_from (by t table) t.routers u

-- 02, 103: every path through the entries of the row of u, from its entry i on
unfoldable pub paths_past : Topology → List ℕ → ℕ → ℕ → List (List ℕ)
paths_past t table u i = paths_through (by t table) t.routers (drop i (entries_in (network_of t) table u))

-- 02, 103: 64 bytes a path padded with 255
unfoldable pub path_bytes : List ℕ → List ℕ
path_bytes path = padded 255 most_routers path

-- 02, 103: every path to the destination, each once
unfoldable pub paths_bytes : Topology → List ℕ → ℕ → List ℕ
paths_bytes t table u = joined_over path_bytes (paths_of t table u)

-- 14; 15 for the start; 21; 25 for more than 512 paths, at the start's place; then 24 at the length needed; else the paths, the rest of a longer buffer
-- staying
unfoldable pub writing_paths : Topology → List ℕ → ℕ → List ℕ → Outcome
writing_paths t table u buffer =
    on_place (λ number at. turned_away number at buffer) t u
    (unless_refused (table_checking t table) buffer
    (cond (ltb most_paths (length (paths_of t table u))) (turned_away 25 u buffer)
    (given (paths_bytes t table u) buffer)))
