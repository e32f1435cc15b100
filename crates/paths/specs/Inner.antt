-- What the functions that gather paths ask and leave; of the open contracts only those of `unchecked` name it.
-- Assumes nothing.
use Rattle.std.specs.Prelude.{ℕ, suc, ◌+◌, ◌*◌, ◌≤◌, List, ◌≡◌, length, Option, Some, None}
use Rattle.std.proofs.lemmas.List.Edits.{sets}
use Rattle.network.specs.Lists.{counted}
use Rattle.network.specs.Row.{rank}
use Rattle.topology_types.specs.declared.Topology.{Topology}
use Rattle.topology_types.specs.Limits.{most_routers}
use Rattle.topology.specs.Written.{joined_over}
use Rattle.table.specs.Listed.{order_in}
use Rattle.text.specs.Inner.{Put}
use Rattle.paths_rules.specs.Calls.{most_paths, paths_of, paths_bytes}
use Rattle.paths_rules.specs.Theorems.{Passed}

-- room for as many paths as there may be
abbrev pub most_bytes : ℕ
most_bytes = most_routers * most_paths

-- What gathering paths from a station, or through its entries, asks: it is one of a topology on which the table was checked; the moves made and the
-- rank left make a path of at most 64 places; there are no more than 512 paths yet; and there is room.
pub record Asked (table : List ℕ) (u moves count : ℕ) (out : List ℕ) : Type 0 where
  pub topology : Topology
  pub on : Passed topology table u
  pub short : moves + rank (order_in topology.routers table) u ≤ most_routers
  pub few : count ≤ most_paths
  pub room : most_bytes ≤ length out

-- How many paths there are with those of a list behind `count` others, a count beyond 512 having stopped; and if it has not, they were put behind the
-- others, each over a route, after so many moves of it.
pub record PathsGathered (route : List ℕ) (moves : ℕ) (entry : List ℕ) (count : ℕ) (paths : List (List ℕ)) (now : ℕ) (exit : List ℕ) : Type 0 where
  pub total : now ≡ counted most_paths count paths
  pub put : now ≤ most_paths → Put entry (most_routers * count) (joined_over (sets route moves) paths) (most_routers * now) exit

-- how many paths there are from a start, a count beyond 512 having stopped; and if it has not, they are the first bytes of a buffer
pub record PathsListed (t : Topology) (table : List ℕ) (u : ℕ) (entry : List ℕ) (now : ℕ) (exit : List ℕ) : Type 0 where
  pub total : now ≡ counted most_paths 0 (paths_of t table u)
  pub put : now ≤ most_paths → Put entry 0 (paths_bytes t table u) (most_routers * now) exit

-- how many paths there are, one more than there may be where there is none
unfoldable pub found : Option ℕ → ℕ
found None = suc most_paths
found (Some count) = count

-- what functions that gather paths answer: how many there are with those before, none beyond 512
pub record PathsPut (route : List ℕ) (moves : ℕ) (entry : List ℕ) (count : ℕ) (paths : List (List ℕ)) (now : Option ℕ) (exit : List ℕ) : Type 0 where
  pub gathered : PathsGathered route moves entry count paths (found now) exit
  pub few : (n : ℕ) → now ≡ Some n → n ≤ most_paths

-- how many paths there are from a start, none beyond 512
pub record PathsFound (t : Topology) (table : List ℕ) (u : ℕ) (entry : List ℕ) (now : Option ℕ) (exit : List ℕ) : Type 0 where
  pub listed : PathsListed t table u entry (found now) exit
  pub few : (n : ℕ) → now ≡ Some n → n ≤ most_paths
