-- What is proved of the lines of paths: byte by byte, for every sound topology, destination and start, and that they are exactly the ways a packet can
-- go. That numbers are in decimal and texts one after the other are `listing_rules`'s `NumbersSpelled` and `JoinsInTurn`.
-- Assumes nothing.
use Rattle.std.specs.Prelude.{ℕ, ◌≤◌, ◌<◌, List, [], ◌∷◌, ◌++◌, ◌≡◌, T, length}
use Rattle.network.specs.Lists.{below}
use Rattle.network.specs.Order.{shortest-path}
use Rattle.network.specs.Theorems.Order.{ByRule}
use Rattle.topology_types.specs.declared.Topology.{Topology}
use Rattle.topology_types.specs.Outcome.{answer}
use Rattle.topology_types.specs.Topology.{network_of}
use Rattle.topology_sound.specs.Sound.{sound}
use Rattle.topology.specs.Written.{joined_over}
use Rattle.table.specs.Calls.{table_checking}
use Rattle.table.specs.Theorems.{GivenBy}
use Rattle.text.specs.Numbers.{number_text}
use Rattle.paths_rules.specs.Calls.{paths_of}
use Rattle.paths_rules.specs.Theorems.{PathsRight}
use Rattle.paths_lines.specs.Lines.{lines_from, all_paths}

-- 02, 103: destination, start, `:`, and what stands behind it; 32 is the space and 58 the colon
abbrev pub line_of_path : ℕ → ℕ → List ℕ → List ℕ
line_of_path d u rest = number_text d ++ (32 ∷ (number_text u ++ (32 ∷ 58 ∷ rest)))

-- 02, 103: the lines of the start u for destination d. The table is the listing's, under the order by 01's rule in shortest-path mode and with the
-- topology's K. The paths are those of the call: `PathsRight` says that they are exactly the ways by the table's rows, each once and in the rows' order,
-- and those that delivered packets go. Up to 512 there is a line for each, in that order: its places, a space before each, and the newline, 10. If there
-- are more, there is one line, `more than 512 paths`. From the destination there is one path, itself.
pub record PathLines (t : Topology) (d u : ℕ) : Type 0 where
  pub order : List ℕ
  pub by_rule : ByRule (network_of t) d shortest-path order
  pub table : List ℕ
  pub given : GivenBy t table d t.limit order
  pub accepted : table_checking t table ≡ answer 0 0
  pub paths : PathsRight t table u
  pub up_to_512 : length (paths_of t table u) ≤ 512 →
      lines_from t d u ≡ joined_over (λ p. line_of_path d u (joined_over (λ v. 32 ∷ number_text v) p ++ (10 ∷ []))) (paths_of t table u)
  pub more_than_512 : 512 < length (paths_of t table u) →
      lines_from t d u
      ≡ line_of_path d u (32 ∷ 109 ∷ 111 ∷ 114 ∷ 101 ∷ 32 ∷ 116 ∷ 104 ∷ 97 ∷ 110 ∷ 32 ∷ 53 ∷ 49 ∷ 50 ∷ 32 ∷ 112 ∷ 97 ∷ 116 ∷ 104 ∷ 115 ∷ 10 ∷ [])
  pub from_destination : u ≡ d → lines_from t d u ≡ line_of_path d d (32 ∷ (number_text d ++ (10 ∷ [])))

abbrev pub PathLinesRight : Type 0
PathLinesRight = (t : Topology) → T (sound t) → (d : ℕ) → d < t.routers → (u : ℕ) → u < t.routers → PathLines t d u

-- 02, 103: every destination, and within it every start, by place
abbrev pub AllInTurn : Type 0
AllInTurn = (t : Topology) → all_paths t ≡ joined_over (λ d. joined_over (lines_from t d) (below t.routers)) (below t.routers)
