-- What is proved of the program's output, for every stream: the line of a refused one, byte by byte, and the lines of one that is read.
-- Assumes nothing.
use Rattle.std.specs.Prelude.{ℕ, List, [], ◌∷◌, ◌++◌, ◌≢◌, ◌≡◌, get_or}
use Rattle.network.specs.Lists.{below}
use Rattle.stream_rules.specs.Reading.{reading}
use Rattle.stream_rules.specs.Theorems.{Bytes}
use Rattle.topology.specs.Written.{joined_over}
use Rattle.text.specs.Numbers.{number_text}
use Rattle.coverage_rules.specs.Coverage.{coverage}
use Rattle.coverage_rules.specs.Theorems.{figure_line, Figures}
use Rattle.coverage.specs.Output.{coverage_output}

-- 02, #102: a refused stream prints the listing's line: `refused`, number, at; any other the figures of the topology read, two numbers a line, one space
-- between: the pairs first, then a line for each destination, by place
pub record CoveragePrints (stream : List ℕ) : Type 0 where
  pub refused : (reading stream).answer.number ≢ 0 →
      coverage_output stream
      ≡ 114 ∷ 101 ∷ 102 ∷ 117 ∷ 115 ∷ 101 ∷ 100 ∷ 32 ∷ (number_text (reading stream).answer.number
      ++ (32 ∷ (number_text (reading stream).answer.at ++ (10 ∷ []))))
  pub counted : (reading stream).answer.number ≡ 0 →
      let t = (reading stream).topology in
      coverage_output stream
      ≡ figure_line (coverage t).covered (coverage t).pairs
      ++ joined_over (λ d. figure_line (get_or (coverage t).listed d 0) t.links) (below t.routers)
  pub figures : (reading stream).answer.number ≡ 0 → Figures (reading stream).topology

abbrev pub CoveragePrintsRight : Type 0
CoveragePrintsRight = (stream : List ℕ) → Bytes stream → CoveragePrints stream
