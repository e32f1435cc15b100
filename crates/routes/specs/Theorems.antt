-- What is proved of the program's output, for every stream: the line of a refused one, byte by byte, and the lines of one that is read.
-- Assumes nothing.
use Rattle.std.specs.Prelude.{ℕ, ◌<◌, List, [], ◌∷◌, ◌++◌, ◌≢◌, ◌≡◌}
use Rattle.network.specs.Lists.{below}
use Rattle.stream_rules.specs.Reading.{reading}
use Rattle.stream_rules.specs.Theorems.{Bytes}
use Rattle.topology.specs.Written.{joined_over}
use Rattle.text.specs.Numbers.{number_text}
use Rattle.paths_lines.specs.Lines.{lines_from}
use Rattle.paths_lines.specs.Theorems.{PathLines}
use Rattle.routes.specs.Output.{routes_output}

-- 02, 103: a refused stream prints the listing's line: `refused`, number, at; any other the lines of every destination, and within it of every start, by
-- place, of the topology read
pub record RoutesPrint (stream : List ℕ) : Type 0 where
  pub refused : (reading stream).answer.number ≢ 0 →
      routes_output stream
      ≡ 114 ∷ 101 ∷ 102 ∷ 117 ∷ 115 ∷ 101 ∷ 100 ∷ 32 ∷ (number_text (reading stream).answer.number
      ++ (32 ∷ (number_text (reading stream).answer.at ++ (10 ∷ []))))
  pub read : (reading stream).answer.number ≡ 0 →
      let t = (reading stream).topology in
      routes_output stream ≡ joined_over (λ d. joined_over (lines_from t d) (below t.routers)) (below t.routers)
  pub lines : (reading stream).answer.number ≡ 0 →
      let t = (reading stream).topology in
      (d : ℕ) → d < t.routers → (u : ℕ) → u < t.routers → PathLines t d u

abbrev pub RoutesPrintRight : Type 0
RoutesPrintRight = (stream : List ℕ) → Bytes stream → RoutesPrint stream
