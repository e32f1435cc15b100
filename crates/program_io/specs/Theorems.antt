-- What is proved of the output of a program, for every text that it makes of a topology and every stream: the line of a refused stream, byte by byte, and the
-- text of the topology read.
-- Assumes nothing.
use Rattle.std.specs.Prelude.{ℕ, List, [], ◌∷◌, ◌++◌, ◌≢◌, ◌≡◌}
use Rattle.topology_types.specs.declared.Topology.{Topology}
use Rattle.stream_rules.specs.Reading.{reading}
use Rattle.text.specs.Numbers.{number_text}
use Rattle.program_io.specs.Output.{output_by}

-- 01, Two networks by hand: a refused stream prints one line: `refused`, number, at; any other what the program makes of the topology read
pub record PrintsBy (text : Topology → List ℕ) (stream : List ℕ) : Type 0 where
  pub refused : (reading stream).answer.number ≢ 0 →
      output_by text stream
      ≡ 114 ∷ 101 ∷ 102 ∷ 117 ∷ 115 ∷ 101 ∷ 100 ∷ 32 ∷ (number_text (reading stream).answer.number
      ++ (32 ∷ (number_text (reading stream).answer.at ++ (10 ∷ []))))
  pub read : (reading stream).answer.number ≡ 0 → output_by text stream ≡ text (reading stream).topology

abbrev pub AllPrint : Type 0
AllPrint = (text : Topology → List ℕ) (stream : List ℕ) → PrintsBy text stream
