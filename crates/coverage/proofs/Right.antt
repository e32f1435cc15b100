-- The output is the program's by the reading's number; a reading with number 0 has a sound topology, whose figures and lines are right.
-- Assumes nothing.
use mathlib.Core.Path.{◌∙◌}
use Rattle.stream_rules.proofs.Returned.{reads_sound}
use Rattle.coverage_rules.proofs.Right.{figures_right, lines_right}
use Rattle.program_io.proofs.Right.{all_print}
use Rattle.coverage.specs.Output.{figures_text, coverage_output}
use Rattle.coverage.specs.Theorems.{CoveragePrintsRight}

pub prints_right : CoveragePrintsRight
unfolding coverage_output figures_text
prints_right stream bytes =
    record {
      refused = (all_print figures_text stream).refused;
      counted = λ none. (all_print figures_text stream).read none ∙ (lines_right _ ((reads_sound stream bytes).is-sound none)).lines;
      figures = λ none. figures_right _ ((reads_sound stream bytes).is-sound none);
    }
