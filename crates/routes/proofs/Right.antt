-- The output is the program's by the reading's number; a reading with number 0 has a sound topology, of which the lines are right.
-- Assumes nothing.
use mathlib.Core.Path.{◌∙◌}
use Rattle.stream_rules.proofs.Returned.{reads_sound}
use Rattle.program_io.proofs.Right.{all_print}
use Rattle.paths_lines.specs.Lines.{all_paths}
use Rattle.paths_lines.proofs.Right.{lines_right, all_in_turn}
use Rattle.routes.specs.Output.{routes_output}
use Rattle.routes.specs.Theorems.{RoutesPrintRight}

pub prints_right : RoutesPrintRight
unfolding routes_output
prints_right stream bytes =
    record {
      refused = (all_print all_paths stream).refused;
      read = λ none. (all_print all_paths stream).read none ∙ all_in_turn _;
      lines = λ none. lines_right _ ((reads_sound stream bytes).is-sound none);
    }
