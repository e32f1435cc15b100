-- What the program for the repair crews prints for what it has read (02, 103).
-- Assumes nothing.
use Rattle.std.specs.Prelude.{ℕ, List}
use Rattle.program_io.specs.Output.{output_by}
use Rattle.paths_lines.specs.Lines.{all_paths}

-- the whole output: the lines of every path; a refused stream prints the listing's line
unfoldable pub routes_output : List ℕ → List ℕ
routes_output stream = output_by all_paths stream
