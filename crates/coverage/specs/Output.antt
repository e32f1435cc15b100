-- What the coverage program prints for what it has read (02, #102).
-- Assumes nothing.
use Rattle.std.specs.Prelude.{ℕ, List}
use Rattle.topology_types.specs.declared.Topology.{Topology}
use Rattle.coverage_rules.specs.Coverage.{coverage}
use Rattle.coverage_rules.specs.Printed.{coverage_text}
use Rattle.program_io.specs.Output.{output_by}

-- the lines of a topology's figures
unfoldable pub figures_text : Topology → List ℕ
figures_text t = coverage_text (coverage t)

-- the whole output: the figures; a refused stream prints the listing's line
unfoldable pub coverage_output : List ℕ → List ℕ
coverage_output stream = output_by figures_text stream
