-- A stream that is read has a sound topology, whose figures fit; a refused one has its line.
-- Assumes nothing.
use Rattle.std.proofs.Common.{◌∙◌, ap, sym}
use Rattle.program_io.specs.Output.{refused_line}
use Rattle.program_io.proofs.Right.{read_sound, output_read, output_refused}
use Rattle.coverage_rules.specs.Printed.{coverage_text}
use Rattle.coverage.specs.Output.{figures_text, coverage_output}
use Rattle.coverage.proofs.put_onto.Goals as goal

pub returns-in-Err : goal.returns-in-Err
unfolding coverage_output
returns-in-Err c = rw (output_refused figures_text c.args.stream.now c.in-Err.refusal c.in-Err.ensures ∙ ap refused_line (sym c.answer.ensures)) c.put_refused.ensures

pub of-requires : goal.of-requires
of-requires c = read_sound c.args.stream.now c.type_inv.stream c.in-Ok.t c.in-Ok.ensures

pub coverage-figures-requires : goal.coverage-figures-requires
coverage-figures-requires c = (read_sound c.args.stream.now c.type_inv.stream c.in-Ok.t c.in-Ok.ensures, c.of.ensures)

pub returns-in-Ok : goal.returns-in-Ok
unfolding coverage_output figures_text coverage_text
returns-in-Ok c = rw (output_read figures_text c.args.stream.now c.in-Ok.t c.in-Ok.ensures, ← c.coverage-figures.ensures) c.put_coverage.ensures
