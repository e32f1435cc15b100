-- The output fits.
-- Assumes nothing.
use Rattle.std.proofs.Common.{ℕ, List, ◌≤◌, length, get_or, Fits, w8, rules, arith}
use Rattle.topology_sound.proofs.Sound.{sound_exact}
use Rattle.coverage_rules.specs.Coverage.{coverage}
use Rattle.coverage_rules.specs.Printed.{coverage_text}
use Rattle.coverage_rules.proofs.Right.{figures_right}
use Rattle.coverage_rules.proofs.Printing.{text_length}
use Rattle.program_io.proofs.Right.{output_most}
use Rattle.coverage.specs.Output.{figures_text, coverage_output}
use Rattle.coverage.proofs.put_output.Goals as goal

coverage_most : (stream : List ℕ) → ((i : ℕ) → Fits w8 (get_or stream i 0)) → length (coverage_output stream) ≤ 2730
unfolding coverage_output figures_text coverage_text
coverage_most stream fits =
    output_most figures_text stream 2730 (omega arith)
    (λ t good. omega (arith, text_length 10 (coverage t) (omega (arith, (figures_right t good).destinations, ((sound_exact t).0 good).routers_most))))
    fits

pub returns : goal.returns
returns c = (omega (arith, coverage_most c.args.stream.now c.type_inv.stream), search rules)
