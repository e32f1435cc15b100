-- The start of the buffer is the line, and no longer than a line may be.
-- Assumes nothing.
use Rattle.std.proofs.Common.{◌≤◌, arith, length-take-le, refl}
use Rattle.console_held.specs.Questions.{most_line}
use Rattle.console.specs.Inner.{line_gathered, line_given}
use Rattle.console.proofs.session.gathered.Goals as goal

pub returns-in_err-count : goal.returns-in_err-count
unfolding line_gathered line_given
returns-in_err-count c = rw (c.from_residual.ensures, c.in_err-count.was) (refl, tt)

pub returns : goal.returns
unfolding line_gathered line_given
returns c =
    let within : c.in_ok-count.field-0 ≤ most_line = rw c.in_ok-count.was at c.requires.1 in
    (rw c.in_ok-count.was, omega (arith, length-take-le c.in_ok-count.field-0 c.args.line.now (omega (arith, within, c.requires.0))))
