-- The field is taken, and its digits read.
-- Assumes nothing.
use Rattle.std.proofs.Common.{ap, ◌∙◌}
use Rattle.text.specs.Numbers.{number}
use Rattle.console_held.specs.Questions.{zero_text}
use Rattle.console_held.proofs.unchecked.asked.number_in.Goals as goal

pub returns : goal.returns
unfolding zero_text
returns g c = c.number.ensures ∙ ap (number _) c.text_of.ensures
