-- The field is taken, and its word looked up.
-- Assumes nothing.
use Rattle.std.proofs.Common.{ap, ◌∙◌}
use Rattle.console_held.specs.Questions.{shortest_word, mode_named}
use Rattle.console_held.proofs.unchecked.asked.mode_in.Goals as goal

pub returns : goal.returns
unfolding shortest_word
returns g c = c.mode_of.ensures ∙ ap mode_named c.text_of.ensures
