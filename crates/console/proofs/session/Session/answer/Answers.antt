-- What is held then is what the line leaves, and the next line has no bytes.
-- Assumes nothing.
use Rattle.console.specs.Session.{line_ends, held_after}
use Rattle.console.specs.Inner.{line_gathered}
use Rattle.console.proofs.session.Session.answer.Goals as goal

pub returns : goal.returns
unfolding line_ends held_after line_gathered
returns c = rw (← c.self.view_is, c.respond-n.ensures.held, c.gathered.ensures.0)
