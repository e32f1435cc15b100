-- No byte has come.
-- Assumes nothing.
use Rattle.console.specs.Inner.{line_gathered}
use Rattle.console.proofs.session.Session.new.Goals as goal

pub returns : goal.returns
unfolding line_gathered
returns c = rw c.new.ensures
