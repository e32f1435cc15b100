-- A line has a byte where one has come.
-- Assumes nothing.
use Rattle.std.proofs.Common.{arith}
use Rattle.console.specs.Session.{begun}
use Rattle.console.specs.Inner.{line_gathered}
use Rattle.console.proofs.Growing.{begun_by}
use Rattle.console.proofs.session.Session.has_begun.Goals as goal

pub returns-in-Some : goal.returns-in-Some
unfolding line_gathered
returns-in-Some c = rw (← c.self.view_is, c.in-Some.is) (begun_by c.self.inside.line c.in-Some.n (omega (arith, c.self.invariant.0)))

pub returns-in-None : goal.returns-in-None
unfolding begun line_gathered
returns-in-None c = rw (← c.self.view_is, c.in-None.is)
