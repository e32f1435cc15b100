-- What is left of the text, taken from what is held now, leaves what the whole text leaves.
-- Assumes nothing.
use Rattle.std.proofs.Common.{◌≡◌, ◌≤◌, length}
use Rattle.console_held.specs.Questions.{most_line}
use Rattle.console.specs.Session.{session_after}
use Rattle.console.proofs.session.Session.take.Given as goal

abbrev pub invariant-loop-rest : goal.invariant-loop-rest
invariant-loop-rest l = (session_after most_line l.rest l.self ≡ session_after most_line l.text l.fn.self) × (length l.rest ≤ length l.text)

abbrev pub decreases-loop-rest : goal.decreases-loop-rest
decreases-loop-rest l = length l.rest
