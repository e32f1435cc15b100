-- Behind the first number those passed were put, each behind a space.
-- Assumes nothing.
use Rattle.std.proofs.Common.{take}
use Rattle.listing_rules.specs.Inner.{spaced_number}
use Rattle.listing_rules.proofs.InTurn.{SoFar}
use Rattle.console_replies.proofs.unchecked.putting.put_spaced.Given as goal

abbrev pub invariant-loop-number : goal.invariant-loop-number
invariant-loop-number l = SoFar spaced_number 21 l.initial.page (take l.number-index l.number-items) l.number-index l.page
