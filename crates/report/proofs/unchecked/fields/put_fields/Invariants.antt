-- The places passed were put, each behind a space.
-- Assumes nothing.
use Rattle.std.proofs.Common.{take}
use Rattle.listing_rules.specs.Inner.{spaced_number}
use Rattle.listing_rules.proofs.InTurn.{SoFar}
use Rattle.report.proofs.unchecked.fields.put_fields.Given as goal

abbrev pub invariant-loop-n : goal.invariant-loop-n
invariant-loop-n l = SoFar spaced_number 3 l.fn.page (take l.n-index l.numbers) l.n-index l.page
