-- Before each record the reading stands at its turn, and what is listed says so; every record that is taken has a byte, so that what is left falls.
-- Assumes nothing.
use Rattle.std.proofs.Common.{◌≡◌, ◌-◌, length}
use Rattle.stream.proofs.Standing.{Standing}
use Rattle.stream.proofs.read.Given as goal

abbrev pub invariant-loop-record : goal.invariant-loop-record
invariant-loop-record l = (l.reader.stream.now ≡ l.stream) × Standing l.stream l.listing l.reader.at

abbrev pub decreases-loop-record : goal.decreases-loop-record
decreases-loop-record l = length l.stream - l.reader.at
