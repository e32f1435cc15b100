-- The topology and the tables of zeros stand for nothing.
-- Assumes nothing.
use Rattle.stream_rules.specs.Reading.{nothing_listed}
use Rattle.stream_rules.specs.Inner.{Stands}
use Rattle.stream.proofs.Filled.{stands_first}
use Rattle.stream.proofs.unchecked.Listing.new.Goals as goal

stands : (c : goal.After-new) → Stands nothing_listed c.empty.result c.new.result.costs c.new.result.leaving 0
unfolding nothing_listed
stands c = rw (c.empty.ensures, c.new.ensures) stands_first

pub invariant_of-result : goal.invariant_of-result
invariant_of-result c = record { stands = ∣ (nothing_listed, stands c) ∣₁ }

pub returns : goal.returns
unfolding nothing_listed
returns c = rw (c.empty.ensures, c.new.ensures) stands_first
