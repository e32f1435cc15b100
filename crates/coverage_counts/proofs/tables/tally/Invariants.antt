-- Of the rows passed so many have two entries or more, and all have so many entries.
-- Assumes nothing.
use Rattle.std.proofs.Common.{◌≡◌}
use Rattle.coverage_rules.specs.Inner.{two_in, all_in}
use Rattle.coverage_counts.proofs.tables.tally.Given as goal

abbrev pub invariant-loop-u : goal.invariant-loop-u
invariant-loop-u l = record { two : l.two ≡ two_in l.table.bytes.now l.u; all : l.entries ≡ all_in l.table.bytes.now l.u }
