-- The sum stays below 65,521.
-- Assumes nothing.
use Rattle.std.proofs.Common.{◌<◌}
use Rattle.bench_timing.proofs.all_walks.Given as goal

abbrev pub invariant-loop-u : goal.invariant-loop-u
invariant-loop-u l = l.next < 65521
