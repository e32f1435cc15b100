-- The sum stays below 65,521.
-- Assumes nothing.
use Rattle.std.proofs.Common.{◌<◌}
use Rattle.bench_timing.proofs.repeated.Given as goal

abbrev pub invariant-loop : goal.invariant-loop
invariant-loop g l = l.sum < 65521
