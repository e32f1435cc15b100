-- The sum stays below 65,521.
-- Assumes nothing.
use Rattle.std.proofs.Common.{◌<◌}
use Rattle.bench_timing.proofs.all_orders.Given as goal

abbrev pub invariant-loop-d : goal.invariant-loop-d
invariant-loop-d l = l.next < 65521
