-- The sum stays below 65,521.
-- Assumes nothing.
use Rattle.std.proofs.Common.{◌<◌}
use Rattle.bench_timing.proofs.with_bytes.Given as goal

abbrev pub invariant-loop-b : goal.invariant-loop-b
invariant-loop-b l = (l.next < 65521) × (goal.iterator-loop-b).can_next l.b-iterator × (goal.iterator-loop-b).is_finite l.b-iterator
