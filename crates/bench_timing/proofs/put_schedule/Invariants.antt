-- A row takes at most 256 bytes.
-- Assumes nothing.
use Rattle.std.proofs.Common.{◌*◌, ◌≤◌}
use Rattle.bench_timing.proofs.put_schedule.Given as goal

abbrev pub invariant-loop-row : goal.invariant-loop-row
invariant-loop-row l = l.at ≤ 256 * l.row
