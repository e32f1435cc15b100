-- The ranks passed agree.
use Rattle.std.proofs.Common.{◌≡◌, ℕ, ◌<◌}
use Rattle.table.specs.Listed.{rank_in_lem}
use Rattle.table.proofs.reading.ranks_agree.Given as goal

abbrev pub invariant-loop-u : goal.invariant-loop-u
invariant-loop-u l = (v : ℕ) → v < l.u → rank_in_lem l.table.bytes.now v ≡ rank_in_lem l.other.bytes.now v
