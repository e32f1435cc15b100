-- The loop of `distances::settling::places`: below `v` each mark is its place.
-- Assumes nothing.
use Rattle.std.proofs.Common.{ℕ, ◌≡◌, ◌<◌, length}
use Rattle.distances.specs.Inner.{Open}
use Rattle.distances.proofs.settling.places.Given as goal

abbrev pub invariant-loop-v : goal.invariant-loop-v
invariant-loop-v l = record { long : length l.marks ≡ 64; each : (w : ℕ) → w < l.v → Open l.marks w }
