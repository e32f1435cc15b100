-- Streams from before 02, #101, which meant K = 16 where they gave no record 8.
-- Assumes nothing.
use Rattle.std.specs.Prelude.{ℕ, List, ◌∷◌}
use Rattle.topology_types.specs.Outcome.{Outcome, given}

-- 02, #101: a helper puts `08 10` in front of an old stream, untested; what it leaves of a lent buffer: 24 at the stream's length and 2
unfoldable pub with_old_limit_lem : List ℕ → List ℕ → Outcome
with_old_limit_lem stream buffer = given (8 ∷ 16 ∷ stream) buffer
