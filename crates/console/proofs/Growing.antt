-- Whether a line that is gathered in a buffer has a byte.
-- Assumes nothing.
use Rattle.std.proofs.Common.{nat_lt, zero, suc, ◌≡◌, ℕ, ◌<◌, List, [], ◌∷◌, arith, length, take, refl}
use borrow.Author.Tests.{lt-ltb}
use Rattle.console.specs.Session.{some, begun}

-- a line has a byte where one has come
pub begun_by : (buffer : List ℕ) (n : ℕ) → 0 < length buffer → nat_lt 0 n ≡ begun (some (take n buffer))
unfolding begun
begun_by [] n h = absurd (omega arith)
begun_by (c ∷ buffer) zero h = refl
begun_by (c ∷ buffer) (suc n) h = lt-ltb 0 (suc n) (omega arith)
