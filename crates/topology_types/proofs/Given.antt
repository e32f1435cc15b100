-- The test of the lengths decides which case it is; what is written and the rest meet where the bytes end.
-- Assumes nothing.
use Prim.Native.Nat.{ℕ, ◌≤◌, ◌<◌}
use mathlib.Core.List.{List, ◌++◌}
use mathlib.Core.Path.{◌≡◌, refl, sym}
use native.Mathlib.Decide.{dec_lt}
use native.Mathlib.Omega.{arith}
use borrow.Author.Tests.{lt-ltb, le-ltb}
use lib.ListN.{length, drop}
use lib.Seq.{length_front, length-take-le, take-append_seam, drop-append_seam}
use Rattle.topology_types.specs.Outcome.{answer, turned_away, given}
use Rattle.topology_types.specs.Theorems.{GivenExact, TurnedAwayExact}

module _ (bytes buffer : List ℕ) where
  short : length buffer < length bytes → given bytes buffer ≡ record { answer = answer 24 (length bytes); buffer = buffer }
  unfolding given turned_away
  short h = rw (lt-ltb _ _ h)

  fits : length bytes ≤ length buffer →
      given bytes buffer ≡ record { answer = answer 0 (length bytes); buffer = bytes ++ drop (length bytes) buffer }
  unfolding given
  fits h = rw (le-ltb (length buffer) (length bytes) h)

  long : Dec (length buffer < length bytes) → length (given bytes buffer).buffer ≡ length buffer
  long (yes h) = rw (short h)
  long (no h) = rw (fits (omega arith)) (length_front buffer bytes (length bytes) (sym (length-take-le (length bytes) buffer (omega arith))))

pub given_exact : GivenExact
given_exact bytes buffer = record {
  short = short bytes buffer;
  answer = λ h. rw (fits bytes buffer h);
  stated = λ h. rw (fits bytes buffer h) (take-append_seam bytes (drop (length bytes) buffer));
  rest = λ h. rw (fits bytes buffer h) (drop-append_seam bytes (drop (length bytes) buffer));
  long = long bytes buffer (dec_lt (length buffer) (length bytes));
}

pub turned_away_exact : TurnedAwayExact
unfolding turned_away
turned_away_exact number at buffer = refl
