-- What is proved of a call with a lent buffer, over all bytes and all buffers.
-- Assumes nothing.
use Rattle.std.specs.Prelude.{ℕ, ◌≤◌, ◌<◌, List, ◌≡◌, length, take, drop, Result}
use Rattle.topology_types.specs.declared.Refusal.{Refusal}
use Rattle.topology_types.specs.Outcome.{answer, answer_of, turned_away, given}

-- 01, Refusals, 24: a buffer that is too short is refused at the length needed and stays as it was. Otherwise the answer has number 0 and says how
-- many bytes were written; they stand at the front of the buffer, and the rest of it stays.
pub record BufferGiven (bytes buffer : List ℕ) : Type 0 where
  pub short : length buffer < length bytes → given bytes buffer ≡ record { answer = answer 24 (length bytes); buffer = buffer }
  pub answer : length bytes ≤ length buffer → (given bytes buffer).answer ≡ answer 0 (length bytes)
  pub stated : length bytes ≤ length buffer → take (length bytes) (given bytes buffer).buffer ≡ bytes
  pub rest : length bytes ≤ length buffer → drop (length bytes) (given bytes buffer).buffer ≡ drop (length bytes) buffer
  pub long : length (given bytes buffer).buffer ≡ length buffer

abbrev pub GivenExact : Type 0
GivenExact = (bytes buffer : List ℕ) → BufferGiven bytes buffer

-- 01, Refusals: no refusal writes to a buffer, whatever its number
abbrev pub TurnedAwayExact : Type 0
TurnedAwayExact = (number at : ℕ) (buffer : List ℕ) → turned_away number at buffer ≡ record { answer = answer number at; buffer = buffer }

-- 01, Refusals: an answer tells what a call returned; no two reasons have one number, and none has 0
abbrev pub AnswersTell : Type 0
AnswersTell = (a b : Result ℕ Refusal) → answer_of a ≡ answer_of b → a ≡ b
