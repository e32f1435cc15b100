-- What functions that put text into a buffer promise: a text from an offset on, and a line gathered part by part.
-- Assumes nothing.
use Rattle.std.specs.Prelude.{ℕ, ◌+◌, Bool, cond, Option, Some, None, List, ◌≡◌, leb, length}
use Rattle.std.proofs.lemmas.List.Edits.{sets}

-- A text was put into a buffer from an offset on: the offset after it, and the buffer as it is then.
pub record Put (entry : List ℕ) (at : ℕ) (text : List ℕ) (end : ℕ) (exit : List ℕ) : Type 0 where
  pub after : end ≡ at + length text
  pub stored : exit ≡ sets entry at text

-- of a line so many bytes are in the buffer, and a part more fits
unfoldable pub fits : List ℕ → ℕ → List ℕ → Bool
fits buffer count part = leb (count + length part) (length buffer)

-- how many bytes of a line are there with a part more; none for a line that is too long
unfoldable pub count_with : List ℕ → ℕ → List ℕ → Option ℕ
count_with buffer count part = cond (fits buffer count part) (Some (count + length part)) None

-- the buffer with a part more of the line, if it fits
unfoldable pub buffer_with : List ℕ → ℕ → List ℕ → List ℕ
buffer_with buffer count part = cond (fits buffer count part) (sets buffer count part) buffer

-- A part more of a line was put into the buffer, if it fits: how many bytes of the line are there, and the buffer as it is then.
pub record Gathered (entry : List ℕ) (count : ℕ) (part : List ℕ) (now : Option ℕ) (exit : List ℕ) : Type 0 where
  pub counted : now ≡ count_with entry count part
  pub stored : exit ≡ buffer_with entry count part
