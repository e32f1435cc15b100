-- What the console holds, by the bytes that have come: a newline ends a line, which is answered, and any other byte is a byte more of it.
-- Assumes nothing.
use Rattle.std.specs.Prelude.{ℕ, Bool, true, false, cond, List, [], ◌∷◌, ◌++◌, eqb, ltb, length}
use Rattle.text.specs.Lines.{newline}
use Rattle.console_held.specs.Requests.{Held, Answered, no_request}
use Rattle.console.specs.Answers.{response_to}

-- A line that has not ended: the bytes that have come of it, or that they are more than a line may have.
pub data Line : Type 0 where
  some : List ℕ → Line
  too_long : Line

-- What is held, and the line that has not ended.
pub record State : Type 0 where
  pub held : Held
  pub line : Line

-- a byte more of a line, which may have so many; one that is too long stays so
unfoldable pub longer : ℕ → ℕ → Line → Line
longer most c (some bytes) = cond (ltb (length bytes) most) (some (bytes ++ (c ∷ []))) too_long
longer most c too_long = too_long

-- what a line is answered; one that is too long is no request
unfoldable pub answered : Held → Line → Answered
answered h (some bytes) = response_to h bytes
answered h too_long = no_request h

-- what is held from then on, when a line is answered
unfoldable pub held_after : Held → Line → Held
held_after h line = (answered h line).held

-- the line is answered, and the next begins
unfoldable pub line_ends : State → State
line_ends s = record { held = held_after s.held s.line; line = some [] }

-- the line has a byte more
unfoldable pub line_grows : ℕ → ℕ → State → State
line_grows most c s = record { held = s.held; line = longer most c s.line }

-- the line has a part more, byte by byte
unfoldable pub part_grows : ℕ → List ℕ → State → State
part_grows most [] s = s
part_grows most (c ∷ part) s = part_grows most part (line_grows most c s)

-- a text, byte by byte
unfoldable pub session_after : ℕ → List ℕ → State → State
session_after most [] s = s
session_after most (c ∷ text) s = session_after most text (cond (eqb c newline) (line_ends s) (line_grows most c s))

-- a line has a byte, or is too long
unfoldable pub begun : Line → Bool
begun (some []) = false
begun (some (c ∷ bytes)) = true
begun too_long = true
