-- What the import program writes for a file of router-LSAs (02, #106).
-- Assumes nothing.
use Rattle.std.specs.Prelude.{ℕ, ◌≤◌, cond, Result, Ok, Err, List, [], ◌∷◌, ◌≡◌, eqb, leb, length, take}
use Rattle.stream_rules.specs.declared.Reading.{Reading}
use Rattle.topology.specs.Written.{written}
use Rattle.text.specs.Lines.{newline}
use Rattle.program_io.specs.Output.{refused_line}
use Rattle.ospf.specs.Import.{importing}

-- a file of at most 262,144 bytes is imported
abbrev pub most_file : ℕ
most_file = 262144

-- `too long`
unfoldable pub too_long : List ℕ
too_long = 116 ∷ 111 ∷ 111 ∷ 32 ∷ 108 ∷ 111 ∷ 110 ∷ 103 ∷ newline ∷ []

-- of what was imported: the stream of the topology, nothing if it was refused
unfoldable pub imported_stream : Reading → List ℕ
imported_stream r = cond (eqb r.answer.number 0) (written r.topology) []

-- and the line, nothing if it was not refused
unfoldable pub complaint_of : Reading → List ℕ
complaint_of r = cond (eqb r.answer.number 0) [] (refused_line r.answer)

-- to standard output: a refused file writes nothing there, and neither does one that is too long
unfoldable pub import_output : List ℕ → List ℕ
import_output file = cond (leb (length file) most_file) (imported_stream (importing file)) []

-- to standard error: `refused`, number, at, or `too long`
unfoldable pub complaint : List ℕ → List ℕ
complaint file = cond (leb (length file) most_file) (complaint_of (importing file)) too_long

-- how many bytes go to standard output and to standard error
pub record Ends : Type 0 where
  pub stream : ℕ
  pub line : ℕ

-- so many to the one, or so many to the other
abbrev pub ends_of : Result ℕ ℕ → Ends
ends_of (Ok end) = record { stream = end; line = 0 }
ends_of (Err end) = record { stream = 0; line = end }

-- The two texts stand at the starts of two buffers, with so many bytes.
pub record Writes (file : List ℕ) (r : Ends) (stream line : List ℕ) : Type 0 where
  pub output_put : take r.stream stream ≡ import_output file
  pub output_fits : r.stream ≤ length stream
  pub complaint_put : take r.line line ≡ complaint file
  pub complaint_fits : r.line ≤ length line
