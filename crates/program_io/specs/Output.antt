-- What a program that reads a topology stream prints for what it has read (01, Two networks by hand; 02, #102, reading and refusing as the listing does).
-- Assumes nothing.
use Rattle.std.specs.Prelude.{ℕ, cond, List, eqb}
use Rattle.topology_types.specs.declared.Answer.{Answer}
use Rattle.topology_types.specs.declared.Topology.{Topology}
use Rattle.stream_rules.specs.declared.Reading.{Reading}
use Rattle.stream_rules.specs.Reading.{reading}
use Rattle.text.specs.Lines.{word_line, refused_word}

-- a refused stream, or file (02, #106), prints one line: `refused`, number, at
unfoldable pub refused_line : Answer → List ℕ
refused_line a = word_line refused_word a.number a.at

-- the program's text of the topology that was read
unfoldable pub printed : (Topology → List ℕ) → Reading → List ℕ
printed text r = cond (eqb r.answer.number 0) (text r.topology) (refused_line r.answer)

-- the whole output
unfoldable pub output_by : (Topology → List ℕ) → List ℕ → List ℕ
output_by text stream = printed text (reading stream)
