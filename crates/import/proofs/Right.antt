-- What is written goes by the length of the file and the number of what was imported; a sound topology is read back from its stream.
-- Assumes nothing.
use mathlib.Core.List.{append_assoc}
use mathlib.Core.Logic.{⊎_elim}
use mathlib.Core.Path.{◌≡◌, refl, ◌∙◌}
use native.Mathlib.Omega.{arith}
use borrow.Author.Tests.{eq-eqb, ne_eqb, le-leb, lt-leb, leb-false}
use lib.Dec.{leb, leb→le}
use lib.ListN.{length, take}
use lib.Seq.{take_all, length-take-le}
use Rattle.network.proofs.Tests.{truth, as_false}
use Rattle.stream_rules.specs.declared.Reading.{Reading}
use Rattle.stream_rules.specs.Theorems.{success}
use Rattle.topology.proofs.RoundTrip.{written_read, written_long}
use Rattle.text.specs.Lines.{refused_word, answer_text, answer_line, word_line}
use Rattle.program_io.specs.Output.{refused_line}
use Rattle.ospf.specs.Import.{importing}
use Rattle.ospf.proofs.Verdict.{import_sound}
use Rattle.import.specs.Output.{most_file, too_long, imported_stream, complaint_of, import_output, complaint}
use Rattle.import.specs.Theorems.{ImportsRight, NotCut}

-- what has number 0 and points at 0 is a success
succeeded : (r : Reading) → r.answer.number ≡ 0 → r.answer.at ≡ 0 → success r.topology ≡ r
succeeded r n a = rw (n, a)

pub imports_right : ImportsRight
unfolding import_output complaint imported_stream complaint_of too_long refused_line word_line refused_word answer_line answer_text
imports_right file bytes =
    let read = import_sound file bytes in
    let number = (importing file).answer.number in
    record {
      refused = λ short some. rw (le-leb (length file) most_file short, ne_eqb number 0 some, append_assoc) (refl, refl);
      imported = λ short none. rw (le-leb (length file) most_file short, eq-eqb number 0 none) (refl, refl, (written_long _ (read.is-sound none)).most);
      read_back = λ short none. rw (le-leb (length file) most_file short, eq-eqb number 0 none) (written_read _ (read.is-sound none) ∙ succeeded (importing file) none (read.at_none none));
      too-long = λ long. rw (lt-leb (length file) most_file long) (refl, refl);
    }

-- an input that is not too long is read whole, and of one that is too long too much
pub not_cut : NotCut
unfolding import_output complaint
not_cut input =
    ⊎_elim
    (λ short. rw (take_all 262145 input (omega (arith, leb→le (length input) most_file short))) (refl, refl))
    (λ long.
    let whole = as_false (leb (length input) most_file) long in
    let some = leb-false (length input) most_file whole in
    let cut = lt-leb (length (take 262145 input)) most_file (omega (arith, length-take-le 262145 input (omega (arith, some)))) in
    rw (cut, whole) (refl, refl))
    (truth (leb (length input) most_file))
