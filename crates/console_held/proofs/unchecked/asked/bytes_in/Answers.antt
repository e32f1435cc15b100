-- The field is no longer than the line, so that its bytes fit the buffer.
-- Assumes nothing.
use Rattle.std.proofs.Common.{◌≡◌, ℕ, [], ◌∷◌, ap, arith, length, map}
use Rattle.text.specs.Hex.{none}
use Rattle.text.proofs.Bytes.{counted, decoded}
use Rattle.console_held.specs.Questions.{bytes_field, most_line, text_of_lem}
use Rattle.console_held.proofs.Asking.{text_fits}
use Rattle.console_held.proofs.unchecked.asked.bytes_in.Goals as goal

pub bytes-requires : goal.bytes-requires
bytes-requires g c =
    let fits = text_fits bytes_field (map g.K.Letter.letter c.args.kinds.now) c.args.line.now (45 ∷ []) most_line c.requires.0 (omega arith) in
    omega (arith, ap length c.text_of.ensures, c.requires.1)

pub returns : goal.returns
unfolding none
returns g c =
    let s = text_of_lem bytes_field (map g.K.Letter.letter c.args.kinds.now) c.args.line.now none in
    let fits = text_fits bytes_field (map g.K.Letter.letter c.args.kinds.now) c.args.line.now none most_line c.requires.0 (omega arith) in
    let f : c.text_of.result.now ≡ s = c.text_of.ensures in
    let called = c.bytes.ensures in
    let stored = rw f at called.1 in
    record {
      counted = rw f at called.0;
      start = λ (n : ℕ) e. let d = decoded s _ _ stored n (omega (arith, c.requires.1)) e in (d.0, d.1, omega (arith, (counted s n e).1));
    }
