-- The first field is compared with the word, and the spaces are counted.
-- Assumes nothing.
use Rattle.std.proofs.Common.{◌≡◌, true, false}
use Rattle.network.specs.Lists.{same_numbers}
use Rattle.text.specs.Fields.{asks, field}
use Rattle.text.proofs.Scan.{equal_texts}
use Rattle.text.proofs.unchecked.fields.asks.Goals as goal

pub returns-then-eq : goal.returns-then-eq
unfolding asks
returns-then-eq c =
    let a = c.args in
    let e : same_numbers (field 0 a.line.now) a.word.now ≡ true = rw (← c.field.ensures, ← equal_texts c.field.result.now a.word.now, ← c.eq.ensures) c.if-eq.true in
    rw (e, c.spaces.ensures)

pub returns-else-eq : goal.returns-else-eq
unfolding asks
returns-else-eq c =
    let a = c.args in
    let e : same_numbers (field 0 a.line.now) a.word.now ≡ false = rw (← c.field.ensures, ← equal_texts c.field.result.now a.word.now, ← c.eq.ensures) c.if-eq.false in
    rw (e, c.if-eq.false)
