-- With the digits of the rest put behind those that are there, the slice has them all.
-- Assumes nothing.
use Rattle.std.proofs.Common.{◌≡◌, ◌∙◌, ◌+◌, ◌*◌, suc, arith}
use Rattle.std.proofs.lemmas.List.Edits.{sets}
use Rattle.text.specs.Hex.{hex_of}
use Rattle.text.proofs.Scan.{next, end}
use Rattle.text.proofs.Stores.{sets_whole}
use Rattle.text.proofs.Texts.{hex_length}
use Rattle.text.proofs.unchecked.lines.encode.Goals as goal

pub loop-i-preserved : goal.loop-i-preserved
unfolding hex_of
loop-i-preserved c =
    let i = c.loop-i.i in
    let e : 2 * i + 1 ≡ suc (2 * i) = omega arith in
    let e' : 2 * (i + 1) ≡ suc (suc (2 * i)) = omega arith in
    cc (e, e', next {make = λ rest. sets c.loop-i.out (2 * i) (hex_of rest)} (record { inside = omega arith; makes = c.loop-i.invariant }) c.loop-i-test.true, c.digit.ensures, c.digit-in-loop-i.ensures)

pub returns : goal.returns
unfolding hex_of
returns c =
    let bytes = c.args.bytes.now in
    end {make = λ rest. sets c.loop-i.out (2 * c.loop-i.i) (hex_of rest)} (record { inside = omega arith; makes = c.loop-i.invariant }) c.loop-i-test.false ∙ sets_whole c.args.out.now (hex_of bytes) (omega (arith, hex_length bytes))
