-- The part is put if it fits; a line that is too long stays so.
-- Assumes nothing.
use Rattle.std.proofs.Common.{arith, refl}
use Rattle.text.proofs.Stores.{in_place}
use Rattle.text.proofs.Texts.{too-long, one_more}
use Rattle.text.proofs.unchecked.lines.gather.Goals as goal

pub returns-in_err-left : goal.returns-in_err-left
returns-in_err-left c = rw c.from_residual.ensures (too-long c.args.buffer.now c.args.count c.args.part.now (omega (arith, c.in_err-left.ensures)))

pub returns-then-left-part : goal.returns-then-left-part
returns-then-left-part c = too-long c.args.buffer.now c.args.count c.args.part.now (omega (arith, c.in_ok-left.ensures))

pub returns : goal.returns
returns c =
    let a = c.args in
    let e = c.in_ok-left.ensures in
    one_more a.buffer.now a.count a.part.now (omega (arith, e)) (record { after = refl; stored = in_place a.buffer.now a.part.now _ a.count (omega (arith, e)) c.copy_from_slice.ensures.after })
