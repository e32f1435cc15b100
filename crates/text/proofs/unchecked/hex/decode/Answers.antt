-- With the bytes of the rest put behind those that are there, the slice has them all.
-- Assumes nothing.
use Rattle.std.proofs.Common.{◌+◌, ◌*◌, ◌∙◌, sym, arith}
use Rattle.network.proofs.Tests.{as_true}
use Rattle.text.specs.Hex.{in_hex}
use Rattle.text.proofs.Stores.{sets_next, sets_none}
use Rattle.text.proofs.Bytes.{hex_at, even, bytes_next, bytes_end}
use Rattle.text.proofs.unchecked.hex.decode.Goals as goal

pub worth-requires : goal.worth-requires
worth-requires c =
    let s = c.args.s.now in
    hex_at s (2 * c.loop-i.i) (as_true (in_hex s) c.requires.0) (omega arith)

pub worth-requires-in-loop-i : goal.worth-requires-in-loop-i
worth-requires-in-loop-i c =
    let s = c.args.s.now in
    hex_at s (2 * c.loop-i.i + 1) (as_true (in_hex s) c.requires.0) (omega arith)

pub loop-i-preserved : goal.loop-i-preserved
loop-i-preserved c =
    let s = c.args.s.now in
    let i = c.loop-i.i in
    cc (sets_next c.loop-i.out i _ _ _ (bytes_next s i (omega arith)), c.loop-i.invariant, c.worth.ensures.0, c.worth-in-loop-i.ensures.0)

pub returns : goal.returns
returns c =
    let s = c.args.s.now in
    let i = c.loop-i.i in
    let e = even s (as_true (in_hex s) c.requires.0) in
    sym (sets_none c.loop-i.out i _ (bytes_end s (2 * i) (omega arith))) ∙ c.loop-i.invariant
