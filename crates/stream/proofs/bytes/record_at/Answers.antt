-- Past the end there is no byte; before it, the tests say which kind the byte at `at` is and whether its body is whole.
-- Assumes nothing.
use Rattle.std.proofs.Common.{◌+◌, get_or, sym, ap, ◌∙◌, arith, drop-cons}
use Rattle.std.proofs.Math.ListN.{drop_of_length-le}
use Rattle.stream_rules.specs.Record as record_of
use Rattle.stream_rules.specs.Stream.{record_in, body_length, decoded}
use Rattle.stream_rules.proofs.Stream.{cut_at, whole_at, unknown_at}
use Rattle.stream.proofs.bytes.record_at.Goals as goal

pub returns-then-s-at : goal.returns-then-s-at
unfolding record_in
returns-then-s-at c = sym (ap record_in (drop_of_length-le c.args.s.now c.if-s-at.true))

pub returns-then-s-body : goal.returns-then-s-body
returns-then-s-body c = sym (cut_at c.args.s.now c.args.at (get_or c.args.s.now c.args.at 0) (omega (arith, c.body_length.ensures)))

pub be32-requires : goal.be32-requires
unfolding body_length
be32-requires c = omega (arith, rw c.in-1.is at c.body_length.ensures)

pub half_at-requires : goal.half_at-requires
unfolding body_length
half_at-requires c = omega (arith, rw c.in-2.is at c.body_length.ensures)

pub half_at-requires-in-4 : goal.half_at-requires-in-4
unfolding body_length
half_at-requires-in-4 c = omega (arith, rw c.in-4.is at c.body_length.ensures)

pub bounds-s-body : goal.bounds-s-body
unfolding body_length
bounds-s-body c = omega (arith, rw c.in-8.is at c.body_length.ensures)

pub returns-in-1 : goal.returns-in-1
unfolding body_length decoded
returns-in-1 c =
    let e = rw c.in-1.is at c.body_length.ensures in
    ap record_of.Router c.be32.ensures ∙ sym (whole_at c.args.s.now c.args.at 1 (omega (arith, e)))

pub returns-in-2 : goal.returns-in-2
unfolding body_length decoded
returns-in-2 c =
    let e = rw c.in-2.is at c.body_length.ensures in
    ap record_of.Link c.half_at.ensures ∙ sym (whole_at c.args.s.now c.args.at 2 (omega (arith, e)))

pub returns-in-3 : goal.returns-in-3
unfolding body_length decoded
returns-in-3 c = sym (whole_at c.args.s.now c.args.at 3 (omega arith))

pub returns-in-4 : goal.returns-in-4
unfolding body_length decoded
returns-in-4 c =
    let e = rw c.in-4.is at c.body_length.ensures in
    ap record_of.Half c.half_at-in-4.ensures ∙ sym (whole_at c.args.s.now c.args.at 4 (omega (arith, e)))

pub returns-in-8 : goal.returns-in-8
unfolding body_length decoded
returns-in-8 c =
    let e = rw c.in-8.is at c.body_length.ensures in
    rw (whole_at c.args.s.now c.args.at 8 (omega (arith, e)), drop-cons c.args.s.now (c.args.at + 1) 0 (omega (arith, e)))

pub returns-in_default : goal.returns-in_default
returns-in_default c = sym (unknown_at c.args.s.now c.args.at (get_or c.args.s.now c.args.at 0) (omega arith))
