-- The bytes so far are digits, and their number is not too large.
-- Assumes nothing.
use Rattle.std.proofs.Common.{◌∙◌, ◌+◌, ◌-◌, ◌*◌, sym, ap, arith, get_or, drop, Some}
use Rattle.text.specs.Numbers.{onto}
use Rattle.text.proofs.Scan.{next, end}
use Rattle.text.proofs.Numbers.{no_number, too_large, number_is, digit_at, onto_grows}
use Rattle.text.proofs.unchecked.fields.number.Goals as goal

pub returns-then-not-is_numeral : goal.returns-then-not-is_numeral
returns-then-not-is_numeral c = sym (no_number _ _ (sym c.is_numeral.ensures ∙ c.if-not-is_numeral.true))

pub overflow_sub-value : goal.overflow_sub-value
overflow_sub-value c = (digit_at _ _ c.loop-c.invariant.digits c.loop-c-test.true).0

pub returns-then-most-value : goal.returns-then-most-value
unfolding onto
returns-then-most-value c =
    let s = c.args.s.now in
    let l = c.loop-c in
    let more = onto_grows (l.value * 10 + (get_or s l.c-index 0 - 48)) (drop (l.c-index + 1) s) in
    sym (too_large _ _ l.invariant.digits (omega (arith, next l.invariant.left c.loop-c-test.true, more)))

pub loop-c-preserved : goal.loop-c-preserved
unfolding onto
loop-c-preserved c =
    let l = c.loop-c in
    record { in_range = omega arith; digits = l.invariant.digits; left = record { inside = omega arith; makes = next l.invariant.left c.loop-c-test.true } }

pub returns : goal.returns
unfolding onto
returns c =
    let l = c.loop-c in
    let e = end l.invariant.left (omega arith) in
    ap Some e ∙ sym (number_is _ _ l.invariant.digits (omega arith))
