-- Each end is the first test that fails.
-- Assumes nothing.
use Rattle.std.proofs.Common.{◌≡◌, ◌≤◌, length, ap, sym, ◌∙◌, inl, inr, arith, rules, Err}
use Rattle.te.specs.SubTlvs.{type_of, span_of, found_as}
use Rattle.te.proofs.SubTlvs.{type_at, length_at, number-at, header_cut, value_cut, low, high, wrong_length, in_all, span-at}
use Rattle.te.proofs.Says.{split}
use Rattle.te.proofs.reading.sub_in.Goals as goal

pub returns-then-s-lt4 : goal.returns-then-s-lt4
returns-then-s-lt4 c = header_cut c.args.s.now c.if-s-lt4.true

pub returns-then-s-span_of : goal.returns-then-s-span_of
returns-then-s-span_of c = value_cut c.args.s.now c.if-s-lt4.false (omega (arith, c.span_of.ensures))

pub returns-then-not-contains : goal.returns-then-not-contains
returns-then-not-contains c =
    let s = c.args.s.now in
    let whole : span_of s ≤ length s = omega (arith, c.span_of.ensures) in
    let kind : type_of s ≡ c.be16-kind.result = type_at s c.if-s-lt4.false ∙ sym c.be16-kind.ensures in
    let outside : 5 ≤ type_of s → type_of s ≤ 7 → ⊥ = λ from to. let f : 5 ≤ c.be16-kind.result = omega arith in let t : c.be16-kind.result ≤ 7 = omega arith in search rules in
    elim (split (type_of s) 5) [
      | inl l ↦ low s c.if-s-lt4.false whole l
      | inr from ↦ elim (split 7 (type_of s)) [ inl l ↦ high s c.if-s-lt4.false whole from l | inr to ↦ absurd (outside from to) ]
    ]

pub returns-then-length-ne4 : goal.returns-then-length-ne4
returns-then-length-ne4 c =
    let s = c.args.s.now in
    let whole : span_of s ≤ length s = omega (arith, c.span_of.ensures) in
    let kind : type_of s ≡ c.be16-kind.result = type_at s c.if-s-lt4.false ∙ sym c.be16-kind.ensures in
    let from : 5 ≤ c.be16-kind.result = search rules in
    let to : c.be16-kind.result ≤ 7 = search rules in
    wrong_length s c.if-s-lt4.false whole (omega arith) (omega arith)
    (λ e. c.if-length-ne4.true (c.be16-length.ensures ∙ sym (length_at s c.if-s-lt4.false) ∙ e))

pub be32-number-requires : goal.be32-number-requires
be32-number-requires c =
    omega (arith, span-at c.args.s.now c.if-s-lt4.false, c.span_of.ensures, c.be16-length.ensures)

pub returns-in_err-sub : goal.returns-in_err-sub
returns-in_err-sub c =
    let s = c.args.s.now in
    let e : c.from_residual.result ≡ Err c.in_err-sub.field-0.0 = search rules in
    let header = c.if-s-lt4.false in
    ap found_as e
    ∙ c.in_err-sub.ensures
    ∙ in_all s header (type_at s header ∙ sym c.be16-kind.ensures) (number-at s ∙ sym c.be32-number.ensures) (omega (arith, c.span_of.ensures)) (search rules)
    (search rules) (length_at s header ∙ sym c.be16-length.ensures ∙ c.if-length-ne4.false)

pub returns : goal.returns
returns c =
    let s = c.args.s.now in
    let header = c.if-s-lt4.false in
    c.in_ok-sub.ensures
    ∙ in_all s header (type_at s header ∙ sym c.be16-kind.ensures) (number-at s ∙ sym c.be32-number.ensures) (omega (arith, c.span_of.ensures)) (search rules)
    (search rules) (length_at s header ∙ sym c.be16-length.ensures ∙ c.if-length-ne4.false)
