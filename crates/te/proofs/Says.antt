-- Each rule of what a sub-TLV says is one way through the tests of the definition, and every sub-TLV goes one of these ways.
-- Assumes nothing.
use Prim.Native.Nat.{ℕ, ◌≤◌, ◌<◌}
use mathlib.Core.Bool.{Bool, true, false}
use mathlib.Core.List.{List}
use mathlib.Core.Logic.{◌≢◌, ◌⊎◌, inl, inr}
use mathlib.Core.Path.{◌≡◌, refl, sym, subst, ◌∙◌}
use native.Mathlib.Omega.{arith}
use borrow.Author.Tests.{ltb-true, ltb-false}
use lib.Dec.{ltb, eqb, eqb→eq}
use lib.ListN.{length}
use Rattle.network.proofs.Tests.{truth, as_true, as_false, eq_test}
use Rattle.stream_rules.proofs.Stream.{four-at}
use Rattle.te.specs.SubTlvs.{Found, Refused, Skipped}
use Rattle.te.specs.SubTlvs.{type_of, length_of, span_of, number_in, usable, case_of, judged, sub_in}
use Rattle.te.specs.Theorems as says
use Rattle.stream_rules.specs.Theorems.{two_at, four_at}
use Rattle.te.specs.Theorems.{single, Span, Whole, SubSays, SubsEach}
use Rattle.te.proofs.SubTlvs as laws
use Rattle.te.proofs.Judged as judging

pub split : (a b : ℕ) → (a < b) ⊎ (b ≤ a)
split a b = go (ltb a b) refl
  where
    go : (t : Bool) → ltb a b ≡ t → (a < b) ⊎ (b ≤ a)
    go true e = inl (ltb-true a b e)
    go false e = inr (ltb-false a b e)

module _ {s : List ℕ} where
  -- the definition's span is the one span
  pub spans : 4 ≤ length s → Span s (span_of s)
  unfolding span_of
  spans h =
      let is = laws.length_at s h in
      record { header = h; multiple = omega arith; value = omega (arith, is); padding = omega (arith, is) }

  pub one_span : {n : ℕ} → Span s n → n ≡ span_of s
  one_span p =
      let q = spans p.header in
      omega (arith, p.multiple, q.multiple, p.value, q.value, p.padding, q.padding)

  -- the fields of a whole sub-TLV
  module _ (w : Whole s) where
    header : 4 ≤ length s
    header = w.span.header

    fits : span_of s ≤ length s
    fits = omega (arith, one_span w.span, w.fits)

    type_is : type_of s ≡ two_at s 0
    type_is = laws.type_at s header

    length_is : length_of s ≡ two_at s 2
    length_is = laws.length_at s header

    number_is : two_at s 2 ≡ 4 → number_in s ≡ four_at s 4
    number_is e = laws.number-at s ∙ four-at s 4 (omega (arith, w.span.value, w.fits))

    low : two_at s 0 < 5 → sub_in s ≡ Skipped
    low h = sym (laws.low s header fits (omega (arith, type_is)))

    high : 7 < two_at s 0 → sub_in s ≡ Skipped
    high h = sym (laws.high s header fits (omega (arith, type_is)) (omega (arith, type_is)))

    module _ (from : 5 ≤ two_at s 0) (to : two_at s 0 ≤ 7) where
      wrong : two_at s 2 ≢ 4 → sub_in s ≡ Refused 29
      wrong h = sym (laws.wrong_length s header fits (omega (arith, type_is)) (omega (arith, type_is)) (λ e. h (sym length_is ∙ e)))

      right : two_at s 2 ≡ 4 → sub_in s ≡ judged (case_of (two_at s 0) (four_at s 4))
      right e =
          rw (← type_is, ← number_is e)
          (sym (laws.right_length s header fits (omega (arith, type_is)) (omega (arith, type_is)) (length_is ∙ e)))

  -- a rule says what the definition does
  by_rule : (f : Found) → SubSays s f → sub_in s ≡ f
  by_rule f (says.no_header h) = sym (laws.header_cut s h)
  by_rule f (says.cut-short n p h) = sym (laws.value_cut s p.header (omega (arith, one_span p)))
  by_rule f (says.wrong_length w from to h) = wrong w from to h
  by_rule f (says.unusable w (inl k) e u) = right w (omega arith) (omega arith) e ∙ sym (judging.refused _ _ (omega arith) (as_false (usable (single s)) u))
  by_rule f (says.unusable w (inr k) e u) = right w (omega arith) (omega arith) e ∙ sym (judging.refused _ _ (omega arith) (as_false (usable (single s)) u))
  by_rule f (says.other_type w (inl h)) = low w h
  by_rule f (says.other_type w (inr h)) = high w h
  by_rule f (says.metric w k e) = right w (omega arith) (omega arith) e ∙ sym (judging.metric _ _ k)
  by_rule f (says.maximum w k e u) = right w (omega arith) (omega arith) e ∙ sym (judging.maximum _ _ (omega arith) (as_true (usable (single s)) u) k)
  by_rule f (says.reservable w k e u) =
      right w (omega arith) (omega arith) e ∙ sym (judging.reservable _ _ (omega arith) (as_true (usable (single s)) u) (omega arith))

  -- and what the definition says is by a rule
  module _ (w : Whole s) where
    bandwidth : (two_at s 0 ≡ 6) ⊎ (two_at s 0 ≡ 7) → two_at s 2 ≡ 4 → SubSays s (sub_in s)
    bandwidth (inl k) e = elim (truth (usable (single s))) [
      | inl u ↦ subst (SubSays s) (sym (by_rule _ (says.maximum w k e u))) (says.maximum w k e u)
      | inr u ↦ subst (SubSays s) (sym (by_rule _ (says.unusable w (inl k) e u))) (says.unusable w (inl k) e u)
    ]
    bandwidth (inr k) e = elim (truth (usable (single s))) [
      | inl u ↦ subst (SubSays s) (sym (by_rule _ (says.reservable w k e u))) (says.reservable w k e u)
      | inr u ↦ subst (SubSays s) (sym (by_rule _ (says.unusable w (inr k) e u))) (says.unusable w (inr k) e u)
    ]

    of_length_4 : two_at s 2 ≡ 4 → 5 ≤ two_at s 0 → two_at s 0 ≤ 7 → SubSays s (sub_in s)
    of_length_4 e from to = elim (split (two_at s 0) 6) [
      | inl h ↦ let k : two_at s 0 ≡ 5 = omega arith in subst (SubSays s) (sym (by_rule _ (says.metric w k e))) (says.metric w k e)
      | inr h ↦ elim (split (two_at s 0) 7) [ inl l ↦ bandwidth (inl (omega arith)) e | inr l ↦ bandwidth (inr (omega arith)) e ]
    ]

    typed : SubSays s (sub_in s)
    typed = elim (split (two_at s 0) 5) [
      | inl h ↦ subst (SubSays s) (sym (low w h)) (says.other_type w (inl h))
      | inr from ↦ elim (split 7 (two_at s 0)) [
        | inl h ↦ subst (SubSays s) (sym (high w h)) (says.other_type w (inr h))
        | inr to ↦ elim (truth (eqb (two_at s 2) 4)) [
          | inl t ↦ of_length_4 (eqb→eq (two_at s 2) 4 t) from to
          | inr other ↦
              let h : two_at s 2 ≢ 4 = λ e. other (eq_test e) in
              subst (SubSays s) (sym (wrong w from to h)) (says.wrong_length w from to h)
        ]
      ]
    ]

  says_all : SubSays s (sub_in s)
  says_all = elim (split (length s) 4) [
    | inl h ↦ subst (SubSays s) (laws.header_cut s h) (says.no_header h)
    | inr header ↦ elim (split (length s) (span_of s)) [
      | inl h ↦ subst (SubSays s) (laws.value_cut s header h) (says.cut-short (span_of s) (spans header) h)
      | inr whole ↦ typed (record { n = span_of s; span = spans header; fits = whole })
    ]
  ]

pub subs_each : SubsEach
subs_each s f = (λ e. subst (SubSays s) e says_all, by_rule f)
