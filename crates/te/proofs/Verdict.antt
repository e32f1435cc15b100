-- A value ends at its first fault, or without one, and then with something to use or with nothing: each end has its answer, so each answer has its end.
-- Assumes nothing.
use Prim.Native.Nat.{ℕ, ◌<◌}
use mathlib.Core.List.{List, [], ◌∷◌, Memᴰ}
use mathlib.Core.Logic.{◌↔◌, ◌⊎◌, inl, inr, ⊎_elim}
use mathlib.Core.Path.{◌≡◌, refl, sym, ap, subst, ◌∙◌}
use native.Mathlib.Omega.{arith}
use lib.ListN.{length, drop}
use Rattle.topology_types.specs.declared.Answer.{Answer}
use Rattle.topology_types.specs.Outcome.{answer}
use Rattle.te.specs.SubTlvs.{Refused}
use Rattle.te.specs.declared.SubTlv.{SubTlv}
use Rattle.te.specs.declared.CostAnswer.{CostAnswer}
use Rattle.te.specs.SubTlvs.{sub_in}
use Rattle.te.specs.Cost.{nothing, refused_cost, costing}
use Rattle.te.specs.Theorems.{SubsBefore, OneUsable, CostSays, AnswersEach, CostsReturned, RefusedZero}
use Rattle.te.proofs.Turn.{Good, good}
use Rattle.te.proofs.Says.{split}
use Rattle.te.proofs.Reaching.{gone, refuses, faulty, whole, ends, costless, costly, either}
use Rattle.te.proofs.Prices.{by_use, of_use, cost-of}

-- the answer, by the way the value ends
pub data Verdict (value : List ℕ) (a : Answer) : Type 0 where
  at_sub : (at number : ℕ) (subs : List SubTlv) → SubsBefore value at subs → at < length value → sub_in (drop at value) ≡ Refused number →
      a ≡ answer number at → Verdict value a
  at_end : (subs : List SubTlv) → SubsBefore value (length value) subs → (OneUsable subs → ⊥) → a ≡ answer 29 (length value) → Verdict value a
  accepted : (subs : List SubTlv) → SubsBefore value (length value) subs → OneUsable subs → a ≡ answer 0 0 → Verdict value a

verdict : (value : List ℕ) → Verdict value (costing value).answer
unfolding refused_cost
verdict value = elim (ends value) [
  | faulty at number subs p h e ↦ at_sub at number subs p h e (ap (λ (c : CostAnswer). c.answer) (refuses number p h e))
  | whole subs p ↦
      let g = gone p in
      elim (either p) [
        | inl z ↦ at_end subs p (λ u. by_use g.kept g.ahead.kept u z) (ap (λ (c : CostAnswer). c.answer) (costless p z))
        | inr n ↦ accepted subs p (of_use g.kept g.ahead.kept n) (ap (λ (c : CostAnswer). c.answer) (costly p n))
      ]
]

-- the numbers of a fault
numbers : (s : List ℕ) (number : ℕ) → sub_in s ≡ Refused number → (number ≡ 28) ⊎ (number ≡ 29)
numbers s number e = let (low, high) = subst Good e (good s) in elim (split number 29) [ inl l ↦ inl (omega arith) | inr l ↦ inr (omega arith) ]

number_of : {a b : Answer} → a ≡ b → a.number ≡ b.number
number_of e = ap (λ (a : Answer). a.number) e

at_of : {a b : Answer} → a ≡ b → a.at ≡ b.at
at_of e = ap (λ (a : Answer). a.at) e

module _ (value : List ℕ) (at : ℕ) where
  -- a fault at a sub-TLV, of the number that is answered
  moved_there : (number at' k : ℕ) (subs : List SubTlv) → SubsBefore value at' subs → at' < length value → sub_in (drop at' value) ≡ Refused k →
      answer k at' ≡ answer number at → (s : List SubTlv) × SubsBefore value at s × (at < length value) × (sub_in (drop at value) ≡ Refused number)
  moved_there number at' k subs p h e q =
      rw (← number_of q, ← at_of q) (subs, p, h, e)

  says_28 : ((costing value).answer ≡ answer 28 at) ↔
      ((subs : List SubTlv) × SubsBefore value at subs × (at < length value) × (sub_in (drop at value) ≡ Refused 28))
  unfolding refused_cost
  says_28 = (
    λ q. elim (verdict value) [
      | at_sub at' k subs p h e is ↦ moved_there 28 at' k subs p h e (sym is ∙ q)
      | at_end subs p u is ↦ absurd (omega (arith, number_of (sym is ∙ q)))
      | accepted subs p u is ↦ absurd (omega (arith, number_of (sym is ∙ q)))
    ],
    λ (subs, p, h, e). ap (λ (c : CostAnswer). c.answer) (refuses 28 p h e),
  )

  says_29 : ((costing value).answer ≡ answer 29 at) ↔
      ((subs : List SubTlv) × SubsBefore value at subs ×
      (((at < length value) × (sub_in (drop at value) ≡ Refused 29)) ⊎ ((at ≡ length value) × (OneUsable subs → ⊥))))
  unfolding refused_cost
  says_29 = (
    λ q. elim (verdict value) [
      | at_sub at' k subs p h e is ↦ let (s, r, l, t) = moved_there 29 at' k subs p h e (sym is ∙ q) in (s, r, inl (l, t))
      | at_end subs p u is ↦
          let end : length value ≡ at = at_of (sym is ∙ q) in
          (subs, subst (λ (i : ℕ). SubsBefore value i subs) end p, inr (sym end, u))
      | accepted subs p u is ↦ absurd (omega (arith, number_of (sym is ∙ q)))
    ],
    λ (subs, p, w). ⊎_elim (λ (h, e). ap (λ (c : CostAnswer). c.answer) (refuses 29 p h e)) (λ (end, u). at_the_end subs p end u) w,
  )
    where
      at_the_end : (subs : List SubTlv) → SubsBefore value at subs → at ≡ length value → (OneUsable subs → ⊥) → (costing value).answer ≡ answer 29 at
      at_the_end subs p end u =
          let p' : SubsBefore value (length value) subs = subst (λ (i : ℕ). SubsBefore value i subs) end p in
          let g = gone p' in
          elim (either p') [
            | inl z ↦ ap (λ (c : CostAnswer). c.answer) (costless p' z) ∙ ap (answer 29) (sym end)
            | inr n ↦ absurd (u (of_use g.kept g.ahead.kept n))
          ]

  says_0 : ((costing value).answer ≡ answer 0 at) ↔ ((at ≡ 0) × ((subs : List SubTlv) × SubsBefore value (length value) subs × OneUsable subs))
  says_0 = (
    λ q. elim (verdict value) [
      | at_sub at' k subs p h e is ↦
          absurd (⊎_elim (λ l. omega (arith, number_of (sym is ∙ q))) (λ l. omega (arith, number_of (sym is ∙ q))) (numbers (drop at' value) k e))
      | at_end subs p u is ↦ absurd (omega (arith, number_of (sym is ∙ q)))
      | accepted subs p u is ↦ (sym (at_of (sym is ∙ q)), (subs, p, u))
    ],
    λ (none, (subs, p, u)).
        let g = gone p in
        ap (λ (c : CostAnswer). c.answer) (costly p (by_use g.kept g.ahead.kept u)) ∙ ap (answer 0) (sym none),
  )

  pub answers_at : CostSays value at
  answers_at = record { says_28 = says_28; says_29 = says_29; says_0 = says_0; no_other = among }
    where
      among : Memᴰ (costing value).answer.number (0 ∷ 28 ∷ 29 ∷ [])
      among = elim (verdict value) [
        | at_sub at' k subs p h e is ↦
            ⊎_elim (λ l. Memᴰ.tail (Memᴰ.head (number_of is ∙ l))) (λ l. Memᴰ.tail (Memᴰ.tail (Memᴰ.head (number_of is ∙ l))))
            (numbers (drop at' value) k e)
        | at_end subs p u is ↦ Memᴰ.tail (Memᴰ.tail (Memᴰ.head (number_of is)))
        | accepted subs p u is ↦ Memᴰ.head (number_of is)
      ]

pub answers_each : AnswersEach
answers_each value at = answers_at value at

pub costs_returned : CostsReturned
unfolding refused_cost
costs_returned value z = elim (ends value) [
  | faulty at number subs p h e ↦
      let is : number ≡ 0 = sym (ap (λ (c : CostAnswer). c.answer.number) (refuses number p h e)) ∙ z in
      absurd (⊎_elim (λ l. omega arith) (λ l. omega arith) (numbers (drop at value) number e))
  | whole subs p ↦
      let g = gone p in
      elim (either p) [
        | inl free ↦ absurd (omega (arith, sym (ap (λ (c : CostAnswer). c.answer.number) (costless p free)) ∙ z))
        | inr n ↦ rw (costly p n) (subs, p, g.kept, cost-of g.kept g.ahead.kept n)
      ]
]

pub refused_zero : RefusedZero
unfolding refused_cost nothing
refused_zero value f = elim (ends value) [
  | faulty at number subs p h e ↦ rw (refuses number p h e) (record { cost = refl; link = refl })
  | whole subs p ↦ elim (either p) [
    | inl z ↦ rw (costless p z) (record { cost = refl; link = refl })
    | inr n ↦ absurd (f (ap (λ (c : CostAnswer). c.answer.number) (costly p n)))
  ]
]
