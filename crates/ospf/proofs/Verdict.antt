-- How an import ends: by 26, by 27, by the first fault of what is taken in turn, or as what is listed in the end; and what each answer says.
-- Assumes nothing.
use Prim.Native.Nat.{ℕ, zero, suc, ◌≤◌, ◌<◌}
use mathlib.Core.Bool.{Bool, true, false, cond}
use mathlib.Core.List.Memᴰ
use mathlib.Core.List.{List, [], ◌∷◌, map, Memᴰ}
use mathlib.Core.Logic.{◌≢◌}
use mathlib.Core.Path.{◌≡◌, refl, sym, ap, subst, ◌∙◌}
use native.Mathlib.Decide.{dec_lt}
use native.Mathlib.Omega.{arith}
use lib.Dec.{eqb}
use lib.ListN.{length, length-map}
use Rattle.topology_types.specs.declared.Answer.{Answer}
use Rattle.topology_types.specs.Outcome.{answer}
use Rattle.stream_rules.specs.declared.Reading.{Reading}
use Rattle.stream_rules.specs.Halves.{StreamListing}
use Rattle.stream_rules.specs.Reading.{refusal, accepted_reading, ended, nothing_listed}
use Rattle.stream_rules.specs.Theorems.{Bytes, Read, EndFaults}
use Rattle.stream_rules.proofs.Kept.{Good}
use Rattle.stream_rules.proofs.Returned.{read_refusal, ended_reads}
use Rattle.stream_rules.proofs.Verdicts.{faults_each}
use Rattle.ospf_lsas.specs.Lsa.{malformed, wrong_sum, Lsa, lsas_from, lsas, first_at, first_malformed_lem, first_wrong_sum_lem}
use Rattle.ospf_lsas.specs.Theorems.{Consecutive, end, faulty, next, FirstFault, no_fault, here, later}
use Rattle.ospf.specs.Import.{Placed, router_of, halves_in, placed_in, taken_to, at_last, importing}
use Rattle.ospf.specs.Theorems.{Taken, AllWhole, SumsRight, FaultAt, AllTaken, ImportAnswers, ImportReturns, ImportSound}
use Rattle.ospf_lsas.proofs.InTurn.{lsas_consecutive, points_at_first}
use Rattle.ospf_lsas.proofs.Ends.{points_within}
use Rattle.ospf.specs.Inner.{taken_in_turn}
use Rattle.ospf.proofs.Steps.{by_26, by_27, by_turns}
use Rattle.ospf.proofs.Turns.{all-taken, first_fault, Outcome, done, failed, outcome}
use Rattle.ospf.proofs.Plain.{Plain, fault_most, taken_good, placed_plain}
use Rattle.ospf.proofs.Listed.{AllPlain, taken_ids, taken_limit}

-- there is one first fault
is_first : {test : List ℕ → Bool} {size : ℕ} {ls : List Lsa} {at : ℕ} → FirstFault test size ls at → first_at test size ls ≡ at
unfolding first_at
is_first no_fault = refl
is_first (here l e) = rw e
is_first (later l e r) = rw e (is_first r)

module _ (file : List ℕ) where
  abbrev all : List Placed
  all = placed_in (lsas file)

  pub data Verdict : Type 0 where
    in_26 : first_malformed_lem file < length file → importing file ≡ refusal 26 (first_malformed_lem file) → Verdict
    in_27 : AllWhole file → first_wrong_sum_lem file < length file → importing file ≡ refusal 27 (first_wrong_sum_lem file) → Verdict
    in-turn : SumsRight file → (number at : ℕ) → FaultAt all (suc number) at → importing file ≡ refusal (suc number) at → Verdict
    at_end : SumsRight file → (p : StreamListing) → Taken all p → importing file ≡ at_last p → Verdict

  no_26 : AllWhole file → length file ≤ first_malformed_lem file
  no_26 whole = omega (arith, (points_within file).none_malformed.1 whole)

  pub taken_turns : SumsRight file → importing file ≡ taken_to at_last nothing_listed all
  unfolding taken_in_turn
  taken_turns (whole, right) = sym (by_turns file (no_26 whole) (omega (arith, (points_within file).no_wrong_sum.1 right)))

  right_verdict : SumsRight file → Verdict
  right_verdict right = cases (outcome all)
    where
      cases : Outcome all → Verdict
      cases (done p t) = at_end right p t (taken_turns right ∙ all-taken at_last t)
      cases (failed number at f) = in-turn right number at f (taken_turns right ∙ first_fault at_last f)

  pub verdict : Verdict
  verdict = cases (dec_lt (first_malformed_lem file) (length file)) (dec_lt (first_wrong_sum_lem file) (length file))
    where
      cases : Dec (first_malformed_lem file < length file) → Dec (first_wrong_sum_lem file < length file) → Verdict
      cases (yes h) d = in_26 h (sym (by_26 file h))
      cases (no h) d = whole_cases ((points_within file).none_malformed.0 (omega (arith, (points_within file).within_26))) d
        where
          whole_cases : AllWhole file → Dec (first_wrong_sum_lem file < length file) → Verdict
          whole_cases whole (yes k) = in_27 whole k (sym (by_27 file (no_26 whole) k))
          whole_cases whole (no k) = right_verdict (whole, (points_within file).no_wrong_sum.0 (omega (arith, (points_within file).within_27)))

number_of : {a b : Answer} → a ≡ b → a.number ≡ b.number
number_of = ap (λ (x : Answer). x.number)

at_of : {a b : Answer} → a ≡ b → a.at ≡ b.at
at_of = ap (λ (x : Answer). x.at)

answer-of : {a b : Reading} → a ≡ b → a.answer ≡ b.answer
answer-of = ap (λ (x : Reading). x.answer)

-- in the end the number is 0 or 12
last_number : (p : StreamListing) (n : ℕ) → n ≢ 0 → n ≢ 12 → (at_last p).answer.number ≡ n → ⊥
unfolding at_last ended refusal accepted_reading
last_number p n o₀ o₁₂ = cases (eqb (length p.contents.ids) 0)
  where
    cases : (b : Bool) → (cond b (refusal 12 0) (accepted_reading p.contents)).answer.number ≡ n → ⊥
    cases true e = o₁₂ (sym e)
    cases false e = o₀ (sym e)

not_last : (p : StreamListing) (n : ℕ) → n ≢ 0 → n ≢ 12 → {at : ℕ} → (at_last p).answer ≡ answer n at → ⊥
not_last p n o₀ o₁₂ a = last_number p n o₀ o₁₂ (number_of a)

no_lsas : {at : ℕ} {s : List ℕ} {ls : List Lsa} → Consecutive at s ls → length ls ≡ 0 → length s ≡ 0
no_lsas end e = refl
no_lsas (faulty s some m) e = absurd (omega (arith, e))
no_lsas (next s m rest) e = absurd (omega (arith, e))

no_bytes : (s : List ℕ) → length s ≡ 0 → s ≡ []
no_bytes [] e = refl
no_bytes (b ∷ s) e = absurd (omega arith)

module _ (file : List ℕ) (bytes : Bytes file) where
  plain_all : SumsRight file → (r : Placed) → Memᴰ r (all file) → Plain r.found
  plain_all right = placed_plain file bytes right.0

  few : SumsRight file → (number at : ℕ) → FaultAt (all file) number at → number ≤ 10
  few right number at f =
      omega (
        arith,
        f.fails,
        fault_most f.listing (plain_all right f.r (subst (Memᴰ f.r) (sym f.turn) (Memᴰ.append_right f.before (Memᴰ.head refl)))),
      )

  module _ (right : SumsRight file) (p : StreamListing) (t : Taken (all file) p) where
    good : Good p
    good = taken_good t (plain_all right)

    ids_are : p.contents.ids ≡ map router_of (lsas file)
    ids_are = taken_ids (lsas file) t (plain_all right)

    import_is : (importing file).answer ≡ (ended false 0 p.contents).answer
    unfolding at_last
    import_is = answer-of (taken_turns file right ∙ all-taken at_last t)

    end_says : (at : ℕ) → EndFaults p.contents false 0 at (ended false 0 p.contents).answer
    end_says at = (faults_each p).at_end false 0 at

  module _ (at : ℕ) where
    on_26 : (importing file).answer ≡ answer 26 at → Verdict file → (at < length file) × FirstFault malformed (length file) (lsas file) at
    unfolding refusal
    on_26 a (in_26 h i) =
        let e = at_of (sym (answer-of i) ∙ a) in
        (omega arith, subst (FirstFault malformed (length file) (lsas file)) e (points_at_first file).0)
    on_26 a (in_27 w h i) = absurd (omega (arith, number_of (sym (answer-of i) ∙ a)))
    on_26 a (in-turn r n k f i) = absurd (omega (arith, number_of (sym (answer-of i) ∙ a), few r (suc n) k f))
    on_26 a (at_end r p t i) = absurd (not_last p 26 (λ e. omega (arith, e)) (λ e. omega (arith, e)) (sym (answer-of i) ∙ a))

    back_26 : (at < length file) × FirstFault malformed (length file) (lsas file) at → (importing file).answer ≡ answer 26 at
    unfolding refusal first_malformed_lem
    back_26 (h, f) = sym (answer-of (by_26 file (rw (is_first f) h))) ∙ ap (answer 26) (is_first f)

    on_27 : (importing file).answer ≡ answer 27 at → Verdict file →
        AllWhole file × (at < length file) × FirstFault wrong_sum (length file) (lsas file) at
    unfolding refusal
    on_27 a (in_26 h i) = absurd (omega (arith, number_of (sym (answer-of i) ∙ a)))
    on_27 a (in_27 w h i) =
        let e = at_of (sym (answer-of i) ∙ a) in
        (w, omega arith, subst (FirstFault wrong_sum (length file) (lsas file)) e (points_at_first file).1)
    on_27 a (in-turn r n k f i) = absurd (omega (arith, number_of (sym (answer-of i) ∙ a), few r (suc n) k f))
    on_27 a (at_end r p t i) = absurd (not_last p 27 (λ e. omega (arith, e)) (λ e. omega (arith, e)) (sym (answer-of i) ∙ a))

    back_27 : AllWhole file × (at < length file) × FirstFault wrong_sum (length file) (lsas file) at → (importing file).answer ≡ answer 27 at
    unfolding refusal first_wrong_sum_lem
    back_27 (w, h, f) = sym (answer-of (by_27 file (no_26 file w) (rw (is_first f) h))) ∙ ap (answer 27) (is_first f)

    on_fault : (number : ℕ) → 1 ≤ number → number ≤ 10 → (importing file).answer ≡ answer number at → Verdict file →
        SumsRight file × FaultAt (all file) number at
    unfolding refusal
    on_fault number least most a (in_26 h i) = absurd (omega (arith, number_of (sym (answer-of i) ∙ a)))
    on_fault number least most a (in_27 w h i) = absurd (omega (arith, number_of (sym (answer-of i) ∙ a)))
    on_fault number least most a (in-turn r n k f i) =
        let e = sym (answer-of i) ∙ a in
        (r, subst (λ (k : ℕ). FaultAt (all file) number k) (at_of e) (subst (λ (n : ℕ). FaultAt (all file) n k) (number_of e) f))
    on_fault number least most a (at_end r p t i) =
        absurd (not_last p number (λ e. omega arith) (λ e. omega arith) (sym (answer-of i) ∙ a))

    back_fault : (number : ℕ) → 1 ≤ number → SumsRight file × FaultAt (all file) number at → (importing file).answer ≡ answer number at
    unfolding refusal
    back_fault zero least (r, f) = absurd (omega arith)
    back_fault (suc number) least (r, f) = answer-of (taken_turns file r ∙ first_fault at_last f)

    -- what is not met before the end
    last_of : (number : ℕ) → number ≢ 26 → number ≢ 27 → ((n : ℕ) → suc n ≤ 10 → number ≢ suc n) → (importing file).answer ≡ answer number at →
        Verdict file → (p : StreamListing) × SumsRight file × Taken (all file) p × ((ended false 0 p.contents).answer ≡ answer number at)
    unfolding refusal
    last_of number o₂₆ o₂₇ o a (in_26 h i) = absurd (o₂₆ (sym (number_of (sym (answer-of i) ∙ a))))
    last_of number o₂₆ o₂₇ o a (in_27 w h i) = absurd (o₂₇ (sym (number_of (sym (answer-of i) ∙ a))))
    last_of number o₂₆ o₂₇ o a (in-turn r n k f i) = absurd (o n (few r (suc n) k f) (sym (number_of (sym (answer-of i) ∙ a))))
    last_of number o₂₆ o₂₇ o a (at_end r p t i) = (p, r, t, sym (import_is r p t) ∙ a)

    on_12 : (importing file).answer ≡ answer 12 at → (at ≡ 0) × (file ≡ [])
    on_12 a =
        let (p, r, t, e) = last_of 12 (λ e. omega (arith, e)) (λ e. omega (arith, e)) (λ n h e. omega (arith, e)) a (verdict file) in
        let (z, f, none) = (end_says r p t at).says_12.0 e in
        (z, no_bytes file (no_lsas (lsas_consecutive file) (omega (arith, none, ap length (ids_are r p t), length-map (lsas file) router_of))))

    on_0 : (importing file).answer ≡ answer 0 at → (at ≡ 0) × ((p : StreamListing) × AllTaken file p)
    on_0 a =
        let (p, r, t, e) = last_of 0 (λ e. omega (arith, e)) (λ e. omega (arith, e)) (λ n h e. omega (arith, e)) a (verdict file) in
        let (z, f, some) = (end_says r p t at).says_0.0 e in
        (z, (p, record { right = r; taken = t; some_router = some }))

    back_0 : (at ≡ 0) × ((p : StreamListing) × AllTaken file p) → (importing file).answer ≡ answer 0 at
    back_0 (z, (p, k)) =
        let r = k.right in
        let t = k.taken in
        import_is r p t ∙ (end_says r p t at).says_0.1 (z, refl, k.some_router)

empty : (importing []).answer ≡ answer 12 0
unfolding importing first_malformed_lem first_wrong_sum_lem first_at lsas lsas_from placed_in halves_in taken_to at_last ended nothing_listed refusal
empty = refl

pub import_answers : ImportAnswers
import_answers file at bytes =
    record {
      says_26 = (λ a. on_26 file bytes at a (verdict file), back_26 file bytes at);
      says_27 = (λ a. on_27 file bytes at a (verdict file), back_27 file bytes at);
      says_fault = λ number least most. (λ a. on_fault file bytes at number least most a (verdict file), back_fault file bytes at number least);
      says_12 = (on_12 file bytes at, λ (z, e). rw (e, z) empty);
      says_0 = (on_0 file bytes at, back_0 file bytes at);
    }

pub import_sound : ImportSound
unfolding at_last
import_sound file bytes = cases (verdict file)
  where
    cases : Verdict file → Read (importing file)
    cases (in_26 h i) = subst Read (sym i) (read_refusal 26 (first_malformed_lem file) (λ e. omega (arith, e)))
    cases (in_27 w h i) = subst Read (sym i) (read_refusal 27 (first_wrong_sum_lem file) (λ e. omega (arith, e)))
    cases (in-turn r n k f i) = subst Read (sym i) (read_refusal (suc n) k (λ e. omega (arith, e)))
    cases (at_end r p t i) = subst Read (sym i) (ended_reads p (good file bytes r p t) false 0)

-- an import with number 0 is what is listed in the end
pub ended_so : (file : List ℕ) → Bytes file → (importing file).answer.number ≡ 0 →
    (p : StreamListing) × AllPlain (all file) × Taken (all file) p × (importing file ≡ ended false 0 p.contents)
unfolding at_last
ended_so file bytes z =
    let (p, r, t, e) =
    last_of file bytes (importing file).answer.at 0 (λ e. omega (arith, e)) (λ e. omega (arith, e)) (λ n h e. omega (arith, e))
    (ap (λ (n : ℕ). answer n (importing file).answer.at) z) (verdict file) in
    (p, plain_all file bytes r, t, taken_turns file r ∙ all-taken at_last t)

pub import_returns : ImportReturns
unfolding router_of
import_returns file bytes z =
    let (p, plain, t, is) = ended_so file bytes z in (
      p,
      t,
      record {
        topology =
            ap (λ (x : Reading). x.topology) is ∙ (faults_each p).returns false 0 (sym (ap (λ (x : Reading). x.answer.number) is) ∙ z);
        ids = taken_ids (lsas file) t plain;
        limit = taken_limit t plain;
      },
    )
