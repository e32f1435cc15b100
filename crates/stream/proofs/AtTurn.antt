-- The reading of a stream before one of its records: it is that of the records from there on. A record that has no fault is added, a fault or the end
-- record gives what the reading returns.
-- Assumes nothing.
use Prim.Native.Nat.{ℕ, zero, suc, ◌+◌, ◌-◌, ◌≤◌, ◌<◌}
use mathlib.Core.Bool.{false}
use mathlib.Core.List.Memᴰ
use mathlib.Core.List.{List, [], ◌∷◌}
use mathlib.Core.Logic.{◌≢◌, ⊎_elim}
use mathlib.Core.Path.{◌≡◌, refl, sym, ◌∙◌}
use native.Mathlib.Decide.{dec_lt}
use native.Mathlib.Omega.{arith}
use borrow.Author.Tests.{lt-ltb, le-ltb}
use lib.Dec.{ltb}
use lib.ListN.{length, get_or, drop, length-drop, drop_of_length-le}
use lib.Seq.{drop-drop}
use Rattle.stream_rules.specs.Record.{Record}
use Rattle.stream_rules.specs.Record as record_of
use Rattle.stream_rules.specs.declared.Reading.{Reading}
use Rattle.stream_rules.specs.Halves.{StreamListing}
use Rattle.stream_rules.specs.Stream.{record_in, records}
use Rattle.stream_rules.specs.Reading.{refusal, fault, added, width, is_end, ended, unless, in_turn, nothing_listed, reading}
use Rattle.stream_rules.specs.Theorems.{Bytes}
use Rattle.stream_rules.proofs.Stream.{WholeRecord, whole_record, some_records}
use Rattle.stream_rules.proofs.Faults.{unless_fault}

pub record Turn (s : List ℕ) (p : StreamListing) (at : ℕ) : Type 0 where
  pub inside : at ≤ length s
  pub goes_on : reading s ≡ in_turn at p (records 0 (drop at s))

pub turn_first : (s : List ℕ) → Turn s nothing_listed 0
unfolding reading
turn_first s = record { inside = omega arith; goes_on = refl }

-- a record without a fault goes on
unless_none : (number at : ℕ) (r : Reading) → number ≡ 0 → unless number at r ≡ r
unfolding unless
unless_none zero at r e = refl
unless_none (suc number) at r e = absurd (omega arith)

-- past the end there is no record
first-is : (s : List ℕ) → 0 < length s → (rest : List Record) × (records 0 s ≡ record_in s ∷ rest)
unfolding records
first-is [] h = absurd (omega arith)
first-is (kind ∷ rest) h = (_, refl)

module _ (s : List ℕ) (p : StreamListing) (at : ℕ) (turn : Turn s p at) where
  pub turn_past : length s ≤ at → reading s ≡ refusal 1 at
  unfolding records in_turn
  turn_past h = turn.goes_on ∙ rw (drop_of_length-le s h)

  left_over : ltb 0 (length (drop 1 (drop at s))) ≡ ltb (at + 1) (length s)
  left_over = cases (dec_lt (at + 1) (length s))
    where
      long : length (drop 1 (drop at s)) ≡ length s - at - 1
      long = rw (length-drop 1 (drop at s), length-drop at s)

      cases : Dec (at + 1 < length s) → ltb 0 (length (drop 1 (drop at s))) ≡ ltb (at + 1) (length s)
      cases (yes h) = lt-ltb 0 (length (drop 1 (drop at s))) (omega (arith, long)) ∙ sym (lt-ltb (at + 1) (length s) h)
      cases (no h) = le-ltb 0 (length (drop 1 (drop at s))) (omega (arith, long)) ∙ sym (le-ltb (at + 1) (length s) (omega arith))

  pub turn_end : record_in (drop at s) ≡ record_of.End → reading s ≡ ended (ltb (at + 1) (length s)) at p.contents
  unfolding in_turn unless fault is_end width
  turn_end e =
      let none : fault p (record_in (drop at s)) ≡ 0 = rw e refl in
      let w = whole_record p (drop at s) none in
      turn.goes_on ∙ rw (w.next, e, some_records, left_over)

  turn_fault : fault p (record_in (drop at s)) ≢ 0 → reading s ≡ refusal (fault p (record_in (drop at s))) at
  unfolding in_turn fault record_in
  turn_fault other = cases (dec_lt at (length s))
    where
      cases : Dec (at < length s) → reading s ≡ refusal (fault p (record_in (drop at s))) at
      cases (yes h) =
          let (rest, e) = first-is (drop at s) (simp length-drop (omega arith)) in
          turn.goes_on ∙ rw e (unless_fault _ at _ other)
      cases (no h) = let past : length s ≤ at = omega arith in turn_past past ∙ rw (drop_of_length-le s past)

  pub turn_inside : record_in (drop at s) ≡ record_of.End → at < length s
  unfolding fault
  turn_inside e = let w = whole_record p (drop at s) (rw e refl) in omega (arith, w.some, w.fits, length-drop at s)

  module _ (none : fault p (record_in (drop at s)) ≡ 0) where
    w : WholeRecord (drop at s)
    w = whole_record p (drop at s) none

    turn_more : 1 ≤ width (record_in (drop at s))
    turn_more = w.some

    turn_fits : at + width (record_in (drop at s)) ≤ length s
    turn_fits = omega (arith, w.fits, length-drop at s, turn.inside)

    turn_next : is_end (record_in (drop at s)) ≡ false → Turn s (added p (record_in (drop at s))) (at + width (record_in (drop at s)))
    unfolding in_turn
    turn_next e =
        record { inside = turn_fits; goes_on = turn.goes_on ∙ rw w.next (unless_none _ at _ none ∙ rw (e, drop-drop)) }

  -- the record as the code has it: its fault refuses, else the reading goes on
  module _ (r : Record) (is : r ≡ record_in (drop at s)) where
    pub turn_refused : fault p r ≢ 0 → refusal (fault p r) at ≡ reading s
    turn_refused other = rw is (sym (turn_fault (rw is at other)))

    pub turn_taken : fault p r ≡ 0 → is_end r ≡ false → Turn s (added p r) (at + width r) × (1 ≤ width r)
    turn_taken none e =
        let there : fault p (record_in (drop at s)) ≡ 0 = rw is at none in
        rw is (turn_next there (rw is at e), turn_more there)

-- bytes, by their places
pub each_byte : (s : List ℕ) → ((i : ℕ) → get_or s i 0 < 256) → Bytes s
each_byte [] h b m = absurd (Memᴰ.not-nil m)
each_byte (c ∷ s) h b m = ⊎_elim (λ e. rw e (h 0)) (each_byte s (λ i. h (suc i)) b) (Memᴰ.cases_cons m)
