-- A text is taken part by part: what stands before a newline is gathered as one part, and the newline ends the line.
-- Assumes nothing.
use Rattle.std.proofs.Common.{ℕ, suc, ◌+◌, ◌≤◌, ◌<◌, Bool, true, false, cond, List, [], ◌∷◌, ◌++◌, ◌≡◌, ◌∙◌, ap, sym, refl, arith, length, take, drop, eqb, ltb, append_assoc, add-one, leb, Some, None}
use mathlib.Core.List.{append-nil}
use borrow.Author.Tests.{lt-ltb, ltb-true, leb-true, leb-false}
use lib.ListN.{length-append}
use lib.Seq.{sets, sets-eq, length-sets, length-take-le, take_at}
use Rattle.text.specs.Fields.{before}
use Rattle.text.specs.Inner.{fits, count_with, buffer_with}
use Rattle.text.proofs.Scan.{take_before}
use Rattle.text.specs.Lines.{newline}
use Rattle.console.specs.Session.{Line, some, too_long, State, longer, line_ends, line_grows, part_grows, session_after}
use Rattle.console_held.specs.Questions.{most_line}
use Rattle.console.specs.Inner.{line_gathered, InLine}

-- a line with a part more, byte by byte
pub with_part : ℕ → List ℕ → Line → Line
with_part most [] l = l
with_part most (c ∷ part) l = with_part most part (longer most c l)

module _ (most : ℕ) where
  pub part_of : (part : List ℕ) (s : State) → part_grows most part s ≡ record { held = s.held; line = with_part most part s.line }
  unfolding part_grows line_grows with_part
  part_of [] s = refl
  part_of (c ∷ part) s = part_of part (line_grows most c s)

  pub stays_long : (part : List ℕ) → with_part most part too_long ≡ too_long
  unfolding with_part longer
  stays_long [] = refl
  stays_long (c ∷ part) = stays_long part

  part_fits : (part l : List ℕ) → length l + length part ≤ most → with_part most part (some l) ≡ some (l ++ part)
  unfolding with_part longer
  part_fits [] l h = rw (append-nil)
  part_fits (c ∷ part) l h =
      let e : ltb (length l) most ≡ true = lt-ltb (length l) most (omega arith) in
      rw (e) (part_fits part (l ++ (c ∷ [])) (omega (arith, length-append l (c ∷ []))) ∙ rw (append_assoc))

  part_too_long : (part l : List ℕ) → length l ≤ most → most < length l + length part → with_part most part (some l) ≡ too_long
  unfolding with_part longer
  part_too_long [] l k h = absurd (omega arith)
  part_too_long (c ∷ part) l k h =
      let m = length-append l (c ∷ []) in
      next (ltb (length l) most) refl (λ (e : length l < most). part_too_long part (l ++ (c ∷ [])) (omega arith) (omega arith))
    where
      next : (b : Bool) → ltb (length l) most ≡ b → (length l < most → with_part most part (some (l ++ (c ∷ []))) ≡ too_long) →
          with_part most part (cond b (some (l ++ (c ∷ []))) too_long) ≡ too_long
      next true e f = f (ltb-true (length l) most e)
      next false e f = stays_long part

  -- a part that goes to the end of the text
  goes_on : (text : List ℕ) (s : State) → length text ≤ length (before newline text) → session_after most text s ≡ part_grows most (before newline text) s
  unfolding session_after before part_grows
  goes_on [] s h = refl
  goes_on (c ∷ text) s h = next (eqb c newline) h (goes_on text (line_grows most c s))
    where
      next : (b : Bool) → suc (length text) ≤ length (cond b [] (c ∷ before newline text)) →
          (length text ≤ length (before newline text) →
          session_after most text (line_grows most c s) ≡ part_grows most (before newline text) (line_grows most c s)) →
          session_after most text (cond b (line_ends s) (line_grows most c s)) ≡ part_grows most (cond b [] (c ∷ before newline text)) s
      next true k e = absurd (omega arith)
      next false k e = e (omega arith)

  ended : List ℕ → List ℕ → State → State
  ended part text s = session_after most (drop (suc (length part)) text) (line_ends (part_grows most part s))

  -- a part that a newline ends
  ends : (text : List ℕ) (s : State) → length (before newline text) < length text →
      session_after most text s ≡ session_after most (drop (suc (length (before newline text))) text) (line_ends (part_grows most (before newline text) s))
  unfolding ended session_after before part_grows
  ends [] s h = absurd (omega arith)
  ends (c ∷ text) s h = next (eqb c newline) h (ends text (line_grows most c s))
    where
      next : (b : Bool) → length (cond b [] (c ∷ before newline text)) < suc (length text) →
          (length (before newline text) < length text →
          session_after most text (line_grows most c s) ≡ ended (before newline text) text (line_grows most c s)) →
          session_after most text (cond b (line_ends s) (line_grows most c s)) ≡ ended (cond b [] (c ∷ before newline text)) (c ∷ text) s
      next true k e = refl
      next false k e = e (omega arith)

  -- by how many bytes stand before the newline
  module _ (text : List ℕ) (s : State) (n : ℕ) (e : n ≡ length (before newline text)) where
    part : take n text ≡ before newline text
    part = rw (e) (take_before newline text)

    pub ends_at : n < length text → session_after most (drop (n + 1) text) (line_ends (part_grows most (take n text) s)) ≡ session_after most text s
    ends_at h = rw (part, e, add-one) (sym (ends text s (rw e at h)))

    pub goes_at : length text ≤ n → part_grows most (take n text) s ≡ session_after most text s
    goes_at h = rw (part) (sym (goes_on text s (rw e at h)))

  -- the line with a part more, in the buffer
  module _ (buffer part : List ℕ) (n : ℕ) (l : length buffer ≡ most) (h : n ≤ most) where
    part_there : n + length part ≤ most → some (take (n + length part) (sets buffer n part)) ≡ with_part most part (some (take n buffer))
    part_there k =
        let t : length (take n buffer) ≡ n = length-take-le n buffer (omega arith) in
        let m = length-append (take n buffer) part ∙ ap (λ (i : ℕ). i + length part) t in
        rw (sets-eq part buffer n (omega arith))
        (ap some (take_at (take n buffer ++ part) (drop (n + length part) buffer) (n + length part) m) ∙ sym (part_fits part (take n buffer) (omega arith)))

    part_over : most < n + length part → too_long ≡ with_part most part (some (take n buffer))
    part_over k =
        let t : length (take n buffer) ≡ n = length-take-le n buffer (omega arith) in
        sym (part_too_long part (take n buffer) (omega arith) (omega arith))

    -- as `gather` of `text` leaves it
    pub line_with : line_gathered (buffer_with buffer n part) (count_with buffer n part) ≡ with_part most part (some (take n buffer))
    unfolding buffer_with count_with fits line_gathered
    line_with = cases (leb (n + length part) (length buffer)) refl
      where
        cases : (b : Bool) → leb (n + length part) (length buffer) ≡ b →
            line_gathered (cond b (sets buffer n part) buffer) (cond b (Some (n + length part)) None) ≡ with_part most part (some (take n buffer))
        cases true e = part_there (omega (arith, leb-true (n + length part) (length buffer) e))
        cases false e = part_over (omega (arith, leb-false (n + length part) (length buffer) e))

-- the line stays in its buffer
pub keeps : (buffer part : List ℕ) (n : ℕ) → length buffer ≡ most_line →
    (length (buffer_with buffer n part) ≡ most_line) × InLine (count_with buffer n part)
unfolding buffer_with count_with fits
keeps buffer part n l = cases (leb (n + length part) (length buffer)) refl
  where
    cases : (b : Bool) → leb (n + length part) (length buffer) ≡ b →
        (length (cond b (sets buffer n part) buffer) ≡ most_line) × InLine (cond b (Some (n + length part)) None)
    cases true e = (length-sets buffer n part ∙ l, omega (arith, leb-true (n + length part) (length buffer) e))
    cases false e = (l, tt {0})
