-- A loop that goes over a text has the rest of it before itself: what a function of `specs/` makes of that rest, by the byte that comes next.
-- Assumes nothing.
use Prim.Native.Nat.{ℕ, zero, suc, ◌+◌, ◌-◌, ◌≤◌, ◌<◌}
use mathlib.Core.Bool.{Bool, true, false, cond, ◌&&◌}
use mathlib.Core.List.{List, [], ◌∷◌}
use mathlib.Core.Logic.{◌≢◌}
use mathlib.Core.Path.{◌≡◌, refl, ap, sym, subst}
use native.Mathlib.Numerals.{add-one}
use native.Mathlib.Omega.{arith}
use borrow.Author.Tests.{ltb-false}
use lib.Dec.{T, eqb}
use lib.Pointwise.{pointwise}
use lib.ListN.{length, get_or, drop, take, drop_of_length-le, length-drop}
use lib.Seq.{drop-cons, take_all}
use Rattle.network.specs.Lists.{every, same_numbers}
use Rattle.std.proofs.Common.{Option, Some, None, Bor, nat_lt}
use Rattle.std.specs.List.{count_by, position, position_or_len, slice_get, slice_split, onto_first}
use Rattle.std.specs.Option.{unwrap_or, option_map, UnwrapsOrElse}
use Rattle.std.proofs.lemmas.List.Recursion.{is_count_by, is_position_or_len}
use Rattle.text.specs.Fields.{space, before, after, field, spaces}

pub after_none : (s : List ℕ) → after 0 s ≡ s
unfolding after
after_none [] = refl
after_none (c ∷ s) = refl

module _ (s : List ℕ) (i : ℕ) where
  pub rest : i < length s → drop i s ≡ get_or s i 0 ∷ drop (i + 1) s
  rest h = rw (add-one) (drop-cons s i 0 h)

  pub no_rest : length s ≤ i → drop i s ≡ []
  no_rest h = drop_of_length-le s h

  -- a part that goes to the end
  pub to_end : take (length s - i) (drop i s) ≡ drop i s
  to_end = take_all (length s - i) (drop i s) (omega (arith, length-drop i s))

-- a loop that is at i of a text: what it has, with the rest behind it, makes what the whole makes
pub record Left {A : Type 0} (make : List ℕ → A) (s : List ℕ) (i : ℕ) (whole : A) : Type 0 where
  pub inside : i ≤ length s
  pub makes : make (drop i s) ≡ whole

module _ {A : Type 0} {make : List ℕ → A} {s : List ℕ} {i : ℕ} {whole : A} (l : Left make s i whole) where
  -- by the byte that comes next
  pub next : i < length s → make (get_or s i 0 ∷ drop (i + 1) s) ≡ whole
  next h = rw (rest s i h) at l.makes

  -- past the last byte
  pub end : length s ≤ i → make [] ≡ whole
  end h = rw (no_rest s i h) at l.makes

pub and_left : (a b : Bool) → (a && b) ≡ true → a ≡ true
and_left true b e = refl
and_left false b e = e

pub and_right : (a b : Bool) → (a && b) ≡ true → b ≡ true
and_right true b e = e
and_right false true e = refl
and_right false false e = e

and_false : (b : Bool) → (b && false) ≡ false
and_false true = refl
and_false false = refl

-- `==` of two texts
pub equal_texts : (s t : List ℕ) → pointwise eqb s t ≡ same_numbers s t
unfolding same_numbers
equal_texts [] [] = refl
equal_texts [] (d ∷ t) = refl
equal_texts (c ∷ s) [] = refl
equal_texts (c ∷ s) (d ∷ t) = rw (equal_texts s t)

pub same_length : (s t : List ℕ) → length s ≢ length t → same_numbers s t ≡ false
unfolding same_numbers
same_length [] [] e = absurd (e refl)
same_length [] (d ∷ t) e = refl
same_length (c ∷ s) [] e = refl
same_length (c ∷ s) (d ∷ t) e = rw (same_length s t (λ q. e (ap suc q))) (and_false (eqb c d))

pub length_same : (s t : List ℕ) → same_numbers s t ≡ true → length s ≡ length t
unfolding same_numbers
length_same [] [] e = refl
length_same [] (d ∷ t) e = absurd (subst T (sym e) tt)
length_same (c ∷ s) [] e = absurd (subst T (sym e) tt)
length_same (c ∷ s) (d ∷ t) e = ap suc (length_same s t (and_right (eqb c d) (same_numbers s t) e))

-- what stands before the first such byte is the start of the text
pub take_before : (stop : ℕ) (s : List ℕ) → take (length (before stop s)) s ≡ before stop s
unfolding before
take_before stop [] = refl
take_before stop (c ∷ s) = first (eqb c stop) (take_before stop s)
  where
    first : (b : Bool) → take (length (before stop s)) s ≡ before stop s →
        take (length (cond b [] (c ∷ before stop s))) (c ∷ s) ≡ cond b [] (c ∷ before stop s)
    first true e = refl
    first false e = ap (λ (t : List ℕ). c ∷ t) e

pub every_at : (f : ℕ → Bool) (s : List ℕ) (i : ℕ) → every f s ≡ true → i < length s → f (get_or s i 0) ≡ true
every_at f [] i e h = absurd (omega arith)
every_at f (c ∷ s) zero e h = and_left (f c) (every f s) e
every_at f (c ∷ s) (suc i) e h = every_at f s i (and_right (f c) (every f s) e) (omega arith)

pub before_length : (stop : ℕ) (s : List ℕ) → length (before stop s) ≤ length s
unfolding before
before_length stop [] = omega arith
before_length stop (c ∷ s) = first (eqb c stop) (before_length stop s)
  where
    first : (b : Bool) → length (before stop s) ≤ length s → length (cond b [] (c ∷ before stop s)) ≤ suc (length s)
    first true h = omega arith
    first false h = omega arith

after_length : (n : ℕ) (s : List ℕ) → length (after n s) ≤ length s
unfolding after
after_length n [] = omega arith
after_length zero (c ∷ s) = omega arith
after_length (suc n) (c ∷ s) = first (eqb c space) (after_length n s) (after_length (suc n) s)
  where
    first : (b : Bool) → length (after n s) ≤ length s → length (after (suc n) s) ≤ length s →
        length (cond b (after n s) (after (suc n) s)) ≤ suc (length s)
    first true h k = omega arith
    first false h k = omega arith

pub field_length : (n : ℕ) (s : List ℕ) → length (field n s) ≤ length s
unfolding field
field_length n s = omega (arith, before_length space (after n s), after_length n s)

-- the spaces, as they are counted
pub spaces_counted : (s : List ℕ) → spaces s ≡ count_by (λ c. eqb c space) s
unfolding spaces
spaces_counted s = is_count_by spaces (λ c. eqb c space) refl (λ c t. step (eqb c space) t) s
  where
    step : (b : Bool) (t : List ℕ) → cond b (suc (spaces t)) (spaces t) ≡ cond b (1 + spaces t) (spaces t)
    step true t = omega arith
    step false t = refl

before_position : (stop : ℕ) (s : List ℕ) → length (before stop s) ≡ position_or_len (λ c. eqb c stop) s
unfolding before
before_position stop s = is_position_or_len (λ t. length (before stop t)) (λ c. eqb c stop) refl (λ c t. step (eqb c stop) c t) s
  where
    step : (b : Bool) (c : ℕ) (t : List ℕ) → length (cond b [] (c ∷ before stop t)) ≡ cond b 0 (1 + length (before stop t))
    step true c t = refl
    step false c t = omega arith

-- what stands before the first such byte is as long as its index says
pub before_first : (stop : ℕ) (s : List ℕ) → unwrap_or (position (λ c. eqb c stop) s) (length s) ≡ length (before stop s)
before_first stop s = cases (nat_lt (position_or_len (λ c. eqb c stop) s) (length s)) refl
  where
    cases : (b : Bool) → nat_lt (position_or_len (λ c. eqb c stop) s) (length s) ≡ b →
        unwrap_or (cond b (Some (position_or_len (λ c. eqb c stop) s)) None) (length s) ≡ length (before stop s)
    cases true e = sym (before_position stop s)
    cases false e =
        omega (arith, ltb-false (position_or_len (λ c. eqb c stop) s) (length s) e, before_position stop s, before_length stop s)

piece : ℕ → List (List ℕ) → List ℕ
piece n parts = unwrap_or (slice_get parts n) []

pieces : List ℕ → List (List ℕ)
pieces = slice_split (λ c. eqb c space)

first_piece : (s : List ℕ) → piece 0 (pieces s) ≡ before space s
unfolding piece pieces before
first_piece [] = refl
first_piece (c ∷ s) = step (eqb c space) (pieces s) (first_piece s)
  where
    step : (b : Bool) (parts : List (List ℕ)) → piece 0 parts ≡ before space s → piece 0 (cond b ([] ∷ parts) (onto_first c parts)) ≡ cond b [] (c ∷ before space s)
    step true parts e = refl
    step false [] e = ap (λ (t : List ℕ). c ∷ t) e
    step false (p ∷ parts) e = ap (λ (t : List ℕ). c ∷ t) e

piece_after : (n : ℕ) (s : List ℕ) → piece n (pieces s) ≡ before space (after n s)
unfolding piece pieces before after
piece_after zero s = rw (after_none s) (first_piece s)
piece_after (suc n) [] = refl
piece_after (suc n) (c ∷ s) = step (eqb c space) (pieces s) (piece_after n s) (piece_after (suc n) s)
  where
    step : (b : Bool) (parts : List (List ℕ)) → piece n parts ≡ before space (after n s) → piece (suc n) parts ≡ before space (after (suc n) s) →
        piece (suc n) (cond b ([] ∷ parts) (onto_first c parts)) ≡ before space (cond b (after n s) (after (suc n) s))
    step true parts e f = e
    step false [] e f = f
    step false (p ∷ parts) e f = f

-- a field is the piece with its number, nothing if there are fewer pieces
pub field_piece : (n : ℕ) (line : List ℕ) → unwrap_or (slice_get (slice_split (λ c. eqb c space) line) n) [] ≡ field n line
unfolding field piece pieces
field_piece n line = piece_after n line

-- the part of a text that an option holds, or no bytes
pub held_or_none : (o : Option (Bor (List ℕ))) (P : Bor (List ℕ) → Type 0) (r : Bor (List ℕ)) → (P r → r.now ≡ []) → UnwrapsOrElse o P r → r.now ≡ unwrap_or (option_map (λ s. s.now) o) []
held_or_none None P r f h = f h
held_or_none (Some s) P r f h = ap (λ t. t.now) h
