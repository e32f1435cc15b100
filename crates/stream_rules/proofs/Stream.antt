-- The records of a stream. The record that the bytes begin with is cut short, or has no known kind, or is whole: then it is as wide as its kind says,
-- the bytes have that many, and the records after it are those of the bytes after it.
-- Assumes nothing.
use Prim.Native.Nat.{ℕ, zero, suc, ◌+◌, ◌*◌, ◌-◌, ◌<◌, ◌≤◌, zero-le}
use mathlib.Core.Bool.{Bool, true, false, cond, ◌||◌}
use mathlib.Core.List.{List, [], ◌∷◌}
use mathlib.Core.Logic.{◌≢◌, ◌⊎◌, inl, inr, ⊎_elim}
use mathlib.Core.Path.{◌≡◌, refl, sym, ap, ◌∙◌}
use native.Mathlib.Decide.{dec_lt}
use native.Mathlib.Nat.{add_assoc}
use native.Mathlib.Numerals.{add-one, add-two}
use native.Mathlib.Omega.{arith}
use borrow.Author.Tests.{lt-ltb, le-ltb, ne_eqb}
use lib.Dec.{ltb, eqb}
use lib.ListN.{length, get_or, take, drop, length-drop}
use lib.Seq.{drop-cons}
use Rattle.stream_rules.specs.Record.{Record}
use Rattle.stream_rules.specs.Record as record_of
use Rattle.stream_rules.specs.Halves.{StreamListing}
use Rattle.stream_rules.specs.Stream.{big_endian_on, big_endian, body_length, decoded, half_in, record_in, records}
use Rattle.stream_rules.specs.Reading.{fault, width, any_record?}

-- the bytes from at on, by the first two
pub two-bytes : (s : List ℕ) (at : ℕ) → at + 2 ≤ length s → drop at s ≡ get_or s at 0 ∷ get_or s (at + 1) 0 ∷ drop (at + 2) s
two-bytes s at h = rw (drop-cons s at 0 (omega arith), drop-cons s (suc at) 0 (omega arith), add-one, add-two)

-- a number of two or four bytes from an offset on is what the bytes at that offset and after it say
module _ (s : List ℕ) (at : ℕ) where
  pub two-at : at + 2 ≤ length s → big_endian (take 2 (drop at s)) ≡ get_or s at 0 * 256 + get_or s (at + 1) 0
  unfolding big_endian big_endian_on
  two-at h = rw (two-bytes s at h) (omega arith)

  pub four-at : at + 4 ≤ length s →
      big_endian (take 4 (drop at s)) ≡ ((get_or s at 0 * 256 + get_or s (at + 1) 0) * 256 + get_or s (at + 2) 0) * 256 + get_or s (at + 3) 0
  unfolding big_endian big_endian_on
  four-at h = rw (two-bytes s at (omega arith), two-bytes s (at + 2) (omega arith), add_assoc at 2 1) (omega arith)

-- the record that the bytes begin with, by its kind: cut short, or whole
module _ (kind : ℕ) (rest : List ℕ) where
  pub cut : length rest < body_length kind → record_in (kind ∷ rest) ≡ record_of.Refused 1
  unfolding record_in
  cut h = rw lt-ltb

  pub whole : body_length kind ≤ length rest → record_in (kind ∷ rest) ≡ decoded kind (take (body_length kind) rest)
  unfolding record_in
  whole h = rw le-ltb

-- the record at an offset: cut short, whole, or of no known kind
module _ (s : List ℕ) (at kind : ℕ) where
  begins : at < length s → get_or s at 0 ≡ kind → drop at s ≡ kind ∷ drop (at + 1) s
  begins some is = rw (drop-cons s at 0 some, is, add-one)

  pub cut_at : (at < length s) × (get_or s at 0 ≡ kind) × (length s - (at + 1) < body_length kind) → record_in (drop at s) ≡ record_of.Refused 1
  cut_at (some, is, h) = rw (begins some is) (cut kind (drop (at + 1) s) (simp length-drop h))

  pub whole_at : (at < length s) × (get_or s at 0 ≡ kind) × (body_length kind ≤ length s - (at + 1)) →
      record_in (drop at s) ≡ decoded kind (take (body_length kind) (drop (at + 1) s))
  whole_at (some, is, h) = rw (begins some is) (whole kind (drop (at + 1) s) (simp length-drop h))

  pub unknown_at : (at < length s) × (get_or s at 0 ≡ kind) × (kind ≢ 1) × (kind ≢ 2) × (kind ≢ 4) × (kind ≢ 8) × (kind ≢ 3) →
      record_in (drop at s) ≡ record_of.Refused 2
  unfolding record_in body_length decoded
  unknown_at (some, is, n₁, n₂, n₄, n₈, n₃) =
      rw (begins some is)
      (simp (ne_eqb kind 1 n₁, ne_eqb kind 2 n₂, ne_eqb kind 4 n₄, ne_eqb kind 8 n₈, ne_eqb kind 3 n₃, le-ltb (length (drop (at + 1) s)) 0 zero-le))

-- to skip bytes is to drop them
pub records_drop : (n : ℕ) (s : List ℕ) → records n s ≡ records 0 (drop n s)
unfolding records
records_drop zero s = refl
records_drop (suc n) [] = refl
records_drop (suc n) (b ∷ s) = records_drop n s

pub record WholeRecord (s : List ℕ) : Type 0 where
  pub next : records 0 s ≡ record_in s ∷ records 0 (drop (width (record_in s)) s)
  pub some : 1 ≤ width (record_in s)
  pub fits : width (record_in s) ≤ length s

-- a kind is unknown, or a body of it makes a record as wide as the kind says
known : (kind : ℕ) (body : List ℕ) → (decoded kind body ≡ record_of.Refused 2) ⊎ (width (decoded kind body) ≡ suc (body_length kind))
unfolding decoded body_length width
known kind body = cases (eqb kind 1) (eqb kind 2) (eqb kind 4) (eqb kind 8) (eqb kind 3)
  where
    made : (r l h k e : Bool) → Record
    made r l h k e =
        cond r (record_of.Router (big_endian body))
        (cond l (record_of.Link (half_in body))
        (cond h (record_of.Half (half_in body)) (cond k (record_of.Limit (get_or body 0 0)) (cond e record_of.End (record_of.Refused 2)))))

    cases : (r l h k e : Bool) → (made r l h k e ≡ record_of.Refused 2) ⊎ (width (made r l h k e) ≡ suc (cond (r || l || h) 4 (cond k 1 0)))
    cases true l h k e = inr refl
    cases false true h k e = inr refl
    cases false false true k e = inr refl
    cases false false false true e = inr refl
    cases false false false false true = inr refl
    cases false false false false false = inl refl

wide : (kind : ℕ) (rest : List ℕ) → body_length kind ≤ length rest → width (record_in (kind ∷ rest)) ≡ suc (body_length kind) →
    WholeRecord (kind ∷ rest)
unfolding records
wide kind rest h e = record { next = rw (e, records_drop (body_length kind) rest); some = omega arith; fits = omega arith }

-- what the bytes begin with
first_record : (s : List ℕ) → (record_in s ≡ record_of.Refused 1) ⊎ ((record_in s ≡ record_of.Refused 2) ⊎ WholeRecord s)
unfolding record_in
first_record [] = inl refl
first_record (kind ∷ rest) = cases (dec_lt (length rest) (body_length kind))
  where
    cases : Dec (length rest < body_length kind) →
        (record_in (kind ∷ rest) ≡ record_of.Refused 1) ⊎ ((record_in (kind ∷ rest) ≡ record_of.Refused 2) ⊎ WholeRecord (kind ∷ rest))
    cases (yes h) = inl (cut kind rest h)
    cases (no h) =
        let h' : body_length kind ≤ length rest = omega arith in
        let e = whole kind rest h' in
        inr (⊎_elim (λ u. inl (e ∙ u)) (λ w. inr (wide kind rest h' (ap width e ∙ w))) (known kind (take (body_length kind) rest)))

-- a record has no more bytes than are there
pub width_within : (s : List ℕ) → width (record_in s) ≤ length s
unfolding width
width_within s = ⊎_elim (λ r. rw r zero-le) (⊎_elim (λ r. rw r zero-le) (λ w. w.fits)) (first_record s)

-- a record that has no fault is whole, the end too
pub whole_record : (p : StreamListing) (s : List ℕ) → fault p (record_in s) ≡ 0 → WholeRecord s
unfolding fault
whole_record p s e = ⊎_elim (λ r. absurd (omega (arith, rw r at e))) (⊎_elim (λ r. absurd (omega (arith, rw r at e))) (λ w. w)) (first_record s)

pub no_bytes : records 0 [] ≡ []
unfolding records
no_bytes = refl

pub some_records : (s : List ℕ) → any_record? (records 0 s) ≡ ltb 0 (length s)
unfolding records any_record?
some_records [] = refl
some_records (b ∷ s) = sym (lt-ltb 0 (suc (length s)) (omega arith))
