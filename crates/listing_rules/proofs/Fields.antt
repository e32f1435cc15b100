-- A line is its first field and each other behind a space, so that it can be put field by field; no field is longer than its room.
-- Assumes nothing.
use Prim.Native.Nat.{ℕ, suc, ◌+◌, ◌*◌, ◌/◌, ◌%◌, ◌≤◌, ◌<◌}
use mathlib.Core.List.{List, [], ◌∷◌, ◌++◌, map, append_assoc, append-nil}
use mathlib.Core.Logic.{◌≢◌}
use mathlib.Core.Path.{◌≡◌, refl, ap, sym, ◌∙◌}
use native.Mathlib.Decide.{ℕ_discrete, dec_lt}
use native.Mathlib.Omega.{arith}
use lib.ListN.{length, length-append}
use Rattle.topology.specs.Written.{joined_over}
use Rattle.text.specs.Fields.{space}
use Rattle.text.specs.Hex.{none}
use Rattle.text.specs.Lines.{newline}
use Rattle.text.specs.Numbers.{number_text}
use Rattle.text.proofs.Texts.{more_digits, small_length}
use Rattle.listing_rules.specs.Listing.{spaced, row_fields, line_text}
use Rattle.listing_rules.specs.declared.Front.{Front}
use Rattle.listing_rules.specs.Inner.{most_listing_line, spaced_number, fields_text, Short, row_text, front_text, front_line, RowFits, Small}

-- each field but the first behind a space
pub spaced_first : (f : List ℕ) (fs : List (List ℕ)) → spaced (f ∷ fs) ≡ f ++ joined_over (λ g. space ∷ g) fs
unfolding spaced joined_over
spaced_first f [] = sym (append-nil f)
spaced_first f (g ∷ gs) = ap (λ (l : List ℕ). f ++ (space ∷ l)) (spaced_first g gs)

pub joined_fields : (vs : List ℕ) → joined_over (λ g. space ∷ g) (map number_text vs) ≡ fields_text vs
unfolding fields_text joined_over
joined_fields [] = refl
joined_fields (v ∷ vs) = ap (λ (l : List ℕ). spaced_number v ++ l) (joined_fields vs)

pub row_none : (row : List ℕ) → length row ≡ 0 → row_text row ≡ space ∷ 45 ∷ []
unfolding row_text row_fields joined_over none
row_none [] h = refl
row_none (v ∷ vs) h = absurd (omega arith)

pub row_some : (row : List ℕ) → length row ≢ 0 → row_text row ≡ fields_text row
unfolding row_text row_fields
row_some [] h = absurd (h refl)
row_some (v ∷ vs) h = joined_fields (v ∷ vs)

pub line_fields : (f : Front) (row : List ℕ) → front_line f row ≡ front_text f ++ (row_text row ++ (newline ∷ []))
unfolding front_line front_text line_text row_text joined_over
line_fields f row = rw (spaced_first) (simp append_assoc)

pub field_length : (v : ℕ) → v < 100 → length (spaced_number v) ≤ 3
field_length v h = omega (arith, small_length v h)

-- a byte of three digits: those of its tenth part, and the last
pub byte_digits : (v : ℕ) → 100 ≤ v → v < 256 → spaced_number v ≡ spaced_number (v / 10) ++ ((48 + v % 10) ∷ [])
byte_digits v h k = ap (λ (l : List ℕ). space ∷ l) (more_digits v (omega arith) (omega arith))

pub byte_length : (v : ℕ) → v < 256 → length (spaced_number v) ≤ 4
byte_length v h = cases (dec_lt v 100)
  where
    cases : Dec (v < 100) → length (spaced_number v) ≤ 4
    cases (yes l) = omega (arith, field_length v l)
    cases (no o) =
        omega (arith, ap length (byte_digits v (omega arith) h) ∙ length-append (spaced_number (v / 10)) ((48 + v % 10) ∷ []), field_length (v / 10) (omega arith))

pub front-length : (f : Front) → Small f → length (front_text f) ≤ 13
unfolding front_text
front-length f s =
    simp (length-append)
    (omega (arith, small_length _ s.destination, field_length _ s.router, byte_length _ s.rank, byte_length _ s.hops))

-- fields of at most three bytes each
pub fields_length : (vs : List ℕ) → Short vs → length (fields_text vs) ≤ 3 * length vs
unfolding fields_text joined_over
fields_length [] h = omega arith
fields_length (v ∷ vs) h =
    simp (length-append) (omega (arith, small_length v (h 0 (omega arith)), fields_length vs (λ i k. h (suc i) (omega arith))))

pub row-length : (row : List ℕ) → RowFits row → length (row_text row) ≤ 48
row-length row r = cases (ℕ_discrete (length row) 0)
  where
    cases : Dec (length row ≡ 0) → length (row_text row) ≤ 48
    cases (yes e) = rw (row_none row e) (omega arith)
    cases (no o) = rw (row_some row o) (omega (arith, fields_length row r.small, r.few))

pub line_length : (f : Front) (row : List ℕ) → Small f → RowFits row → length (front_line f row) ≤ most_listing_line
line_length f row s r = rw (line_fields f row) (simp length-append (omega (arith, front-length f s, row-length row r)))
