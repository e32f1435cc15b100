-- What the tests and the digits of a field of bytes say, each as a fact of the text.
-- Assumes nothing.
use Prim.Native.Nat.{ℕ, ◌+◌, ◌-◌, ◌*◌, ◌/◌, ◌%◌, ◌≤◌, ◌<◌}
use mathlib.Core.Bool.{Bool, true, false, ◌&&◌, ◌||◌}
use mathlib.Core.List.{List, [], ◌∷◌}
use mathlib.Core.Logic.{◌≢◌, ◌⊎◌, inl, inr}
use mathlib.Core.Path.{◌≡◌, refl, ap, sym, subst, ◌∙◌}
use native.Mathlib.Omega.{arith}
use borrow.Author.Tests.{eq-eqb, ne_eqb, le-leb, lt-leb, leb-true, eqb-true}
use lib.Dec.{T, eqb, leb}
use lib.ListN.{length, get_or, take, drop}
use lib.Seq.{sets, length-sets}
use Rattle.network.specs.Lists.{every, same_numbers}
use Rattle.std.proofs.Common.{Some, None}
use Rattle.text.specs.Numbers.{decimal}
use Rattle.text.specs.Hex.{none, hexadecimal, worth, bytes_of, in_hex, byte_count, bytes}
use Rattle.text.proofs.Scan.{rest, no_rest, every_at, and_left, and_right, length_same}
use Rattle.text.proofs.Stores.{sets_none, start}
use Rattle.text.proofs.Numbers.{below_digits, above_digits, among_digits, digit_fact}

module _ (c : ℕ) where
  pub below_hex : c < 48 → hexadecimal c ≡ false
  unfolding hexadecimal
  below_hex h = let l : leb 97 c ≡ false = lt-leb 97 c (omega arith) in rw (below_digits c h, l)

  pub digit_hex : 48 ≤ c → c ≤ 57 → hexadecimal c ≡ true
  unfolding hexadecimal
  digit_hex h k = rw (among_digits c h k)

  pub between_hex : 57 < c → c < 97 → hexadecimal c ≡ false
  unfolding hexadecimal
  between_hex h k = rw (above_digits c h, lt-leb 97 c k)

  pub letter_hex : 57 < c → 97 ≤ c → hexadecimal c ≡ leb c 102
  unfolding hexadecimal
  letter_hex h k = rw (above_digits c h, le-leb 97 c k)

  pub hex_fact : hexadecimal c ≡ true → ((48 ≤ c) × (c ≤ 57)) ⊎ ((97 ≤ c) × (c ≤ 102))
  unfolding hexadecimal
  hex_fact e = cases (decimal c) refl (leb 97 c && leb c 102) refl e
    where
      cases : (a : Bool) → decimal c ≡ a → (b : Bool) → (leb 97 c && leb c 102) ≡ b → (a || b) ≡ true →
          ((48 ≤ c) × (c ≤ 57)) ⊎ ((97 ≤ c) × (c ≤ 102))
      cases true d b l t = inl (digit_fact c d)
      cases false d true l t = inr (leb-true 97 c (and_left (leb 97 c) (leb c 102) l), leb-true c 102 (and_right (leb 97 c) (leb c 102) l))
      cases false d false l t = absurd (subst T (sym t) tt)

  pub worth_digit : c ≤ 57 → worth c ≡ c - 48
  unfolding worth
  worth_digit h = rw (le-leb c 57 h)

  pub worth_letter : 57 < c → worth c ≡ c - 87
  unfolding worth
  worth_letter h = rw (lt-leb c 57 h)

module _ (s : List ℕ) where
  pub too_short : length s < 2 → in_hex s ≡ false
  unfolding in_hex
  too_short h = rw (lt-leb 2 (length s) h)

  pub odd : 2 ≤ length s → length s % 2 ≢ 0 → in_hex s ≡ false
  unfolding in_hex
  odd h e = rw (le-leb 2 (length s) h, ne_eqb (length s % 2) 0 e)

  pub if_even : 2 ≤ length s → length s % 2 ≡ 0 → in_hex s ≡ every hexadecimal s
  unfolding in_hex
  if_even h e = rw (le-leb 2 (length s) h, eq-eqb (length s % 2) 0 e)

  pub even : in_hex s ≡ true → length s % 2 ≡ 0
  unfolding in_hex
  even e = eqb-true (length s % 2) 0 (and_right (leb 2 (length s)) (eqb (length s % 2) 0) (and_left _ (every hexadecimal s) e))

  pub all_hex : in_hex s ≡ true → every hexadecimal s ≡ true
  unfolding in_hex
  all_hex e = and_right (leb 2 (length s) && eqb (length s % 2) 0) (every hexadecimal s) e

  pub hex_at : (i : ℕ) → in_hex s ≡ true → i < length s → T (hexadecimal (get_or s i 0))
  hex_at i e h = subst T (sym (every_at hexadecimal s i (all_hex e) h)) tt

  -- the next byte
  pub bytes_next : (i : ℕ) → 2 * i + 1 < length s →
      bytes_of (drop (2 * i) s) ≡ (worth (get_or s (2 * i) 0) * 16 + worth (get_or s (2 * i + 1) 0)) ∷ bytes_of (drop (2 * (i + 1)) s)
  unfolding bytes_of
  bytes_next i h =
      let l : 2 * i < length s = omega arith in
      let e : 2 * (i + 1) ≡ 2 * i + 1 + 1 = omega arith in
      rw (rest s (2 * i) l, rest s (2 * i + 1) h, e)

  pub bytes_end : (i : ℕ) → length s ≤ i → bytes_of (drop i s) ≡ []
  unfolding bytes_of
  bytes_end i h = rw (no_rest s i h)

  pub none_count : same_numbers s none ≡ true → byte_count s ≡ Some 0
  unfolding byte_count
  none_count e = rw (e)

  pub not_hex : in_hex s ≡ false → bytes s ≡ []
  unfolding bytes
  not_hex e = rw (e)

  pub if_hex : in_hex s ≡ true → bytes s ≡ bytes_of s
  unfolding bytes
  if_hex e = rw (e)

  pub none_bytes : same_numbers s none ≡ true → bytes s ≡ []
  unfolding none
  none_bytes e = not_hex (too_short (omega (arith, length_same s (45 ∷ []) e)))

  pub wrong_count : same_numbers s none ≡ false → in_hex s ≡ false → byte_count s ≡ None
  unfolding byte_count
  wrong_count d e = rw (d, e)

  pub hex_count : same_numbers s none ≡ false → in_hex s ≡ true → byte_count s ≡ Some (length s / 2)
  unfolding byte_count
  hex_count d e = rw (d, e)

-- two digits for each byte
halves : (s : List ℕ) → length (bytes_of s) ≡ length s / 2
unfolding bytes_of
halves [] = refl
halves (c ∷ []) = refl
halves (c ∷ d ∷ s) = omega (arith, halves s)

-- the count is that of the bytes
pub counted : (s : List ℕ) (n : ℕ) → byte_count s ≡ Some n → (length (bytes s) ≡ n) × (n ≤ length s / 2)
counted s n e = dash (same_numbers s none) refl
  where
    digits : same_numbers s none ≡ false → (b : Bool) → in_hex s ≡ b → (length (bytes s) ≡ n) × (n ≤ length s / 2)
    digits d true t =
        let m : length s / 2 ≡ n = cc (hex_count s d t) in
        (ap length (if_hex s t) ∙ halves s ∙ m, omega arith)
    digits d false t = let never : ◌≡◌ {A = ℕ} 0 1 = cc (wrong_count s d t) in absurd (omega arith)

    dash : (b : Bool) → same_numbers s none ≡ b → (length (bytes s) ≡ n) × (n ≤ length s / 2)
    dash true d =
        let m : 0 ≡ n = cc (none_count s d) in
        (ap length (none_bytes s d) ∙ m, omega arith)
    dash false d = digits d (in_hex s) refl

-- a field that holds no count holds no bytes
wrong-bytes : (s : List ℕ) → byte_count s ≡ None → bytes s ≡ []
wrong-bytes s e = cases (same_numbers s none) refl (in_hex s) refl
  where
    cases : (d : Bool) → same_numbers s none ≡ d → (b : Bool) → in_hex s ≡ b → bytes s ≡ []
    cases true d b t = none_bytes s d
    cases false d true t = let never : ◌≡◌ {A = ℕ} 0 1 = cc (hex_count s d t) in absurd (omega arith)
    cases false d false t = not_hex s t

-- the bytes put at the start of a buffer: as many as are counted stand there, and if none are the buffer stays
module _ (s entry exit : List ℕ) (e : exit ≡ sets entry 0 (bytes s)) where
  pub decoded : (n : ℕ) → length s ≤ 2 * length entry → byte_count s ≡ Some n → (take n exit ≡ bytes s) × (n ≤ length exit)
  decoded n h c =
      let m = counted s n c in
      (start entry (bytes s) exit n e m.0 (omega arith), omega (arith, ap length e ∙ length-sets entry 0 (bytes s)))

  pub not_decoded : byte_count s ≡ None → exit ≡ entry
  not_decoded c = e ∙ sets_none entry 0 (bytes s) (wrong-bytes s c)
