-- The texts that answers are made of: their lengths, and how they are reached digit by digit.
-- Assumes nothing.
use Prim.Native.Nat.{ℕ, zero, suc, ◌+◌, ◌-◌, ◌*◌, ◌/◌, ◌%◌, ◌^◌, ◌≤◌, ◌<◌}
use mathlib.Core.Bool.{Bool, true, false, cond}
use mathlib.Core.List.{List, [], ◌∷◌, ◌++◌}
use mathlib.Core.Logic.{◌≢◌}
use mathlib.Core.Path.{◌≡◌, refl, sym}
use native.Mathlib.Decide.{dec_lt}
use native.Mathlib.Nat.{pow-suc, one-le-pow, pow-le-pow_right}
use native.Mathlib.Omega.{arith}
use borrow.Author.Tests.{lt-ltb, le-ltb, le-leb, lt-leb}
use lib.Dec.{ltb}
use lib.ListN.{length, get_or, take, length-append}
use Rattle.std.proofs.Common.{Some, None}
use Rattle.std.proofs.lemmas.List.{take_more}
use Rattle.io.specs.Digits.{hex_digit_ascii, last_digits}
use Rattle.text.specs.Numbers.{final_digits, number_text}
use Rattle.text.specs.Hex.{none, digit, hex_of, bytes_text}
use Rattle.text.specs.Inner.{Put, Gathered, fits, count_with, buffer_with}
use Rattle.text.specs.Lines.{answer_text, answer_line, word_line, buffer_line, newline}

module _ (buffer : List ℕ) (count : ℕ) (part : List ℕ) where
  pub too-long : length buffer < count + length part → Gathered buffer count part None buffer
  unfolding count_with buffer_with fits
  too-long h =
      let l = lt-leb (count + length part) (length buffer) h in
      record { counted = rw (l); stored = rw (l) }

  pub one_more : {r : ℕ} {exit : List ℕ} → count + length part ≤ length buffer → Put buffer count part r exit → Gathered buffer count part (Some r) exit
  unfolding count_with buffer_with fits
  one_more h p =
      let l = le-leb (count + length part) (length buffer) h in
      record { counted = rw (l, p.after); stored = rw (l) p.stored }

module _ (n : ℕ) where
  pub digit_low : n < 10 → digit n ≡ 48 + n
  unfolding digit
  digit_low h = rw (lt-ltb n 10 h)

  pub digit_high : 10 ≤ n → digit n ≡ 87 + n
  unfolding digit
  digit_high h = rw (le-ltb n 10 h)

pub hex_length : (s : List ℕ) → length (hex_of s) ≡ 2 * length s
unfolding hex_of
hex_length [] = refl
hex_length (b ∷ s) = omega (arith, hex_length s)

hex_joined : (s t : List ℕ) → hex_of (s ++ t) ≡ hex_of s ++ hex_of t
unfolding hex_of
hex_joined [] t = refl
hex_joined (b ∷ s) t = rw (hex_joined s t)

-- the digits of a byte more
pub hex_more : (s : List ℕ) (i : ℕ) → i < length s → hex_of (take (i + 1) s) ≡ hex_of (take i s) ++ (digit (get_or s i 0 / 16) ∷ digit (get_or s i 0 % 16) ∷ [])
unfolding hex_of
hex_more s i h = rw (take_more s i 0 h) (hex_joined (take i s) (get_or s i 0 ∷ []))

pub text_none : (s : List ℕ) → length s ≡ 0 → bytes_text s ≡ 45 ∷ []
unfolding bytes_text none
text_none [] h = refl
text_none (b ∷ s) h = absurd (omega arith)

pub text_hex : (s : List ℕ) → length s ≢ 0 → bytes_text s ≡ hex_of s
unfolding bytes_text
text_hex [] h = absurd (h refl)
text_hex (b ∷ s) h = refl

-- numbers of one digit and of two
pub one_digit : (n : ℕ) → n < 10 → number_text n ≡ (48 + n) ∷ []
unfolding number_text final_digits
one_digit n h = rw (lt-ltb n 10 h)

pub two_digits : (n : ℕ) → 10 ≤ n → n < 100 → number_text n ≡ (48 + n / 10) ∷ (48 + n % 10) ∷ []
unfolding number_text final_digits
two_digits n h k = let front : ltb (n / 10) 10 ≡ true = lt-ltb (n / 10) 10 (omega arith) in rw (le-ltb n 10 h, front)

pub small_length : (n : ℕ) → n < 100 → length (number_text n) ≤ 2
small_length n h = cases (dec_lt n 10)
  where
    cases : Dec (n < 10) → length (number_text n) ≤ 2
    cases (yes l) = rw (one_digit n l) (omega arith)
    cases (no o) = rw (two_digits n (omega arith) h) (omega arith)

digits_length : (most n : ℕ) → length (final_digits most n) ≤ most
unfolding final_digits
digits_length zero n = omega arith
digits_length (suc most) n = either (ltb n 10) (digits_length most (n / 10))
  where
    either : (b : Bool) → length (final_digits most (n / 10)) ≤ most →
        length (cond b ((48 + n) ∷ []) (final_digits most (n / 10) ++ ((48 + n % 10) ∷ []))) ≤ suc most
    either true h = omega arith
    either false h = simp (length-append) (omega arith)

pub number_length : (n : ℕ) → length (number_text n) ≤ 20
unfolding number_text
number_length n = digits_length 20 n

last_digit : (n : ℕ) → hex_digit_ascii (n % 10) ≡ 48 + n % 10
last_digit n = rw (lt-ltb (n % 10) 10 (omega arith))

-- the fewest digits that hold a number are its digits
fewest : (k most n : ℕ) → 1 ≤ k → n < 10 ^ k → (1 < k → 10 ^ (k - 1) ≤ n) → k ≤ most → final_digits most n ≡ last_digits 10 k n
unfolding final_digits
fewest k zero n l h g m = absurd (omega arith)
fewest zero (suc most) n l h g m = absurd (omega arith)
fewest (suc zero) (suc most) n l h g m =
    let e : n % 10 ≡ n = omega arith in
    rw (lt-ltb n 10 h, last_digit n, e)
fewest (suc (suc k)) (suc most) n l h g m =
    let q : suc (suc k) - 1 ≡ suc k = omega arith in
    let r : suc k - 1 ≡ k = omega arith in
    let low : 10 ^ suc k ≤ n = rw q at (g (omega arith)) in
    let some : 1 ≤ 10 ^ k = one-le-pow k 10 (omega arith) in
    let high : n / 10 < 10 ^ suc k = omega (arith, pow-suc 10 (suc k)) in
    let part = fewest (suc k) most (n / 10) (omega arith) high (λ t. rw r (omega (arith, pow-suc 10 k))) (omega arith) in
    let more : ltb n 10 ≡ false = le-ltb n 10 (omega (arith, pow-suc 10 k)) in
    rw (more, last_digit n, part)

-- a number below 2 ^ 64 has at most 20 digits
pub few : (k n : ℕ) → n < 2 ^ 64 → (1 < k → 10 ^ (k - 1) ≤ n) → k ≤ 20
few k n h g = cases (dec_lt 20 k)
  where
    cases : Dec (20 < k) → k ≤ 20
    cases (no o) = omega arith
    cases (yes l) =
        let m : 10 ^ 20 ≤ 10 ^ (k - 1) = pow-le-pow_right (omega arith) {i = 20} {j = k - 1} (omega arith) in
        absurd (omega (arith, g (omega arith)))

-- room for one digit more than a number has changes nothing
enough : (m n : ℕ) → n < 10 ^ suc m → final_digits (suc (suc m)) n ≡ final_digits (suc m) n
unfolding final_digits
enough zero n h = rw (lt-ltb n 10 h)
enough (suc m) n h = cases (dec_lt n 10) (λ o. enough m (n / 10) (omega (arith, pow-suc 10 (suc m))))
  where
    cases : Dec (n < 10) → (10 ≤ n → final_digits (suc (suc m)) (n / 10) ≡ final_digits (suc m) (n / 10)) →
        final_digits (suc (suc (suc m))) n ≡ final_digits (suc (suc m)) n
    cases (yes l) shorter = rw (lt-ltb n 10 l)
    cases (no o) shorter = let more : 10 ≤ n = omega arith in rw (le-ltb n 10 more, shorter more)

pub more_digits : (n : ℕ) → 10 ≤ n → n < 2 ^ 64 → number_text n ≡ number_text (n / 10) ++ ((48 + n % 10) ∷ [])
unfolding number_text final_digits
more_digits n h k = let short = enough 18 (n / 10) (omega arith) in rw (le-ltb n 10 h, short)

pub number_digits : (k n : ℕ) → 1 ≤ k → n < 10 ^ k → (1 < k → 10 ^ (k - 1) ≤ n) → k ≤ 20 → number_text n ≡ last_digits 10 k n
unfolding number_text
number_digits k n l h g m = fewest k 20 n l h g m

-- the digits of a number below 2 ^ 64, as many as it has
pub digits_are : (k n : ℕ) → n < 2 ^ 64 → (1 ≤ k) × (n < 10 ^ k) × (1 < k → 10 ^ (k - 1) ≤ n) → last_digits 10 k n ≡ number_text n
digits_are k n h d = sym (number_digits k n d.0 d.1 d.2 (few k n h d.2))

pub answer_length : (number at : ℕ) → length (answer_text number at) ≤ 41
unfolding answer_text
answer_length number at = simp (length-append) (omega (arith, number_length number, number_length at))

pub text_length : (s : List ℕ) → length (bytes_text s) ≤ 2 * length s + 1
unfolding bytes_text none
text_length [] = omega arith
text_length (b ∷ s) = omega (arith, hex_length (b ∷ s))

pub answer_line_length : (number at : ℕ) → length (answer_line number at) ≤ 42
unfolding answer_line
answer_line_length number at = simp (length-append) (omega (arith, answer_length number at))

pub word_line_length : (word : List ℕ) (number at : ℕ) → length (word_line word number at) ≤ length word + 43
unfolding word_line
word_line_length word number at = simp (length-append) (omega (arith, answer_line_length number at))

pub buffer_line_length : (number at : ℕ) (buffer : List ℕ) → length (buffer_line number at buffer) ≤ 44 + 2 * length buffer
unfolding buffer_line
buffer_line_length number at buffer =
    let e = length-append (bytes_text buffer) (newline ∷ []) in
    simp (length-append) (omega (arith, e, answer_length number at, text_length buffer))

-- how long the texts are at most
pub ruleset lengths = (number_length, answer_length, answer_line_length, text_length, small_length)
