-- What the tests and the digits of a number say, each as a fact of the bytes.
-- Assumes nothing.
use Prim.Native.Nat.{ℕ, ◌+◌, ◌-◌, ◌*◌, ◌≤◌, ◌<◌}
use mathlib.Core.Bool.{Bool, true, false, cond, ◌&&◌}
use mathlib.Core.List.{List, [], ◌∷◌}
use mathlib.Core.Logic.{◌≢◌}
use mathlib.Core.Path.{◌≡◌, refl}
use native.Mathlib.Omega.{arith}
use borrow.Author.Tests.{eq-eqb, ne_eqb, le-leb, lt-leb, leb-true}
use lib.Dec.{leb}
use lib.ListN.{length, get_or}
use Rattle.network.specs.Lists.{every}
use Rattle.std.proofs.Common.{Some, None}
use Rattle.text.specs.Numbers.{decimal, onto, plain_number, numeral, number}
use Rattle.text.proofs.Scan.{every_at, and_left, and_right}

module _ (c : ℕ) where
  pub below_digits : c < 48 → decimal c ≡ false
  unfolding decimal
  below_digits h = rw (lt-leb 48 c h)

  pub above_digits : 57 < c → decimal c ≡ false
  unfolding decimal
  above_digits h = let l : leb 48 c ≡ true = le-leb 48 c (omega arith) in rw (l, lt-leb c 57 h)

  pub among_digits : 48 ≤ c → c ≤ 57 → decimal c ≡ true
  unfolding decimal
  among_digits h k = rw (le-leb 48 c h, le-leb c 57 k)

  pub digit_fact : decimal c ≡ true → (48 ≤ c) × (c ≤ 57)
  unfolding decimal
  digit_fact e = (leb-true 48 c (and_left (leb 48 c) (leb c 57) e), leb-true c 57 (and_right (leb 48 c) (leb c 57) e))

module _ (s : List ℕ) where
  pub all-decimal : numeral s ≡ true → every decimal s ≡ true
  unfolding numeral
  all-decimal e = and_right (plain_number s) (every decimal s) e

  pub digit_at : (i : ℕ) → numeral s ≡ true → i < length s → (48 ≤ get_or s i 0) × (get_or s i 0 ≤ 57)
  digit_at i e h = digit_fact (get_or s i 0) (every_at decimal s i (all-decimal e) h)

  pub not_plain : plain_number s ≡ false → numeral s ≡ false
  unfolding numeral
  not_plain e = rw (e)

  pub if_plain : plain_number s ≡ true → numeral s ≡ every decimal s
  unfolding numeral
  if_plain e = rw (e)

pub plain_empty : (s : List ℕ) → length s ≡ 0 → plain_number s ≡ false
unfolding plain_number
plain_empty [] h = refl
plain_empty (c ∷ s) h = absurd (omega arith)

pub plain_zero : (s : List ℕ) → 1 < length s → get_or s 0 0 ≡ 48 → plain_number s ≡ false
unfolding plain_number
plain_zero [] h e = absurd (omega arith)
plain_zero (c ∷ []) h e = absurd (omega arith)
plain_zero (c ∷ d ∷ s) h e = rw (eq-eqb c 48 e)

pub plain_one : (s : List ℕ) → length s ≢ 0 → length s ≤ 1 → plain_number s ≡ true
unfolding plain_number
plain_one [] h k = absurd (h refl)
plain_one (c ∷ []) h k = refl
plain_one (c ∷ d ∷ s) h k = absurd (omega arith)

pub plain_more : (s : List ℕ) → 1 < length s → get_or s 0 0 ≢ 48 → plain_number s ≡ true
unfolding plain_number
plain_more [] h e = absurd (omega arith)
plain_more (c ∷ []) h e = absurd (omega arith)
plain_more (c ∷ d ∷ s) h e = rw (ne_eqb c 48 e)

-- a number with digits behind it is no smaller
pub onto_grows : (n : ℕ) (s : List ℕ) → n ≤ onto n s
unfolding onto
onto_grows n [] = omega arith
onto_grows n (c ∷ s) = omega (arith, onto_grows (n * 10 + (c - 48)) s)

module _ (most : ℕ) (s : List ℕ) where
  pub number_is : numeral s ≡ true → onto 0 s ≤ most → number most s ≡ Some (onto 0 s)
  unfolding number
  number_is e h = rw (e, le-leb (onto 0 s) most h)

  pub too_large : numeral s ≡ true → most < onto 0 s → number most s ≡ None
  unfolding number
  too_large e h = rw (e, lt-leb (onto 0 s) most h)

  pub no_number : numeral s ≡ false → number most s ≡ None
  unfolding number
  no_number e = rw (e)

  pub number_bound : (n : ℕ) → number most s ≡ Some n → n ≤ most
  unfolding number
  number_bound n e = cases (numeral s && leb (onto 0 s) most) refl e
    where
      cases : (b : Bool) → (numeral s && leb (onto 0 s) most) ≡ b → cond b (Some (onto 0 s)) None ≡ Some n → n ≤ most
      cases true t q =
          let m : onto 0 s ≡ n = cc in
          omega (arith, leb-true (onto 0 s) most (and_right (numeral s) (leb (onto 0 s) most) t))
      cases false t q = let never : ◌≡◌ {A = ℕ} 0 1 = cc in absurd (omega arith)
