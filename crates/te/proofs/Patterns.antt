-- The pattern of a 32-bit float that is below the infinity's has no sign and is finite; any other is that of an infinity, a NaN or a number with a sign.
-- Assumes nothing.
use Prim.Native.Nat.{ℕ, zero, suc, ◌+◌, ◌*◌, ◌/◌, ◌%◌, ◌≤◌, ◌<◌}
use mathlib.Core.Bool.{Bool, true, false, not, cond}
use mathlib.Core.Path.{◌≡◌, refl, sym, ap, ◌∙◌}
use native.Mathlib.Nat.{mod-eq_of_lt, mul-one, one-mul}
use native.Mathlib.Omega.{arith}
use borrow.Author.Tests.{leb-true, leb-false, ne_eqb, lt-leb, le-ltb, lt-ltb, not-true, not-false}
use lib.Dec.{T, eqb, leb, ltb}
use lib.IntN.{ℤ}
use lib.Ieee.{Float, nan, inf, fin, binary32, up, down, odd, of_fields, of_bits, nan_bits, is_nan, lt}
use lib.Ieee.Bits.{nan_bits_above}
use Rattle.te.specs.SubTlvs.{usable}

-- what `odd` writes has the sign that it is given
signed : (d : ℕ) (s : Bool) (q k l : ℕ) → (m : ℕ) × (e : ℤ) × (odd d s q k l ≡ fin s m e)
unfolding odd
signed d s zero k l = (_, _, refl)
signed d s (suc q) k l = (_, _, refl)

by_fields : (n : ℕ) → of_bits binary32 n ≡ of_fields binary32 (leb 2147483648 n) (n % 2147483648 / 8388608) (n % 8388608)
unfolding of_bits
by_fields n = refl

below_ones : (x t : ℕ) → x < 255 → (m : ℕ) × (e : ℤ) × (of_fields binary32 false x t ≡ fin false m e)
unfolding of_fields
below_ones zero t h = signed 24 false t 0 149
below_ones (suc x) t h = rw (ne_eqb (suc x) 255 (λ e. omega arith)) (signed 24 false (8388608 + t) x 149)

module _ (n : ℕ) (h : n < 2139095040) where
  same : n % 2147483648 ≡ n
  same = mod-eq_of_lt (omega arith)

  pub no_nan : T (not (nan_bits binary32 n))
  no_nan = rw (nan_bits_above binary32 n, same, le-ltb 2139095040 n (omega arith)) tt

  pub unsigned : of_bits binary32 n ≡ of_fields binary32 false (n / 8388608) (n % 8388608)
  unsigned = rw (by_fields n, lt-leb 2147483648 n (omega arith), same) refl

  signless : (m : ℕ) × (e : ℤ) × (of_bits binary32 n ≡ fin false m e)
  signless = rw unsigned (below_ones (n / 8388608) (n % 8388608) (omega arith))

turned : (a b : ℕ) → ltb a b ≡ not (leb b a)
turned a b = go (leb b a) refl
  where
    go : (t : Bool) → leb b a ≡ t → ltb a b ≡ not t
    go true e = le-ltb a b (leb-true b a e)
    go false e = lt-ltb a b (leb-false b a e)

-- 1.0 by its pattern
below_one : (m : ℕ) (e : ℤ) → lt (fin false m e) (of_bits binary32 0x3f80_0000) ≡ not (usable (fin false m e))
unfolding lt of_bits usable
below_one m e = rw (mul-one (m * up e), one-mul (down e)) (turned (m * up e) (down e))

-- so the code's test decides where the pattern is below the infinity's
tested : (n : ℕ) → n < 2139095040 → lt (of_bits binary32 n) (of_bits binary32 0x3f80_0000) ≡ not (usable (of_bits binary32 n))
tested n h = let (m, e, is) = signless n h in rw is (below_one m e)

module _ (n : ℕ) (h : n < 2139095040) where
  pub too_low : lt (of_bits binary32 n) (of_bits binary32 0x3f80_0000) ≡ true → usable (of_bits binary32 n) ≡ false
  too_low e = not-true (usable (of_bits binary32 n)) (sym (tested n h) ∙ e)

  pub not_low : lt (of_bits binary32 n) (of_bits binary32 0x3f80_0000) ≡ false → usable (of_bits binary32 n) ≡ true
  not_low e = not-false (usable (of_bits binary32 n)) (sym (tested n h) ∙ e)

no_sign : (x t : ℕ) → usable (of_fields binary32 true x t) ≡ false
unfolding of_fields usable
no_sign zero t = let (m, e, is) = signed 24 true t 0 149 in rw is refl
no_sign (suc x) t = go (eqb (suc x) 255) (eqb t 0)
  where
    go : (a b : Bool) → usable (cond a (cond b (inf true) nan) (odd 24 true (8388608 + t) x 149)) ≡ false
    go true true = refl
    go true false = refl
    go false b = let (m, e, is) = signed 24 true (8388608 + t) x 149 in rw is refl

all_ones : (s : Bool) (t : ℕ) → usable (of_fields binary32 s 255 t) ≡ false
unfolding of_fields usable
all_ones s t = go (eqb t 0)
  where
    go : (b : Bool) → usable (cond b (inf s) nan) ≡ false
    go true = refl
    go false = refl

-- and from the infinity's pattern on there is none
pub none_from : (n : ℕ) → 2139095040 ≤ n → usable (of_bits binary32 n) ≡ false
none_from n h = go (leb 2147483648 n) refl
  where
    go : (s : Bool) → leb 2147483648 n ≡ s → usable (of_bits binary32 n) ≡ false
    go true e = rw (by_fields n, e) (no_sign _ _)
    go false e =
        let less : n < 2147483648 = leb-false 2147483648 n e in
        let field : n % 2147483648 / 8388608 ≡ 255 = ap (λ (k : ℕ). k / 8388608) (mod-eq_of_lt less) ∙ omega arith in
        rw (by_fields n, field) (all_ones (leb 2147483648 n) (n % 8388608))

-- a bandwidth that can be used is m times 2 to the e
pub finite : (x : Float) → T (usable x) → (m : ℕ) × (e : ℤ) × (x ≡ fin false m e)
unfolding usable
finite nan u = absurd u
finite (inf s) u = absurd u
finite (fin true m e) u = absurd u
finite (fin false m e) u = (m, e, refl)

-- and no NaN
pub number_if_usable : (x : Float) → T (usable x) → T (not (is_nan x))
unfolding usable is_nan
number_if_usable nan u = u
number_if_usable (inf s) u = tt
number_if_usable (fin s m e) u = tt
