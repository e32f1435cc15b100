-- A product of a number of 16 bits and a significand of 24 has at most 40 bits, fewer than the 53 of an f64, so `round` changes nothing of it.
-- Assumes nothing.
use Prim.Native.Nat.{ℕ, zero, suc, ◌+◌, ◌-◌, ◌*◌, ◌%◌, ◌^◌, ◌≤◌, ◌<◌, zero-le}
use mathlib.Core.Bool.{Bool, true, false, ◌&&◌, true≢false}
use mathlib.Core.Logic.{◌↔◌, inl, inr}
use mathlib.Core.Path.{◌≡◌, refl, sym, ap, ◌∙◌, subst}
use native.Mathlib.Nat.{le_of_lt, le_trans, le_of_eq, lt_of_le_of_lt, lt_of_not-le, not-le_of_lt, le_of_suc-le-suc, zero-lt-suc, eq-zero-or-pos}
use native.Mathlib.Nat.{zero-mul, mul-one, one-mul, mul_comm, mul_assoc, mul-mul-mul_comm, mul-pos}
use native.Mathlib.Nat.{mul-le-mul, mul-le-mul_right, mul-lt-mul_of_pos_right, lt_of_mul-lt-mul_right}
use lib.Dec.{T, eqb, leb, ltb, leb→le, ltb→lt, lit≤, lit<}
use lib.IntN.{ℤ, pos, negsuc}
use lib.Pow.{pow-add, pow-lt}
use lib.Ieee.{Float, nan, inf, fin, binary32, binary64, up, down, round, mul, le, of_int, fits}
use lib.Ieee.Digits.{back}
use lib.Ieee.Fits.{and_l, and_r, down_pos}
use lib.Ieee.Exact.{HasValue, round_exact}
use lib.Ieee.Back.{round_whole}
use lib.Ieee.Order.{le_of_values}
use lib.Ieee.Positive.{positive_of_value, values_of_le}
use lib.Ieee.Scale.{round_same}
use denote.Floats.{passes, is_true}
use Rattle.te.specs.SubTlvs.{usable}
use Rattle.te.specs.Theorems.{ProductsExact}

-- the order of a fraction that is not negative and a whole number above 0
le_decides : (x y : Float) (a c b : ℕ) → 0 < b → 0 < c → HasValue x false a c → HasValue y false b 1 → (le x y ≡ true) ↔ (a ≤ b * c)
le_decides x y a c b B C h k = (
  λ t. elim (eq-zero-or-pos a) [
    | inl z ↦ subst (λ (n : ℕ). n ≤ b * c) (sym z) zero-le
    | inr p ↦ rw mul-one at (values_of_le x y a c b 1 (positive_of_value x a c h p) (positive_of_value y b 1 k B) h k (passes (le x y) t))
  ],
  λ l. is_true (le x y) (le_of_values x y a c b 1 C (zero-lt-suc 0) h k (rw mul-one l)),
)

-- what is known of a usable f32
record Held (m : ℕ) (e : ℤ) : Type 0 where
  significand : m < 2 ^ 24
  least : down e ≤ 2 ^ 149
  most : m * up e < 2 ^ 128 * down e

held : (m : ℕ) (e : ℤ) → T (fits binary32 (fin false m e)) → T (usable (fin false m e)) → Held m e
unfolding fits usable
held zero e t u = absurd (not-le_of_lt (down_pos e) (subst (λ (n : ℕ). down e ≤ n) (zero-mul (up e)) (leb→le (down e) (0 * up e) u)))
held (suc m) e t u =
    let a : Bool = eqb (suc m % 2) 1 in
    let b : Bool = ltb (suc m) (2 ^ 24) in
    let c : Bool = leb (down e) (2 ^ 149) in
    let d : Bool = ltb (suc m * up e) (2 ^ 128 * down e) in
    record {
      significand = ltb→lt (suc m) (2 ^ 24) (and_r a b (and_l (a && b) c (and_l (a && b && c) d t)));
      least = leb→le (down e) (2 ^ 149) (and_r (a && b) c (and_l (a && b && c) d t));
      most = ltb→lt (suc m * up e) (2 ^ 128 * down e) (and_r (a && b && c) d t);
    }

-- 2 to the e, in units of the smallest f64
scaled : (e : ℤ) → down e ≤ 2 ^ 149 → (j : ℕ) × (up e * 2 ^ 1074 ≡ 2 ^ j * down e)
scaled (pos k) h = (k + 1074, sym (pow-add 2 k 1074) ∙ sym (mul-one (2 ^ (k + 1074))))
scaled (negsuc k) h =
    let small : suc k ≤ 149 = le_of_suc-le-suc (lt_of_not-le (λ (g : 150 ≤ suc k). not-le_of_lt (pow-lt g) h)) in
    (1074 - suc k, one-mul (2 ^ 1074) ∙ ap (λ (n : ℕ). 2 ^ n) (sym (back 1074 (suc k) (le_trans small (lit≤ tt)))) ∙ pow-add 2 (1074 - suc k) (suc k))

regroup : (a b c d : ℕ) → a * (b * c) * d ≡ a * b * (c * d)
regroup a b c d = simp mul_assoc

last_out : (a b c d : ℕ) → a * (b * c) * d ≡ a * b * d * c
last_out a b c d = simp (mul_assoc, mul_comm)

-- the fraction rounds to itself
fraction : (c m : ℕ) (e : ℤ) → c < 65536 → Held m e → HasValue (round binary64 false (c * (m * up e)) (down e)) false (c * (m * up e)) (down e)
fraction c m e C h =
    let j = (scaled e h.least).0 in
    let is : c * (m * up e) * 2 ^ 1074 ≡ c * m * 2 ^ j * down e =
    regroup c m (up e) (2 ^ 1074) ∙ ap (λ (n : ℕ). c * m * n) (scaled e h.least).1 ∙ sym (mul_assoc (c * m) (2 ^ j) (down e)) in
    let bound : c * (m * up e) * 2 ^ 1074 ≤ 65536 * (2 ^ 128 * down e) * 2 ^ 1074 =
    mul-le-mul_right (2 ^ 1074) (mul-le-mul (le_of_lt C) (le_of_lt h.most)) in
    round_exact binary64 false (c * (m * up e)) (down e) (c * m) j (down_pos e)
    (lt_of_le_of_lt (mul-le-mul (le_of_lt C) (le_of_lt h.significand)) (lit< tt))
    (lt_of_mul-lt-mul_right (down e)
    (lt_of_le_of_lt (le_trans (le_of_eq (sym is)) (le_trans bound (le_of_eq (last_out 65536 (2 ^ 128) (down e) (2 ^ 1074)))))
    (mul-lt-mul_of_pos_right (lit< tt) (down_pos e))))
    is

-- a number and a float, multiplied
product : (x : Float) (c m : ℕ) (e : ℤ) → HasValue x false c 1 → c < 65536 → Held m e
    → HasValue (mul binary64 x (fin false m e)) false (c * (m * up e)) (down e)
unfolding mul
product nan c m e v C h = absurd v
product (inf s) c m e v C h = absurd v
product (fin true a b) c m e v C h = absurd (true≢false v.0)
product (fin false a b) c m e v C h =
    subst (λ (x : Float). HasValue x false (c * (m * up e)) (down e))
    (round_same binary64 false (c * (m * up e)) (down e) (a * up b * (m * up e)) (down b * down e) (down_pos e) (mul-pos (down_pos b) (down_pos e))
    (mul-mul-mul_comm c (m * up e) (down b) (down e)
    ∙ ap (λ (n : ℕ). n * (m * up e * down e)) (sym v.1 ∙ mul-one (a * up b))
    ∙ sym (mul_assoc (a * up b) (m * up e) (down e))))
    (fraction c m e C h)

whole : (c : ℕ) → c ≤ 2 ^ 53 → HasValue (of_int binary64 (pos c)) false c 1
unfolding of_int
whole c h = round_whole binary64 false c h

written : (x : Float) (a c : ℕ) → HasValue x false a c → (n : ℕ) × (d : ℤ) × (x ≡ fin false n d) × (n * up d * c ≡ a * down d)
written nan a c h = absurd h
written (inf s) a c h = absurd h
written (fin true n d) a c h = absurd (true≢false h.0)
written (fin false n d) a c h = (n, d, refl, h.1)

pub products_exact : ProductsExact
products_exact c m e C f u =
    let h = held m e f u in
    let p = mul binary64 (of_int binary64 (pos c)) (fin false m e) in
    let v = product (of_int binary64 (pos c)) c m e (whole c (le_trans (le_of_lt C) (lit≤ tt))) C h in
    let w = written p (c * (m * up e)) (down e) v in
    record {
      n = w.0;
      d = w.1;
      is = w.2;
      exact = w.3;
      decides = le_decides p (of_int binary64 (pos 12500000)) (c * (m * up e)) (down e) 12500000 (lit< tt) (down_pos e) v (whole 12500000 (lit≤ tt));
    }
