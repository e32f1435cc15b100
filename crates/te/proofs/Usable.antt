-- A bandwidth is compared with 1 by cross products, so the comparisons of IEEE 754 are those of whole numbers; and by its 32 bits it is at least 1 from the
-- exponent's field 127 on.
-- Assumes nothing.
use Prim.Native.Nat.{ℕ, zero, suc, ◌+◌, ◌*◌, ◌/◌, ◌%◌, ◌^◌, ◌≤◌, ◌<◌}
use mathlib.Core.Bool.{Bool, true, false, ◌&&◌, ◌||◌, true≢false, false≢true}
use mathlib.Core.Logic.{◌↔◌, inl, inr}
use mathlib.Core.Path.{◌≡◌, refl, sym, subst, ◌∙◌}
use native.Mathlib.Nat.{le_trans, le_of_eq, lt_of_le_of_lt, lt_of_lt_of_le, not-le_of_lt}
use native.Mathlib.Nat.{mul-one, one-mul, mul_comm, mul-le-mul, mul-le-mul_right, le_of_mul-le-mul_right}
use native.Mathlib.Omega.{arith, by_contra}
use borrow.Author.Tests.{le-leb, ltb-true, ltb-false, eqb-true, eqb-false, lt-leb, ne_eqb}
use denote.Floats.{passes, is_true}
use lib.Arith.{lt_of_le-ne}
use lib.Dec.{T, ltb, leb, eqb, leb→le, le→leb, lit≤, lit<}
use lib.IntN.{ℤ, pos}
use lib.Pow.{pow_pos, pow_mono}
use lib.Ieee.{Float, nan, inf, fin, binary32, up, down, odd, lt, le, of_int, of_fields}
use lib.Ieee.Fits.{down_pos}
use lib.Ieee.Exact.{HasValue, odd_sign}
use Rattle.te.specs.SubTlvs.{usable}
use Rattle.te.specs.Theorems.{UsableEach, UsablePatterns}
use Rattle.te.proofs.Patterns.{unsigned, none_from}
use Rattle.te.proofs.Says.{split}

-- below or level, as a test of IEEE 754 has it
below_or_level : (a b : ℕ) → (ltb a b || (eqb a b && true)) ≡ leb a b
below_or_level a b = go (ltb a b) refl
  where
    level : (t : Bool) → ltb a b ≡ false → eqb a b ≡ t → (t && true) ≡ leb a b
    level true l e = sym (le-leb a b (omega (arith, eqb-true a b e)))
    level false l e = sym (lt-leb a b (lt_of_le-ne (ltb-false a b l) (λ q. eqb-false a b e (sym q))))

    go : (t : Bool) → ltb a b ≡ t → (t || (eqb a b && true)) ≡ leb a b
    go true e = sym (le-leb a b (omega (arith, ltb-true a b e)))
    go false e = level (eqb a b) e refl

one : of_int binary32 (pos 1) ≡ fin false 1 (pos 0)
unfolding of_int
one = refl

no_and : (b : Bool) → (b && false) ≡ false
no_and true = refl
no_and false = refl

module _ (m : ℕ) (e : ℤ) where
  at_least : le (fin false 1 (pos 0)) (fin false m e) ≡ leb (down e) (m * up e)
  unfolding le
  at_least = rw (mul-one (m * up e), one-mul (down e)) (below_or_level (down e) (m * up e))

  not_signed : le (fin false 1 (pos 0)) (fin true m e) ≡ false
  unfolding le
  not_signed = rw (one-mul (down e), ne_eqb (down e) 0 (λ z. omega (arith, down_pos e))) (no_and (eqb (down e) (m * up e * 1)))

pub usable_each : UsableEach
unfolding usable lt le
usable_each nan = (λ u. absurd u, λ (l, h). absurd (false≢true (rw one at l)))
usable_each (inf true) = (λ u. absurd u, λ (l, h). absurd (false≢true (rw one at l)))
usable_each (inf false) = (λ u. absurd u, λ (l, h). absurd (false≢true h))
usable_each (fin true m e) = (λ u. absurd u, λ (l, h). absurd (false≢true (sym (not_signed m e) ∙ (rw one at l))))
usable_each (fin false m e) = (
  λ u. (rw (one, at_least m e) (is_true (leb (down e) (m * up e)) u), refl),
  λ (l, h). passes (leb (down e) (m * up e)) (sym (at_least m e) ∙ (rw one at l)),
)

-- a fraction that is not negative can be used exactly where it is not below 1
by_value : (x : Float) (a c : ℕ) → 0 < c → HasValue x false a c → T (usable x) ↔ (c ≤ a)
unfolding usable
by_value nan a c p v = absurd v
by_value (inf s) a c p v = absurd v
by_value (fin true m e) a c p v = absurd (true≢false v.0)
by_value (fin false m e) a c p v = (
  λ u.
      le_of_mul-le-mul_right
      (le_trans (le_of_eq (mul_comm c (down e))) (le_trans (mul-le-mul_right c (leb→le (down e) (m * up e) u)) (le_of_eq v.1)))
      (down_pos e),
  λ h.
      le→leb (down e) (m * up e)
      (le_of_mul-le-mul_right
      (le_trans (le_of_eq (mul_comm (down e) c)) (le_trans (mul-le-mul_right (down e) h) (le_of_eq (sym v.1)))) p),
)

-- q times 2 to the k of the smallest floats
by_digits : (q k : ℕ) → T (usable (odd 24 false q k 149)) ↔ (2 ^ 149 ≤ q * 2 ^ k)
by_digits q k = by_value (odd 24 false q k 149) (q * 2 ^ k) (2 ^ 149) (pow_pos 149) (odd_sign 24 false q k 149)

least : (t : ℕ) → 8388608 ≤ 8388608 + t
least t = omega arith

most : (t : ℕ) → t < 8388608 → 8388608 + t ≤ 16777215
most t l = omega arith

-- by the exponent's field and the digits
by_field : (x t : ℕ) → x < 255 → t < 8388608 → T (usable (of_fields binary32 false x t)) ↔ (127 ≤ x)
unfolding of_fields
by_field zero t h l = (λ u. absurd (not-le_of_lt (lt_of_le_of_lt (le_of_eq (mul-one t)) (lt_of_lt_of_le l (lit≤ tt))) ((by_digits t 0).0 u)), λ k. absurd (omega arith))
by_field (suc x) t h l = rw (ne_eqb (suc x) 255 (λ e. omega arith)) (
  λ u. by_contra 127 (suc x) (λ low. not-le_of_lt (small low) ((by_digits (8388608 + t) x).0 u)),
  λ high. (by_digits (8388608 + t) x).1 (le_trans (lit≤ tt) (mul-le-mul (least t) (pow_mono {i = 126} {j = x} (omega arith)))),
)
  where
    small : suc x < 127 → (8388608 + t) * 2 ^ x < 2 ^ 149
    small low =
        lt_of_le_of_lt (mul-le-mul (most t l) (pow_mono {i = x} {j = 125} (omega arith))) (lit< tt)

pub usable_patterns : UsablePatterns
usable_patterns n = elim (split n 2139095040) [
  | inr high ↦ (λ u. absurd (subst T (none_from n high) u), λ (low, below). absurd (omega arith))
  | inl below ↦
      let f = by_field (n / 8388608) (n % 8388608) (omega arith) (omega arith) in
      rw (unsigned n below) (λ u. (omega (arith, f.0 u), below), λ (low, b). f.1 (omega arith))
]
