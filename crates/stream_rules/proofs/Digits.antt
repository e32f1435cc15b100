-- Numbers in bytes, big-endian: a number is its quotient by 256 ^ w, and after it its last w bytes; so a number below 256 ^ w is what its w bytes
-- say, and what w bytes say is below 256 ^ w.
-- Assumes nothing.
use Prim.Native.Nat.{ℕ, zero, suc, ◌+◌, ◌*◌, ◌/◌, ◌%◌, ◌^◌, ◌<◌, ◌≤◌}
use mathlib.Core.List.Memᴰ
use mathlib.Core.List.{List, [], ◌∷◌, Memᴰ}
use mathlib.Core.Logic.{⊎_elim}
use mathlib.Core.Path.{◌≡◌, refl, ap}
use native.Mathlib.Nat.{zero-add, zero-mul, add-mul, mul_assoc, mul_comm, mul-le-mul_right, pow-suc}
use native.Mathlib.Nat.{div-one, div-eq_of_lt, div-add-mod', div-div-eq-div-mul}
use native.Mathlib.Omega.{arith}
use lib.ListN.{length}
use Rattle.stream_rules.specs.Stream.{big_endian_on, big_endian, in_bytes}

-- digits after n: n times the power, and what they say
pub after : (n : ℕ) (bs : List ℕ) → big_endian_on n bs ≡ n * 256 ^ length bs + big_endian bs
unfolding big_endian_on big_endian
after n [] = omega arith
after n (b ∷ bs) =
    let p = 256 ^ length bs in
    rw (after (n * 256 + b) bs, after (0 * 256 + b) bs, pow-suc 256 (length bs), add-mul (n * 256) b p, mul_assoc n 256 p, mul_comm 256 p, zero-add b)
    (omega arith)

pub length_bytes : (w x : ℕ) → length (in_bytes w x) ≡ w
unfolding in_bytes
length_bytes zero x = refl
length_bytes (suc w) x = ap suc (length_bytes w x)

pub byte_below : (w x b : ℕ) → Memᴰ b (in_bytes w x) → b < 256
unfolding in_bytes
byte_below zero x b m = absurd (Memᴰ.not-nil m)
byte_below (suc w) x b m = ⊎_elim (λ e. omega arith) (byte_below w x b) (Memᴰ.cases_cons m)

-- the quotient, and after it the bytes
carry : (q p : ℕ) → q / 256 * (p * 256) + q % 256 * p ≡ q * p
carry q p = rw (mul_comm p 256, ← mul_assoc (q / 256) 256 p, ← add-mul (q / 256 * 256) (q % 256) p, div-add-mod' q 256)

split : (w x : ℕ) → x / 256 ^ w * 256 ^ w + big_endian (in_bytes w x) ≡ x
unfolding in_bytes big_endian big_endian_on
split zero x = omega (arith, div-one x)
split (suc w) x =
    let q = x / 256 ^ w in
    rw (pow-suc 256 w, ← div-div-eq-div-mul x (256 ^ w) 256, after (0 * 256 + q % 256) (in_bytes w x), length_bytes w x, zero-add (q % 256))
    (omega (arith, carry q (256 ^ w), split w x))

pub digits : (w x : ℕ) → x < 256 ^ w → big_endian (in_bytes w x) ≡ x
digits w x h = omega (arith, rw (div-eq_of_lt h, zero-mul) at (split w x))

pub bytes_below : (bs : List ℕ) → ((b : ℕ) → Memᴰ b bs → b < 256) → big_endian bs < 256 ^ length bs
unfolding big_endian big_endian_on
bytes_below [] h = omega arith
bytes_below (b ∷ bs) h =
    let below = bytes_below bs (λ c m. h c (Memᴰ.tail m)) in
    let high : b ≤ 255 = omega (arith, h b (Memᴰ.head refl)) in
    rw (after (0 * 256 + b) bs, pow-suc 256 (length bs), zero-add b) (omega (arith, mul-le-mul_right (256 ^ length bs) high))
