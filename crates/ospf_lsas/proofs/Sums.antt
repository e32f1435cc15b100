-- An octet more at the end counts once in C0, and C0 with it once more in C1, by induction on the octets before it; remainders may be taken at each.
-- Assumes nothing.
use Prim.Native.Nat.{ℕ, ◌+◌, ◌%◌, ◌≤◌, ◌<◌}
use mathlib.Core.Bool.{Bool, true, false, not, ◌&&◌, ◌||◌}
use mathlib.Core.List.{List, [], ◌∷◌, ◌++◌}
use mathlib.Core.Logic.{◌≢◌}
use mathlib.Core.Path.{◌≡◌, refl, ap, ◌∙◌}
use native.Mathlib.Nat.{mul-add}
use native.Mathlib.Numerals.{add-one}
use native.Mathlib.Omega.{arith}
use borrow.Author.Tests.{eqb-true, eqb-false, eq-eqb, ne_eqb, not-false}
use lib.Dec.{eqb}
use lib.ListN.{length, get_or, take, drop, length-append}
use lib.Seq.{take-suc}
use Rattle.stream_rules.proofs.Stream.{two-at}
use Rattle.ospf_lsas.specs.Lsa.{checksum, c0, c1, wrong_sum}
use Rattle.stream_rules.specs.Theorems.{two_at}
use Rattle.ospf_lsas.specs.Theorems.{Sums, RightSum}
use Rattle.ospf_lsas.proofs.Malformed.{neither}

pub c0_next : (octets : List ℕ) (octet : ℕ) → c0 (octets ++ (octet ∷ [])) ≡ c0 octets + octet
unfolding c0
c0_next [] b = omega arith
c0_next (a ∷ octets) b = omega (arith, c0_next octets b)

pub c1_next : (octets : List ℕ) (octet : ℕ) → c1 (octets ++ (octet ∷ [])) ≡ c1 octets + c0 (octets ++ (octet ∷ []))
unfolding c0 c1
c1_next [] b = omega arith
c1_next (a ∷ octets) b =
    rw (length-append octets (b ∷ []), mul-add a 1 (length octets + 1), mul-add a (length octets) 1, mul-add a 1 (length octets))
    (omega (arith, c1_next octets b))

pub sums : Sums
unfolding c0 c1
sums = record { c0_none = refl; c1_none = refl; c0_next = c0_next; c1_next = c1_next }

-- the remainders of both sums over the first octets
pub record Summed (s : List ℕ) (i r0 r1 : ℕ) : Type 0 where
  pub sum_0 : r0 ≡ c0 (take i s) % 255
  pub sum_1 : r1 ≡ c1 (take i s) % 255

module _ (s : List ℕ) where
  pub of_none : Summed s 0 0 0
  unfolding c0 c1
  of_none = record { sum_0 = refl; sum_1 = refl }

  pub octet_added : {i r0 r1 : ℕ} → Summed s i r0 r1 → i < length s →
      Summed s (i + 1) ((r0 + get_or s i 0) % 255) ((r1 + (r0 + get_or s i 0) % 255) % 255)
  octet_added {i} so h =
      let before = take i s in
      let zero-sum = c0_next before (get_or s i 0) in
      let one-sum = c1_next before (get_or s i 0) in
      record {
        sum_0 = rw (add-one, take-suc s i 0 h) (omega (arith, zero-sum, so.sum_0));
        sum_1 = rw (add-one, take-suc s i 0 h) (omega (arith, zero-sum, one-sum, so.sum_0, so.sum_1));
      }

-- the tests of 27 in their order
module _ (s : List ℕ) (h : 18 ≤ length s) where
  checked : checksum s ≡ two_at s 16
  unfolding checksum
  checked = two-at s 16 h

  pub no_checksum : two_at s 16 ≡ 0 → wrong_sum s ≡ true
  unfolding wrong_sum
  no_checksum e = rw (checked, eq-eqb (two_at s 16) 0 e)

  module _ (some : two_at s 16 ≢ 0) where
    pub by_c1 : c0 (drop 2 s) % 255 ≡ 0 → wrong_sum s ≡ not (eqb (c1 (drop 2 s) % 255) 0)
    unfolding wrong_sum
    by_c1 e = rw (checked, ne_eqb (two_at s 16) 0 some, eq-eqb (c0 (drop 2 s) % 255) 0 e)

  pub by_sums : two_at s 16 ≢ 0 → wrong_sum s ≡ not (eqb (c0 (drop 2 s) % 255) 0 && eqb (c1 (drop 2 s) % 255) 0)
  unfolding wrong_sum
  by_sums some = rw (checked, ne_eqb (two_at s 16) 0 some) (go (eqb (c0 (drop 2 s) % 255) 0) (eqb (c1 (drop 2 s) % 255) 0))
    where
      go : (a b : Bool) → (not a || not b) ≡ not (a && b)
      go true b = refl
      go false b = refl

pub right_sum : RightSum
unfolding wrong_sum
right_sum s h = (
  λ e.
      let (front, sum_1) = neither _ _ e in
      let (some, sum_0) = neither _ _ front in
      (λ z. eqb-false _ _ some (checked s (omega arith) ∙ z), eqb-true _ _ (not-false _ sum_0), eqb-true _ _ (not-false _ sum_1)),
  λ (some, sum_0, sum_1). by_c1 s (omega arith) some sum_0 ∙ ap not (eq-eqb (c1 (drop 2 s) % 255) 0 sum_1),
)
