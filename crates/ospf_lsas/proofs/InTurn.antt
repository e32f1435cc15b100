-- To skip the bytes of an LSA is to drop them, so that the LSAs from an offset on are one of them and those from its end on.
-- Assumes nothing.
use Prim.Native.Nat.{ℕ, zero, suc, ◌+◌, ◌-◌, ◌≤◌}
use mathlib.Core.Bool.{Bool, true, false, cond}
use mathlib.Core.List.{List, [], ◌∷◌}
use mathlib.Core.Path.{◌≡◌, refl, sym, ap, subst, ◌∙◌}
use native.Mathlib.Nat.{add-zero}
use native.Mathlib.Numerals.{sub-one}
use native.Mathlib.Omega.{arith}
use lib.ListN.{length, take, drop}
use Rattle.ospf_lsas.specs.Lsa.{length_field, malformed, wrong_sum, Lsa, lsas_from, lsas, first_at, first_malformed_lem, first_wrong_sum_lem}
use Rattle.stream_rules.specs.Theorems.{two_at}
use Rattle.ospf_lsas.specs.Theorems.{Consecutive, end, faulty, next, LsasConsecutive, FirstFault, no_fault, here, later, PointsAtFirst}
use Rattle.ospf_lsas.proofs.Fields.{fields_each}
use Rattle.ospf_lsas.proofs.Malformed.{cut}

skipped : (at n : ℕ) (s : List ℕ) → lsas_from at n s ≡ lsas_from (at + n) 0 (drop n s)
unfolding lsas_from
skipped at zero s = rw (add-zero at)
skipped at (suc n) [] = refl
skipped at (suc n) (b ∷ s) = skipped (at + 1) n s ∙ ap (λ (k : ℕ). lsas_from k 0 (drop n s)) (omega arith)

module _ (at : ℕ) where
  -- a malformed LSA is the last
  pub last : (s : List ℕ) → 1 ≤ length s → malformed s ≡ true → lsas_from at 0 s ≡ record { at = at; bytes = s } ∷ []
  unfolding lsas_from
  last [] h e = absurd (omega arith)
  last (b ∷ s) h e = rw e

  -- any other is followed by those from its end on
  pub followed : (s : List ℕ) → malformed s ≡ false →
      lsas_from at 0 s ≡ record { at = at; bytes = take (length_field s) s } ∷ lsas_from (at + length_field s) 0 (drop (length_field s) s)
  unfolding lsas_from
  followed [] e = absurd (omega (arith, (cut [] e).begun, (cut [] e).fits))
  followed (b ∷ s) e =
      rw e (ap (λ (rest : List Lsa). record { at = at; bytes = take long (b ∷ s) } ∷ rest) (skipped (at + 1) (long - 1) s ∙ same long positive))
    where
      long : ℕ
      long = length_field (b ∷ s)

      positive : 1 ≤ long
      positive = omega (arith, (cut (b ∷ s) e).begun)

      same : (n : ℕ) → 1 ≤ n → lsas_from (at + 1 + (n - 1)) 0 (drop (n - 1) s) ≡ lsas_from (at + n) 0 (drop n (b ∷ s))
      same zero h = absurd (omega arith)
      same (suc n) h = rw (sub-one (suc n)) (ap (λ (k : ℕ). lsas_from k 0 (drop n s)) (omega arith))

-- where the first LSA with a fault begins, from an offset on
pub none_found : (test : List ℕ → Bool) (size at : ℕ) (s : List ℕ) → length s ≡ 0 → first_at test size (lsas_from at 0 s) ≡ size
unfolding lsas_from first_at
none_found test size at [] h = refl
none_found test size at (b ∷ s) h = absurd (omega arith)

module _ (test : List ℕ → Bool) (size at : ℕ) (s : List ℕ) where
  module _ (e : malformed s ≡ false) where
    pub found : test (take (length_field s) s) ≡ true → first_at test size (lsas_from at 0 s) ≡ at
    unfolding first_at
    found t = rw (followed at s e, t)

    pub passed : test (take (length_field s) s) ≡ false →
        first_at test size (lsas_from at 0 s) ≡ first_at test size (lsas_from (at + length_field s) 0 (drop (length_field s) s))
    unfolding first_at
    passed t = ap (first_at test size) (followed at s e) ∙ rw t

-- the LSAs after so many bytes of one, by induction on the bytes
consecutive : (at n : ℕ) (s : List ℕ) → Consecutive (at + n) (drop n s) (lsas_from at n s)
unfolding lsas_from
consecutive at zero [] = end
consecutive at (suc n) [] = end
consecutive at (suc n) (b ∷ s) =
    subst (λ (k : ℕ). Consecutive k (drop n s) (lsas_from (at + 1) n s)) (omega arith) (consecutive (at + 1) n s)
consecutive at zero (b ∷ s) = rw (add-zero at) (cases (malformed (b ∷ s)) refl (consecutive (at + 1) (length_field (b ∷ s) - 1) s))
  where
    long : ℕ
    long = length_field (b ∷ s)

    back : (n : ℕ) → 1 ≤ n → (rest : List Lsa) → Consecutive (at + 1 + (n - 1)) (drop (n - 1) s) rest → Consecutive (at + n) (drop n (b ∷ s)) rest
    back zero h rest r = absurd (omega arith)
    back (suc n) h rest r = subst (λ (k : ℕ). Consecutive k (drop n s) rest) (omega arith) (rw (sub-one (suc n)) at r)

    cases : (m : Bool) → malformed (b ∷ s) ≡ m → Consecutive (at + 1 + (long - 1)) (drop (long - 1) s) (lsas_from (at + 1) (long - 1) s) →
        Consecutive at (b ∷ s)
        (cond m (record { at = at; bytes = b ∷ s } ∷ []) (record { at = at; bytes = take long (b ∷ s) } ∷ lsas_from (at + 1) (long - 1) s))
    cases true e r = faulty (b ∷ s) (omega arith) e
    cases false e r =
        let c = cut (b ∷ s) e in
        let is : long ≡ two_at (b ∷ s) 18 = (fields_each (b ∷ s) (omega (arith, c.begun, c.fits))).ls_length in
        subst (λ (n : ℕ). Consecutive at (b ∷ s) (record { at = at; bytes = take n (b ∷ s) } ∷ lsas_from (at + 1) (long - 1) s)) (sym is)
        (next (b ∷ s) e
        (subst (λ (n : ℕ). Consecutive (at + n) (drop n (b ∷ s)) (lsas_from (at + 1) (long - 1) s)) is
        (back long (omega (arith, c.begun)) (lsas_from (at + 1) (long - 1) s) r)))

pub lsas_consecutive : LsasConsecutive
unfolding lsas
lsas_consecutive file = consecutive 0 0 file

first_fault : (test : List ℕ → Bool) (size : ℕ) (ls : List Lsa) → FirstFault test size ls (first_at test size ls)
unfolding first_at
first_fault test size [] = no_fault
first_fault test size (l ∷ ls) = cases (test l.bytes) refl (first_fault test size ls)
  where
    cases : (b : Bool) → test l.bytes ≡ b → FirstFault test size ls (first_at test size ls) →
        FirstFault test size (l ∷ ls) (cond b l.at (first_at test size ls))
    cases true e r = here l e
    cases false e r = later l e r

pub points_at_first : PointsAtFirst
unfolding first_malformed_lem first_wrong_sum_lem
points_at_first file = (first_fault malformed (length file) (lsas file), first_fault wrong_sum (length file) (lsas file))
