-- The field of a kind stands where the kind stands among the kinds, and is no longer than its line.
-- Assumes nothing.
use Rattle.std.proofs.Common.{◌≡◌, ℕ, ◌+◌, ◌≤◌, Bool, true, false, cond, not, List, [], ◌∷◌, map, Some, None, refl, arith, eqb, ltb, length}
use Rattle.std.proofs.lemmas.List.{length-map}
use Rattle.std.specs.List.{position, position_or_len}
use Rattle.text.specs.Fields.{before, field}
use Rattle.text.proofs.Scan.{field_length}
use Rattle.console_held.specs.Questions.{text_of_lem}

stands : {A : Type 0} (letter : A → ℕ) (sort : ℕ) (ks : List A) →
    length (before sort (map letter ks)) ≡ position_or_len (λ k. eqb (letter k) sort) ks
unfolding before
stands letter sort [] = refl
stands letter sort (k ∷ ks) = cases (eqb (letter k) sort) (stands letter sort ks)
  where
    cases : (b : Bool) {n : ℕ} → length (before sort (map letter ks)) ≡ n →
        length (cond b [] (letter k ∷ before sort (map letter ks))) ≡ cond (not b) (1 + n) 0
    cases true e = refl
    cases false e = omega (arith, e)

-- where a kind stands
module _ {A : Type 0} (letter : A → ℕ) (sort : ℕ) (ks : List A) (line absent : List ℕ) where
  both : length (map letter ks) ≡ length ks
  both = simp length-map

  pub text_found : {at : ℕ} → position (λ k. eqb (letter k) sort) ks ≡ Some at → text_of_lem sort (map letter ks) line absent ≡ field (at + 1) line
  unfolding text_of_lem
  text_found {at} e = rw (stands letter sort ks, both) (cases (ltb (position_or_len (λ k. eqb (letter k) sort) ks) (length ks)) _ e)
    where
      cases : (b : Bool) (n : ℕ) → cond b (Some n) None ≡ Some at → cond b (field (n + 1) line) absent ≡ field (at + 1) line
      cases true n e = let s : n ≡ at = cc in rw s
      cases false n e = cc

  pub text_absent : position (λ k. eqb (letter k) sort) ks ≡ None → text_of_lem sort (map letter ks) line absent ≡ absent
  unfolding text_of_lem
  text_absent e = rw (stands letter sort ks, both) (cases (ltb (position_or_len (λ k. eqb (letter k) sort) ks) (length ks)) _ e)
    where
      cases : (b : Bool) (n : ℕ) → cond b (Some n) None ≡ None → cond b (field (n + 1) line) absent ≡ absent
      cases true n e = cc
      cases false n e = refl

pub text_fits : (sort : ℕ) (kinds line absent : List ℕ) (most : ℕ) → length line ≤ most → length absent ≤ most →
    length (text_of_lem sort kinds line absent) ≤ most
unfolding text_of_lem
text_fits sort kinds line absent most h k = cases (ltb (length (before sort kinds)) (length kinds))
  where
    cases : (b : Bool) → length (cond b (field (length (before sort kinds) + 1) line) absent) ≤ most
    cases true = omega (arith, field_length (length (before sort kinds) + 1) line)
    cases false = k
