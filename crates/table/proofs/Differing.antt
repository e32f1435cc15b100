-- The first pair of bytes that differ stands at the first offset at which two tables of one length differ.
-- Assumes nothing.
use Rattle.std.proofs.Common.{◌≡◌, ℕ, suc, ◌<◌, ◌≤◌, Bool, true, false, cond, not, List, eqb, ltb, length, get_or, Some, None, Option, arith, refl, sym, ◌∙◌}
use Rattle.std.specs.List.{zip, position, position_or_len}
use Rattle.std.proofs.lemmas.List.Quantifiers.{position-Some}
use Rattle.std.proofs.lemmas.List.Sums.{fails_before_first}
use Rattle.std.proofs.lemmas.Slice.Zip.{get_or-zip, length-zip}
use borrow.Author.Tests.{ltb-false}
use Rattle.order.specs.Calls.{first_of}
use Rattle.order.proofs.First.{none_below, first_below, first_is}
use Rattle.table.specs.Calls.{differing}

-- past the end, if no element passes
past : {A : Type 0} (p : A → Bool) (xs : List A) → position p xs ≡ None → length xs ≤ position_or_len p xs
past p xs e = step (ltb (position_or_len p xs) (length xs)) refl e
  where
    step : (b : Bool) → ltb (position_or_len p xs) (length xs) ≡ b → cond b (Some (position_or_len p xs)) None ≡ None → length xs ≤ position_or_len p xs
    step true same e' = absurd cc
    step false same e' = ltb-false _ _ same

module _ (table other : List ℕ) (same : length table ≡ length other) where
  abbrev differ : ℕ → Bool
  differ i = not (eqb (get_or table i 0) (get_or other i 0))

  abbrev apart : ℕ × ℕ → Bool
  apart p = not (eqb p.0 p.1)

  long : length (zip table other) ≡ length table
  long = omega (arith, length-zip table other)

  at : (k : ℕ) → k < length table → apart (get_or (zip table other) k (0, 0)) ≡ differ k
  at k h = let there : k < length other = omega arith in rw (get_or-zip table other k (0, 0) h there)

  pub first_differing : position apart (zip table other) ≡ first_of (differing table other)
  unfolding differing
  first_differing = step (position apart (zip table other)) refl
    where
      step : (o : Option ℕ) → position apart (zip table other) ≡ o → o ≡ first_of (differing table other)
      step (Some i) e =
          let (within, passes, earlier) = position-Some apart (zip table other) i (0, 0) e in
          sym (first_is _ i (first_below differ (length table) i (suc i) (omega (arith, long))
          (λ k h. sym (at k (omega (arith, long, within))) ∙ earlier k h) (sym (at i (omega (arith, long))) ∙ passes)))
      step None e =
          let none = none_below differ (length table)
          (λ k h. sym (at k h) ∙ fails_before_first apart (zip table other) k (0, 0) (omega (arith, long, past apart (zip table other) e))) in
          rw none
