-- The first of some places that has a rank, or 255; of the places from u on, with one more in front.
-- Assumes nothing.
use Rattle.std.proofs.Common.{◌≡◌, ℕ, Bool, true, false, cond, List, ◌∷◌, eqb, refl}
use Rattle.network.specs.Lists.{keep}
use Rattle.topology_types.specs.Outcome.{first_or}
use Rattle.table.specs.Listed.{rank_in_lem}

abbrev pub first_with : List ℕ → ℕ → List ℕ → ℕ
first_with table r us = first_or 255 (keep (λ u. eqb (rank_in_lem table u) r) us)

pub with_more : (table : List ℕ) (r u : ℕ) (us : List ℕ) → first_with table r (u ∷ us) ≡ cond (eqb (rank_in_lem table u) r) u (first_with table r us)
unfolding first_or
with_more table r u us = cases (eqb (rank_in_lem table u) r)
  where
    cases : (b : Bool) → first_or 255 (cond b (u ∷ keep (λ v. eqb (rank_in_lem table v) r) us) (keep (λ v. eqb (rank_in_lem table v) r) us))
        ≡ cond b u (first_or 255 (keep (λ v. eqb (rank_in_lem table v) r) us))
    cases true = refl
    cases false = refl
