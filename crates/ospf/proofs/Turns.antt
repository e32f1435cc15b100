-- Routers and halves taken in turn: all of them are taken, or there is a first fault, which refuses.
-- Assumes nothing.
use Prim.Native.Nat.{ℕ, zero, suc, ◌≤◌}
use mathlib.Core.List.{List, [], ◌∷◌, ◌++◌, append-nil}
use mathlib.Core.Path.{◌≡◌, refl, sym, ap, subst, ◌∙◌}
use native.Mathlib.Omega.{arith}
use lib.Seq.{append_snoc}
use Rattle.stream_rules.specs.declared.Reading.{Reading}
use Rattle.stream_rules.specs.Halves.{StreamListing}
use Rattle.stream_rules.specs.Reading.{refusal, accepted_reading, fault, added, unless, nothing_listed}
use Rattle.stream_rules.proofs.Faults.{unless_fault}
use Rattle.ospf.specs.Import.{Placed, taken_to}
use Rattle.ospf.specs.Inner.{as_listed}
use Rattle.ospf.specs.Theorems.{Taken, nothing, one_more, FaultAt}

module _ (last : StreamListing → Reading) where
  pub taken_on : (p : StreamListing) (r : Placed) (rs : List Placed) → fault p r.found ≡ 0 →
      taken_to last p (r ∷ rs) ≡ taken_to last (added p r.found) rs
  unfolding taken_to unless
  taken_on p r rs e = rw e

  pub taken_off : (p : StreamListing) (r : Placed) (rs : List Placed) → (fault p r.found ≡ 0 → ⊥) →
      taken_to last p (r ∷ rs) ≡ refusal (fault p r.found) r.at
  unfolding taken_to
  taken_off p r rs other = unless_fault _ r.at _ other

  pub after_taken : {before : List Placed} {p : StreamListing} → Taken before p → (rest : List Placed) →
      taken_to last nothing_listed (before ++ rest) ≡ taken_to last p rest
  unfolding nothing_listed
  after_taken nothing rest = refl
  after_taken (one_more {rs} {p} r t e) rest =
      ap (taken_to last nothing_listed) (append_snoc rs r rest) ∙ after_taken t (r ∷ rest) ∙ taken_on p r rest e

  pub all-taken : {rs : List Placed} {p : StreamListing} → Taken rs p → taken_to last nothing_listed rs ≡ last p
  unfolding taken_to
  all-taken {rs} t = ap (taken_to last nothing_listed) (sym (append-nil rs)) ∙ after_taken t []

  pub first_fault : {rs : List Placed} {number at : ℕ} → FaultAt rs (suc number) at → taken_to last nothing_listed rs ≡ refusal (suc number) at
  first_fault f =
      ap (taken_to last nothing_listed) f.turn
      ∙ after_taken f.taken (f.r ∷ f.after)
      ∙ taken_off f.listing f.r f.after (λ e. omega (arith, f.fails))
      ∙ rw (f.fails, f.there)

-- a refusal stands, whatever is taken behind
pub refused_before : (last : StreamListing → Reading) (number at : ℕ) → 1 ≤ number → (p : StreamListing) (rs rest : List Placed) →
    taken_to as_listed p rs ≡ refusal number at → taken_to last p (rs ++ rest) ≡ refusal number at
unfolding taken_to as_listed accepted_reading refusal unless
refused_before last number at some p [] rest e = absurd (omega (arith, some, ap (λ (r : Reading). r.answer.number) e))
refused_before last number at some p (r ∷ rs) rest e = go (refused_before last number at some (added p r.found) rs rest) (fault p r.found) e
  where
    go : (taken_to as_listed (added p r.found) rs ≡ refusal number at → taken_to last (added p r.found) (rs ++ rest) ≡ refusal number at) → (k : ℕ) →
        unless k r.at (taken_to as_listed (added p r.found) rs) ≡ refusal number at →
        unless k r.at (taken_to last (added p r.found) (rs ++ rest)) ≡ refusal number at
    go more zero e = more e
    go more (suc k) e = e

pub data Outcome (rs : List Placed) : Type 0 where
  done : (p : StreamListing) → Taken rs p → Outcome rs
  failed : (number at : ℕ) → FaultAt rs (suc number) at → Outcome rs

from : (rs before : List Placed) (p : StreamListing) → Taken before p → Outcome (before ++ rs)
from [] before p t = subst Outcome (sym (append-nil before)) (done p t)
from (r ∷ rs) before p t = cases (fault p r.found) refl (λ e. from rs (before ++ (r ∷ [])) (added p r.found) (one_more r t e))
  where
    cases : (number : ℕ) → fault p r.found ≡ number → (fault p r.found ≡ 0 → Outcome ((before ++ (r ∷ [])) ++ rs)) → Outcome (before ++ (r ∷ rs))
    cases zero e others = subst Outcome (append_snoc before r rs) (others e)
    cases (suc number) e others =
        failed number r.at
        (record { before = before; r = r; after = rs; turn = refl; listing = p; taken = t; fails = e; there = refl })

pub outcome : (rs : List Placed) → Outcome rs
outcome rs = from rs [] (record { contents = record { ids = []; links = []; limit = 3 }; lone = [] }) nothing
