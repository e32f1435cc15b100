-- Selection: IDs differ, so of any two routers one is preferred, and the foremost candidate has every other behind it.
-- Assumes nothing.
use Prim.Native.Nat.{ℕ, zero, suc, ◌<◌}
use mathlib.Core.List.{List, [], ◌∷◌, Memᴰ}
use mathlib.Core.Logic.{◌≢◌, ◌⊎◌, inl, inr, ⊎_elim}
use mathlib.Core.Path.{◌≡◌, refl, sym, ap}
use native.Mathlib.Decide.{ℕ_discrete}
use native.Mathlib.Nat.{not-suc-le-zero, le_of_suc-le-suc, le_antisymm}
use native.Mathlib.Omega.{arith}
use lib.Dec.{T}
use lib.ListN.{length, get_or}
use Rattle.network.specs.Lists.{below, keep, Distinct, nothing, then}
use Rattle.network.specs.Network.{Arc, Network, size, id_of, arcs_of, WellFormed}
use Rattle.network.specs.Distance.{distances}
use Rattle.network.specs.Order.{Mode, leads_into, candidate, placed_neighbours, preferred, select}
use Rattle.network.specs.Theorems.Order.{Candidate, Selected, SelectionRight, ArcsInto, NeighboursCounted}
use Rattle.network.proofs.Tests.{wins_fact, fact_wins, ties_trans, wins_either}
use Rattle.network.proofs.Lists.{mem_keep, keep_mem, pairwise_keep, member_mem, mem_member}
use Rattle.network.proofs.Sort.{pairwise_map, Decides, foremost_right, foremost_none}
use Rattle.network.proofs.Below.{mem_below, below_lt}
use Rattle.network.proofs.Pigeon.{no_longer}
use Rattle.network.proofs.Distance.{starts_in}
use Rattle.network.proofs.Candidate.{candidate_fact, fact_candidate}

pub get_d_mem : {A : Type 0} (xs : List A) (i : ℕ) (z : A) → i < length xs → Memᴰ (get_or xs i z) xs
get_d_mem [] i z h = absurd (not-suc-le-zero h)
get_d_mem (x ∷ xs) zero z h = Memᴰ.head refl
get_d_mem (x ∷ xs) (suc i) z h = Memᴰ.tail (get_d_mem xs i z (le_of_suc-le-suc h))

-- where elements differ, one element stands at one place
one_place : {A : Type 0} {xs : List A} → Distinct xs → (i j : ℕ) (z : A) → i < length xs → j < length xs → get_or xs i z ≡ get_or xs j z → i ≡ j
one_place nothing i j z h k e = absurd (not-suc-le-zero h)
one_place (then ne p) zero zero z h k e = refl
one_place (then {xs} ne p) zero (suc j) z h k e = absurd (ne _ (get_d_mem xs j z (le_of_suc-le-suc k)) e)
one_place (then {xs} ne p) (suc i) zero z h k e = absurd (ne _ (get_d_mem xs i z (le_of_suc-le-suc h)) (sym e))
one_place (then ne p) (suc i) (suc j) z h k e = ap suc (one_place p i j z (le_of_suc-le-suc h) (le_of_suc-le-suc k) e)

pub ids_apart : {n : Network} → WellFormed n → (u v : ℕ) → u < size n → v < size n → u ≢ v → id_of n u ≢ id_of n v
unfolding id_of size
ids_apart wf u v h k apart e = apart (one_place wf.ids-differ u v 0 h k e)

module _ (n : Network) (wf : WellFormed n) (d : ℕ) (in_network : d < size n) (mode : Mode) (placed : List ℕ) where
  candidates : List ℕ
  candidates = keep (candidate n (distances n d) mode placed) (below (size n))

  preferred_trans : (u v w : ℕ) → T (preferred n placed u v) → T (preferred n placed v w) → T (preferred n placed u w)
  unfolding preferred
  preferred_trans u v w s t =
      fact_wins
      (ties_trans (placed_neighbours n placed w) (placed_neighbours n placed v) (placed_neighbours n placed u) (λ h k. omega arith)
      (wins_fact _ _ _ _ t) (wins_fact _ _ _ _ s))

  decides : Decides (preferred n placed) candidates
  unfolding preferred candidates
  decides u v m k = step (ℕ_discrete u v)
    where
      place : {w : ℕ} → Memᴰ w candidates → w < size n
      place l = below_lt (size n) (mem_keep _ (below (size n)) l).0

      step : Dec (u ≡ v) → (u ≡ v) ⊎ (T (preferred n placed u v) ⊎ T (preferred n placed v u))
      step (yes e) = inl e
      step (no apart) = inr (wins_either _ _ _ _ (omega (arith, ids_apart wf u v (place m) (place k) apart)))

  among : (v : ℕ) → Candidate n d mode placed v → Memᴰ v candidates
  unfolding candidates
  among v c = keep_mem _ (below (size n)) (mem_below (starts_in n wf d in_network c.path)) (fact_candidate n wf d in_network mode placed v c)

  right : Selected n d mode placed
  unfolding select candidates preferred
  right =
      record {
        taken = λ u e.
            candidate_fact n wf d in_network mode placed u
            (mem_keep _ (below (size n)) (foremost_right (preferred n placed) preferred_trans candidates decides u e).0).1;
        others = λ u e v c apart.
            ⊎_elim (λ same. absurd (apart same)) (λ s. wins_fact _ _ _ _ s)
            ((foremost_right (preferred n placed) preferred_trans candidates decides u e).1 v (among v c));
        stuck = λ e v c. foremost_none (preferred n placed) candidates e v (among v c);
      }

pub selection_right : SelectionRight
selection_right = right

-- the arcs that lead into what is placed, each once, are those that are counted
pub neighbours_counted : NeighboursCounted
unfolding placed_neighbours leads_into
neighbours_counted n wf placed u = ((into, into_right), λ arcs (p, same). le_antisymm (no_longer arcs into_right.0 (λ a m. (same a).1 ((into_right.1 a).0 m))) (no_longer into p (λ a m. (into_right.1 a).1 ((same a).0 m))))
  where
    into : List Arc
    into = keep (leads_into placed) (arcs_of n u)

    into_right : ArcsInto n placed u into
    into_right = (
      pairwise_keep _ (pairwise_map (λ a b m k apart e. apart (ap (λ (c : Arc). c.to) e)) (wf.places_differ u)),
      λ a. (
        λ m. let (k, t) = mem_keep _ (arcs_of n u) m in (k, member_mem a.to placed t),
        λ (k, l). keep_mem _ (arcs_of n u) k (mem_member a.to placed l),
      ),
    )
