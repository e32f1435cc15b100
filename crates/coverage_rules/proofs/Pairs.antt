-- Of two pairs in the list the destinations differ, or the routers do, so each stands in it once. A destination has a pair with every router but itself.
-- Assumes nothing.
use Prim.Native.Nat.{ℕ, ◌*◌, ◌-◌, ◌<◌}
use mathlib.Core.Bool.{not}
use mathlib.Core.List.Memᴰ
use mathlib.Core.List.{List, ◌∷◌, Memᴰ}
use mathlib.Core.Logic.{◌↔◌, ◌≢◌, ⊎_elim}
use mathlib.Core.Path.{◌≡◌, refl, sym, ◌∙◌, ap}
use native.Mathlib.Decide.{ℕ_discrete}
use native.Mathlib.Nat.{mul_comm}
use native.Mathlib.Omega.{arith}
use lib.Dec.{eqb, eqb→eq, eqb_refl, T_not, not_T}
use lib.ListN.{length, length-map}
use Rattle.network.specs.Lists.{below, keep, Distinct}
use Rattle.network.proofs.Below.{below_distinct, below_lt, mem_below, length_below}
use Rattle.network.proofs.Lists.{mem_keep, keep_mem, pairwise_keep}
use Rattle.network.proofs.Pigeon.{at_most, no_longer, distinct_cons}
use Rattle.network.proofs.Sort.{pairwise_map}
use Rattle.forwarding_rules.proofs.Rules.{mem_joined, joined_mem}
use Rattle.coverage_rules.specs.Coverage.{Pair, pairs_to, pairs_of}
use Rattle.coverage_rules.proofs.Lists.{joined_wide, pairwise_joined, pairwise_over}

abbrev pair : ℕ → ℕ → Pair
pair d u = record { router = u; destination = d }

module _ (n d : ℕ) where
  -- the routers other than d
  abbrev others : List ℕ
  others = keep (λ u. not (eqb u d)) (below n)

  other : {u : ℕ} → Memᴰ u others → (u < n) × (u ≢ d)
  other {u} m =
      let (k, apart) = mem_keep (λ u. not (eqb u d)) (below n) m in
      (below_lt n k, λ e. T_not (eqb u d) apart (rw e (eqb_refl d)))

  others_have : {u : ℕ} → u < n → u ≢ d → Memᴰ u others
  others_have {u} h apart = keep_mem (λ u. not (eqb u d)) (below n) (mem_below h) (not_T (eqb u d) (λ t. apart (eqb→eq u d t)))

  others_once : Distinct others
  others_once = pairwise_keep (λ u. not (eqb u d)) (below_distinct n)

  pub of_one : {p : Pair} → Memᴰ p (pairs_to n d) → (p.router < n) × (p.router ≢ d) × (p.destination ≡ d)
  unfolding pairs_to
  of_one {p} m =
      let (u, k, e) = Memᴰ.of_map (pair d) others m in
      let (h, apart) = other k in
      let same : u ≡ p.router = ap (λ (q : Pair). q.router) e in
      (omega arith, λ z. apart (same ∙ z), ap (λ (q : Pair). q.destination) (sym e))

  -- d and the others are all
  others_many : d < n → length others ≡ n - 1
  others_many inside =
      let once = distinct_cons (λ m. (other m).1 refl) others_once in
      let most = at_most n (d ∷ others) once (λ u m. ⊎_elim (λ e. rw e inside) (λ k. (other k).0) (Memᴰ.cases_cons m)) in
      let least = no_longer (d ∷ others) (below_distinct n) (λ u m. either u (below_lt n m) (ℕ_discrete u d)) in
      omega (arith, most, least, length_below n)
    where
      either : (u : ℕ) → u < n → Dec (u ≡ d) → Memᴰ u (d ∷ others)
      either u h (yes e) = Memᴰ.head e
      either u h (no o) = Memᴰ.tail (others_have h o)

  of_one_once : Distinct (pairs_to n d)
  unfolding pairs_to
  of_one_once = pairwise_over (λ p q. p ≢ q) (pair d) (pairwise_map (λ u v m k apart e. apart (ap (λ (q : Pair). q.router) e)) others_once)

  of_one_many : d < n → length (pairs_to n d) ≡ n - 1
  unfolding pairs_to
  of_one_many inside = length-map others (pair d) ∙ others_many inside

module _ (n : ℕ) where
  pub pairs_once : Distinct (pairs_of n)
  unfolding pairs_of
  pairs_once =
      pairwise_joined (λ p q. p ≢ q) (pairs_to n) (λ d m. of_one_once n d)
      (pairwise_map (λ d e m k apart p q in-d in_e same. apart (sym (of_one n d in-d).2 ∙ ap (λ (r : Pair). r.destination) same ∙ (of_one n e in_e).2))
      (below_distinct n))

  pub pairs_each : (p : Pair) → Memᴰ p (pairs_of n) ↔ ((p.router < n) × (p.destination < n) × (p.router ≢ p.destination))
  unfolding pairs_of pairs_to
  pairs_each p = (
    λ m.
        let (d, k, l) = mem_joined (pairs_to n) (below n) m in
        let (h, apart, e) = of_one n d l in
        (h, rw e (below_lt n k), λ z. apart (z ∙ e)),
    λ (h, inside, apart). joined_mem (pairs_to n) (below n) (mem_below inside) (Memᴰ.map (pair p.destination) (others_have n p.destination h apart)),
  )

  pub pairs_many : length (pairs_of n) ≡ n * (n - 1)
  unfolding pairs_of
  pairs_many =
      joined_wide (pairs_to n) (n - 1) (below n) (λ d m. of_one_many n d (below_lt n m)) ∙ rw length_below (mul_comm (n - 1) n)
