-- k rounds count every path of at most k arcs; cutting out what lies between two visits of a router makes no path dearer, so N - 1 rounds count all.
-- Assumes nothing.
use Prim.Native.Nat.{ℕ, zero, suc, pred, ◌+◌, ◌*◌, ◌≤◌, ◌<◌}
use mathlib.Core.Bool.{Bool, true, false, cond}
use mathlib.Core.List.Memᴰ
use mathlib.Core.List.{List, [], ◌∷◌, Memᴰ, map}
use mathlib.Core.Logic.{inl, inr, ⊎_elim}
use mathlib.Core.Path.{◌≡◌, refl, sym, ◌∙◌, ap, subst}
use native.Mathlib.Decide.{dec_lt}
use native.Mathlib.Nat.{le_refl, add-zero, add-suc, add_comm, le_antisymm, lt_of_not-le, le_of_suc-le-suc}
use native.Mathlib.Omega.{arith}
use lib.Dec.{eqb}
use lib.ListN.{length, get_or, get_or-eq_default}
use lib.Seq.{ext_get_or}
use borrow.Author.Tests.{eqb-true, eq-eqb, ne_eqb}
use Rattle.network.specs.Lists.{below, least_by, Distinct, nothing, then}
use Rattle.network.specs.Network.{Network, size, arcs_of, greatest_cost, WellFormed}
use Rattle.network.specs.Distance.{PathTo, arrived, along, path_cost, path_hops, absent, distance_in, through, at_first_lem, round, rounds, distances}
use Rattle.network.specs.Distance.{distance}
use Rattle.network.specs.Theorems.Distance.{DistanceExact, DistancesExact, RoundExact, RoundsExact, RoundsEnd, RoundsSettle}
use Rattle.network.proofs.Below.{get_d_below, get_d_past, length_map_below}
use Rattle.network.proofs.Pigeon.{at_most, member?, distinct_cons}
use Rattle.network.proofs.Least.{OneOf, least_start, least_each, least_from}

-- the routers that a path visits, its ends among them
visited : {n : Network} {d u : ℕ} → PathTo n d u → List ℕ
visited {u = u} (arrived e) = u ∷ []
visited {u = u} (along a m p) = u ∷ visited p

visited_length : {n : Network} {d u : ℕ} (p : PathTo n d u) → length (visited p) ≡ suc (path_hops p)
unfolding visited path_hops
visited_length (arrived e) = refl
visited_length (along a m p) = ap suc (visited_length p)

others : {x : ℕ} {xs : List ℕ} → Distinct (x ∷ xs) → Distinct xs
others (then ne dist) = dist

-- a path from u that costs at most c and visits no router twice
Simple : Network → ℕ → ℕ → ℕ → Type 0
Simple n d c u = (p : PathTo n d u) × (path_cost p ≤ c) × Distinct (visited p)

-- the part of a path from a router that it visits on
part_from : {n : Network} {d u v c : ℕ} (p : PathTo n d v) → path_cost p ≤ c → Distinct (visited p) → Memᴰ u (visited p) → Simple n d c u
unfolding visited Simple path_cost
part_from {n} {d} {c = c} (arrived e) le dist m = subst (Simple n d c) (sym (Memᴰ.eq_of_singleton m)) (arrived e, le, dist)
part_from {n} {d} {u} {v} {c} (along a l p) le dist m =
    ⊎_elim (λ (e : u ≡ v). subst (Simple n d c) (sym e) (along a l p, le, dist)) (part_from p (omega arith) (others dist)) (Memᴰ.cases_cons m)

simple : {n : Network} {d u : ℕ} (p : PathTo n d u) → Simple n d (path_cost p) u
unfolding visited Simple path_cost
simple (arrived e) = (arrived e, le_refl 0, distinct_cons Memᴰ.not-nil nothing)
simple {n} {d} {u} (along a m p) = let r = simple p in cut r (member? u (visited r.0))
  where
    cut : (r : Simple n d (path_cost p) a.to) → Dec (Memᴰ u (visited r.0)) → Simple n d (path_cost (along a m p)) u
    cut r (yes v) = part_from r.0 (omega (arith, r.1)) r.2 v
    cut r (no nv) = (along a m r.0, omega (arith, r.1), distinct_cons nv r.2)

module _ (n : Network) (w : WellFormed n) (d : ℕ) (d_in : d < size n) where
  no_arcs : {u : ℕ} → size n ≤ u → arcs_of n u ≡ []
  unfolding arcs_of
  no_arcs h = get_or-eq_default n.arcs [] (omega (arith, w.each_place))

  pub starts_in : {u : ℕ} → PathTo n d u → u < size n
  starts_in (arrived e) = rw e d_in
  starts_in {u} (along a m p) = step (dec_lt u (size n))
    where
      step : Dec (u < size n) → u < size n
      step (yes h) = h
      step (no nh) = absurd (Memᴰ.not-nil (rw (no_arcs {u = u} (omega arith)) at m))

  visited_in : {u : ℕ} (p : PathTo n d u) (v : ℕ) → Memᴰ v (visited p) → v < size n
  unfolding visited
  visited_in (arrived e) v m = rw (Memᴰ.eq_of_singleton m ∙ e) d_in
  visited_in {u} (along a l p) v m =
      ⊎_elim (λ (e : v ≡ u). rw e (starts_in {u = u} (along a l p))) (visited_in p v) (Memᴰ.cases_cons m)

  cost_bound : {u : ℕ} (p : PathTo n d u) → path_cost p ≤ path_hops p * greatest_cost
  unfolding path_cost path_hops greatest_cost
  cost_bound (arrived e) = le_refl 0
  cost_bound {u} (along a m p) = omega (arith, cost_bound p, (w.sound u a m).cost_most)

  -- the distance of u after k rounds
  D : ℕ → ℕ → ℕ
  D k u = distance_in n (rounds n d k) u

  -- where f gives the distances by place, and none past the last place, the distance of u is what f gives at u
  placed : (f : ℕ → ℕ) → ((u : ℕ) → size n ≤ u → f u ≡ absent n) → (u : ℕ) → distance_in n (map f (below (size n))) u ≡ f u
  unfolding distance_in
  placed f past u = step (dec_lt u (size n))
    where
      step : Dec (u < size n) → get_or (map f (below (size n))) u (absent n) ≡ f u
      step (yes h) = get_d_below f (size n) u (absent n) h
      step (no nh) = let h : size n ≤ u = omega arith in get_d_past f (size n) u (absent n) h ∙ sym (past u h)

  rounds_length : (k : ℕ) → length (rounds n d k) ≡ size n
  unfolding rounds round at_first_lem
  rounds_length zero = length_map_below _ (size n)
  rounds_length (suc k) = length_map_below _ (size n)

  D-first : (u : ℕ) → D 0 u ≡ cond (eqb u d) 0 (absent n)
  unfolding D rounds at_first_lem
  D-first = placed (λ u. cond (eqb u d) 0 (absent n)) (λ u h. rw (ne_eqb u d (omega arith)))

  D-next : (k u : ℕ) → D (suc k) u ≡ least_by (through n (rounds n d k)) (D k u) (arcs_of n u)
  unfolding D rounds round distance_in least_by
  D-next k =
      placed (λ u. least_by (through n (rounds n d k)) (D k u) (arcs_of n u))
      (λ u h. rw (no_arcs {u = u} h) (get_or-eq_default (rounds n d k) (absent n) (omega (arith, rounds_length k))))

  D-falls : (k u : ℕ) → D (suc k) u ≤ D k u
  D-falls k u = rw D-next (least_start _ _ (arcs_of n u))

  D-most : (k u : ℕ) → D k u ≤ absent n
  D-most zero u = rw D-first (step (eqb u d))
    where
      step : (b : Bool) → cond b 0 (absent n) ≤ absent n
      step true = omega arith
      step false = omega arith
  D-most (suc k) u = omega (arith, D-falls k u, D-most k u)

  -- no path of at most k arcs costs less
  D-least : (k : ℕ) {u : ℕ} (p : PathTo n d u) → path_hops p ≤ k → D k u ≤ path_cost p
  unfolding D path_hops path_cost through
  D-least zero {u} (arrived e) h = rw (D-first, eq-eqb u d e) (le_refl 0)
  D-least (suc k) {u} (arrived e) h = omega (arith, D-falls k u, D-least k {u = u} (arrived e) (omega arith))
  D-least zero (along a m p) h = absurd (omega arith)
  D-least (suc k) {u} (along a m p) h =
      rw D-next (omega (arith, least_each (through n (rounds n d k)) (D k u) m, D-least k p (omega arith)))

  -- where there is a distance it is the cost of a path of at most k arcs
  D-attained : (k u : ℕ) → D k u < absent n → (p : PathTo n d u) × (path_hops p ≤ k) × (path_cost p ≡ D k u)
  unfolding D path_cost path_hops through
  D-attained zero u h = step (eqb u d) refl (D-first u)
    where
      step : (b : Bool) → eqb u d ≡ b → D 0 u ≡ cond b 0 (absent n) → (p : PathTo n d u) × (path_hops p ≤ 0) × (path_cost p ≡ D 0 u)
      step true e v = (arrived (eqb-true u d e), le_refl 0, sym v)
      step false e v = absurd (omega arith)
  D-attained (suc k) u h = step (rw (← D-next k u) at (least_from (through n (rounds n d k)) (D k u) (arcs_of n u))) (D-attained k)
    where
      step : OneOf (through n (rounds n d k)) (D k u) (arcs_of n u) (D (suc k) u)
          → ((v : ℕ) → D k v < absent n → (p : PathTo n d v) × (path_hops p ≤ k) × (path_cost p ≡ D k v))
          → (p : PathTo n d u) × (path_hops p ≤ suc k) × (path_cost p ≡ D (suc k) u)
      step (inl e) before = let r = before u (omega arith) in (r.0, omega (arith, r.1), r.2 ∙ sym e)
      step (inr (a, m, e)) before = let r = before a.to (omega arith) in (along a m r.0, omega (arith, r.1), omega (arith, r.2))

  -- from round N - 1 on no path costs less, and each costs less than the distance that stands for no path
  D-settled : (k : ℕ) → pred (size n) ≤ k → {u : ℕ} (p : PathTo n d u) → (D k u ≤ path_cost p) × (D k u < absent n)
  unfolding Simple absent greatest_cost
  D-settled k h {u} p =
      let q : Simple n d (path_cost p) u = simple p in
      let short : length (visited q.0) ≤ size n = at_most (size n) (visited q.0) q.2 (visited_in q.0) in
      let len : length (visited q.0) ≡ suc (path_hops q.0) = visited_length q.0 in
      let le : D k u ≤ path_cost q.0 = D-least k q.0 (omega arith) in
      let bound : path_cost q.0 ≤ path_hops q.0 * greatest_cost = cost_bound q.0 in
      (omega (arith, q.1), omega arith)

  -- so no round, earlier or later, has a lower distance: it is absent or the cost of a path
  D-no-more : (k j : ℕ) → pred (size n) ≤ k → (u : ℕ) → D k u ≤ D j u
  D-no-more k j h u = step (dec_lt (D j u) (absent n))
    where
      step : Dec (D j u < absent n) → D k u ≤ D j u
      step (yes lt) = let r = D-attained j u lt in omega (arith, (D-settled k h r.0).0, r.2)
      step (no nlt) = omega (arith, D-most k u)

  round_exact : (k u : ℕ) → RoundExact n d k u
  unfolding D
  round_exact k u = record { least = D-least k; attained = D-attained k u; most = D-most k u }

  exact : (u : ℕ) → DistanceExact n d u
  unfolding D distance distances
  exact u =
      record {
        attained = λ h. let r = D-attained (pred (size n)) u h in (r.0, r.2);
        least = λ p. (D-settled (pred (size n)) (le_refl _) p).0;
        present = λ p. (D-settled (pred (size n)) (le_refl _) p).1;
        missing = λ none. le_antisymm (D-most (pred (size n)) u) (le_of_suc-le-suc (lt_of_not-le (λ lt. none (D-attained (pred (size n)) u lt).0)));
      }

  settled : (k : ℕ) → rounds n d (pred (size n) + k) ≡ distances n d
  unfolding D distance_in distances
  settled k =
      ext_get_or (absent n) _ _ (rounds_length (pred (size n) + k) ∙ sym (rounds_length (pred (size n))))
      (λ u h. le_antisymm (D-no-more (pred (size n) + k) (pred (size n)) (omega arith) u) (D-no-more (pred (size n)) (pred (size n) + k) (omega arith) u))

  still : (k : ℕ) → rounds n d (suc k) ≡ rounds n d k → (j : ℕ) → rounds n d (k + j) ≡ rounds n d k
  unfolding rounds
  still k e zero = rw add-zero
  still k e (suc j) = rw (add-suc, still k e j) e

  ends : RoundsEnd n d
  ends =
      record {
        by_place = rounds_length;
        settled = settled;
        still = still;
        stopped = λ k e. sym (still k e (pred (size n))) ∙ ap (rounds n d) (add_comm k (pred (size n))) ∙ settled k;
      }

pub distances_exact : DistancesExact
distances_exact = exact

pub rounds_exact : RoundsExact
rounds_exact = round_exact

pub rounds_settle : RoundsSettle
rounds_settle = ends
