-- A row of the destination's table has as many entries as `network`'s row, and the destination's own row is empty. So what is counted over all rows of the
-- tables is what the pairs and the rows give.
-- Assumes nothing.
use Prim.Native.Nat.{ℕ, zero, suc, ◌+◌, ◌*◌, ◌≤◌, ◌<◌}
use mathlib.Core.Bool.{not, ◌&&◌}
use mathlib.Core.List.{List, [], map, map-append}
use mathlib.Core.Path.{◌≡◌, refl, sym, ◌∙◌, ap}
use native.Mathlib.Decide.{ℕ_discrete}
use native.Mathlib.Nat.{mul-suc}
use native.Mathlib.Numerals.{add-one}
use native.Mathlib.Omega.{arith}
use borrow.Author.Tests.{eq-eqb, ne_eqb}
use lib.Dec.{T, eqb, leb}
use lib.ListN.{length, set, length-append, length-map}
use Rattle.network.specs.Lists.{numbers_from, below, keep}
use Rattle.network.specs.Network.{Arc, size}
use Rattle.network.specs.Order.{shortest-path, free, build}
use Rattle.network.proofs.Below.{below_lt, length_map_below}
use Rattle.network.proofs.Filled.{rows_filled}
use Rattle.network.proofs.Order.{acceptance_exact}
use Rattle.topology_types.specs.declared.Topology.{Topology}
use Rattle.topology_types.specs.Topology.{padded, network_of}
use Rattle.topology_sound.specs.Sound.{sound}
use Rattle.topology_sound.proofs.Sound.{sound_exact, sound_networks}
use Rattle.stream_rules.proofs.Held.{store_padded}
use Rattle.topology.specs.Written.{joined_over}
use Rattle.arcs.proofs.Slots.{below_more}
use Rattle.order_standings.proofs.Counts.{keep_append, count_most}
use Rattle.order_standings.proofs.Keeping.{keep_same, keep_keep, keep_map}
use Rattle.listing_rules.specs.Listing.{table_for}
use Rattle.listing_rules.proofs.Tables.{given, row_stands, places}
use Rattle.coverage_rules.specs.Coverage.{row_for, pairs_to, has_two, covered_among, listed_for}
use Rattle.coverage_rules.specs.Theorems.{total}
use Rattle.coverage_rules.specs.Inner.{listed_at, two_in, all_in, Countable}
use Rattle.coverage_rules.proofs.Lists.{joined_more}

-- sums of what agrees are equal, and of what is at most so much at most so many times that
pub total_same : (f g : ℕ → ℕ) (n : ℕ) → ((u : ℕ) → u < n → f u ≡ g u) → total f n ≡ total g n
unfolding total
total_same f g zero h = refl
total_same f g (suc n) h = omega (arith, h n (omega arith), total_same f g n (λ u k. h u (omega arith)))

pub total_most : (f : ℕ → ℕ) (most n : ℕ) → ((u : ℕ) → u < n → f u ≤ most) → total f n ≤ most * n
unfolding total
total_most f most zero h = omega arith
total_most f most (suc n) h = rw mul-suc (omega (arith, h n (omega arith), total_most f most n (λ u k. h u (omega arith))))

-- one number more
pub total_more : (f : ℕ → ℕ) (n : ℕ) → total f (n + 1) ≡ total f n + f n
unfolding total
total_more f n = rw add-one

-- rows one after the other
no_rows : {A : Type 0} (f : ℕ → List A) → length (joined_over f (below 0)) ≡ total (λ u. length (f u)) 0
unfolding joined_over below numbers_from total
no_rows f = refl

pub joined_total : {A : Type 0} (f : ℕ → List A) (n : ℕ) → length (joined_over f (below n)) ≡ total (λ u. length (f u)) n
joined_total f zero = no_rows f
joined_total f (suc n) = rw (← add-one, joined_more f n, length-append, joined_total f n, total_more)

module _ (t : Topology) (good : T (sound t)) (d : ℕ) (place : d < t.routers) where
  abbrev table : List ℕ
  table = table_for t d

  inside : d < size (network_of t)
  inside = omega (arith, (sound_networks t good).routers)

  count_is : (u : ℕ) → u < t.routers → listed_at table u ≡ length (row_for t d u)
  unfolding row_for
  count_is u h = ap length (places t good d place u h) ∙ length-map (row_for t d u) (λ (a : Arc). a.to)

  own_row : row_for t d d ≡ []
  unfolding row_for
  own_row =
      (rows_filled (network_of t) (sound_networks t good).well_formed d inside t.limit (build (network_of t) d shortest-path)
      ((acceptance_exact (network_of t) (sound_networks t good).well_formed d inside free _).1 (given t good d place).in_free)).no_entry

  -- a row of two entries or more is another router's
  test_same : (u : ℕ) → u < t.routers → (not (eqb u d) && leb 2 (length (row_for t d u))) ≡ leb 2 (listed_at table u)
  test_same u h = rw (count_is u h) (step (ℕ_discrete u d))
    where
      step : Dec (u ≡ d) → (not (eqb u d) && leb 2 (length (row_for t d u))) ≡ leb 2 (length (row_for t d u))
      step (yes e) = rw (e, own_row) (simp (eq-eqb d d refl))
      step (no o) = rw (ne_eqb u d o)

  pub covered_to : covered_among t (pairs_to t.routers d) ≡ two_in table t.routers
  unfolding covered_among pairs_to has_two two_in
  covered_to =
      keep_map (has_two t) _ (keep (λ u. not (eqb u d)) (below t.routers))
      ∙ ap length (keep_keep (λ u. leb 2 (length (row_for t d u))) (λ u. not (eqb u d)) (below t.routers))
      ∙ ap length (keep_same _ _ (below t.routers) (λ u m. test_same u (below_lt _ m)))

  pub covered_few : covered_among t (pairs_to t.routers d) ≤ t.routers
  unfolding two_in
  covered_few = omega (arith, covered_to, count_most (λ u. leb 2 (listed_at table u)) t.routers)

  pub listed_to : listed_for t d ≡ all_in table t.routers
  unfolding listed_for all_in
  listed_to = joined_total (row_for t d) t.routers ∙ sym (total_same _ _ t.routers count_is)

  pub countable : Countable table t.routers
  countable = record { routers = ((sound_exact t).0 good).routers_most; row = row_stands t good d place }

-- one destination more
pub covered_more : (t : Topology) (n d : ℕ) →
    covered_among t (joined_over (pairs_to n) (below (d + 1))) ≡ covered_among t (joined_over (pairs_to n) (below d)) + covered_among t (pairs_to n d)
unfolding covered_among
covered_more t n d = rw (joined_more (pairs_to n) d, keep_append, length-append)

pub listed_more : (t : Topology) (d : ℕ) → d < 64 →
    set (padded 0 64 (map (listed_for t) (below d))) d (listed_for t d) ≡ padded 0 64 (map (listed_for t) (below (d + 1)))
listed_more t d h =
    let many = length_map_below (listed_for t) d in
    rw (below_more d, map-append)
    (ap (λ (k : ℕ). set (padded 0 64 (map (listed_for t) (below d))) k (listed_for t d)) (sym many)
    ∙ store_padded 0 64 (map (listed_for t) (below d)) (listed_for t d) (rw many h))
