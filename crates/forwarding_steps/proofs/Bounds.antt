-- The greatest hop counts over an accepted table, from the lowest rank up, and for each rank along its places: that of a place is one more than the greatest of
-- its row's entries, all of lower rank, since no more hops than its rank are made from a place.
-- Assumes nothing.
use Prim.Native.Nat.{ℕ, suc, ◌+◌, ◌-◌, ◌≤◌, ◌<◌}
use mathlib.Core.List.Memᴰ
use mathlib.Core.List.{List, [], ◌∷◌, map, Memᴰ}
use mathlib.Core.Logic.{◌≢◌, ⊎_elim}
use mathlib.Core.Path.{◌≡◌, refl, sym, ap, ◌∙◌, subst}
use native.Mathlib.Omega.{arith}
use borrow.Author.Tests.{eq-eqb, ne_eqb}
use lib.Dec.{T}
use lib.ListN.{length, set, replicate, length-set, length-replicate, get_or-replicate}
use Rattle.std.specs.Prelude.{Option, Some, None}
use Rattle.network.specs.Lists.{greatest_by}
use Rattle.network.specs.Network.{Arc}
use Rattle.network.specs.Distance.{along}
use Rattle.network.specs.Forwarding.{longest}
use Rattle.network.proofs.Forwarding.{settled, walks_exact}
use Rattle.topology_types.specs.declared.Place.{Place}
use Rattle.topology_types.specs.declared.Rank.{Rank}
use Rattle.topology_types.specs.declared.Topology.{Topology}
use Rattle.topology_types.specs.Limits.{most_routers}
use Rattle.topology_types.specs.Topology.{network_of}
use Rattle.topology_sound.specs.Sound.{sound}
use Rattle.topology_sound.proofs.Sound.{sound_exact}
use Rattle.distances.proofs.Stored.{stored}
use Rattle.table.specs.Listed.{rank_in_lem, places_in, falling_rank, entries_in, listed}
use Rattle.forwarding_rules.specs.Calls.{by, figure, figure_byte}
use Rattle.forwarding_rules.proofs.Listed.{Over, reached_or}
use Rattle.forwarding_steps.specs.Inner.{bound_of, Bounded, before, LowestFrom, FiguresIn}

-- the greatest over a list of what h gives
greatest_over : {A B : Type 0} (f : A → ℕ) (g : B → ℕ) (h : A → B) (xs : List A) → ((x : A) → Memᴰ x xs → f x ≡ g (h x)) →
    greatest_by g (map h xs) ≡ greatest_by f xs
unfolding greatest_by
greatest_over f g h [] each = refl
greatest_over f g h (x ∷ xs) each =
    let here = each x (Memᴰ.head refl) in
    let rest = greatest_over f g h xs (λ y m. each y (Memᴰ.tail m)) in
    cc

-- The bounds of the places of ranks below r are their figures, of the last of these ranks as far as the places before u; that of a place without a rank is 255. Where
-- there is a u it is a place of that last rank.
pub record Known (t : Topology) (table : List ℕ) (r : ℕ) (u : Option Place) (bounds : List Rank) : Type 0 where
  pub long : length bounds ≡ most_routers
  pub most : r ≤ t.routers
  pub place : (p : Place) → u ≡ Some p → (p.0 < t.routers) × (rank_in_lem table p.0 + 1 ≡ r)
  pub each : (v : ℕ) → v < t.routers → rank_in_lem table v < r → (rank_in_lem table v + 1 ≡ r → v < before u) → bound_of bounds v ≡ figure t table v
  pub none_there : (v : ℕ) → v < t.routers → rank_in_lem table v ≡ 255 → bound_of bounds v ≡ 255

module _ {t : Topology} {table : List ℕ} (o : Over t table) where
  abbrev entries : ℕ → List Arc
  entries u = entries_in (network_of t) table u

  -- an entry is a place; both its ends have a path, so that it has a lower rank byte
  pub entry_in : (u : ℕ) (a : Arc) → Memᴰ a (entries u) → a.to < t.routers
  entry_in u a m = omega (arith, o.routers_are, (o.well_formed.sound u a (o.falling.arcs u a m)).place)

  entry_lower : (u : ℕ) → u < t.routers → (a : Arc) → Memᴰ a (entries u) → rank_in_lem table a.to < rank_in_lem table u
  entry_lower u h a m =
      let on = o.falling.onward u a m in
      omega (
        arith,
        o.falling.falls u a m,
        o.rank_reached u h (along a (o.falling.arcs u a m) on),
        o.rank_reached a.to (entry_in u a m) on,
      )

  -- where the bounds of lower ranks are the figures, so are those of its entries, and one more than the greatest of them is the figure
  abbrev Lower : List Rank → ℕ → Type 0
  Lower bounds u = (v : ℕ) → v < t.routers → rank_in_lem table v < rank_in_lem table u → bound_of bounds v ≡ figure t table v

  figure_next : (bounds : List Rank) (u : ℕ) → u < t.routers → Lower bounds u → greatest_by (λ v. suc (bound_of bounds v)) (places_in table u) ≡ figure t table u
  unfolding longest figure listed
  figure_next bounds u h known =
      rw (o.stands.places u)
      (greatest_over (λ (a : Arc). suc (figure t table a.to)) (λ v. suc (bound_of bounds v)) (λ a. a.to) (entries u)
      (λ a m. ap suc (sym (known a.to (entry_in u a m) (entry_lower u h a m))))
      ∙ settled (by t table) (falling_rank t.routers table) _ o.lawful t.routers u (omega (arith, o.rank_below u h)))

  module _ (good : T (sound t)) where
    pub few : t.routers ≤ most_routers
    few = ((sound_exact t).0 good).routers_most

    figure_few : (u : ℕ) → u < t.routers → figure t table u < most_routers
    unfolding figure
    figure_few u h =
        let below = o.rank_below u h in
        omega (arith, few, (walks_exact (by t table) (falling_rank t.routers table) _ o.lawful t.routers u (omega arith)).at_most_rank)

    -- no place is of a rank below 0
    pub none_known : Known t table 0 None (replicate most_routers (record { 0 = 255 }))
    unfolding bound_of
    none_known =
        record {
          long = length-replicate {A = Rank} most_routers (record { 0 = 255 });
          most = omega arith;
          place = λ p e. cc;
          each = λ v l h c. absurd (omega arith);
          none_there = λ v l e.
              ap (λ (x : Rank). x.0) (get_or-replicate {A = Rank} most_routers v (record { 0 = 255 }) (record { 0 = 0 }) (omega (arith, few)));
        }

    -- where every rank is passed, the bounds are the bytes reported
    pub all_known : (bounds : List Rank) → Known t table t.routers None bounds → FiguresIn t table (record { by = bounds })
    unfolding figure_byte before
    all_known bounds k =
        record {
          long = k.long;
          each = λ v h.
              ⊎_elim
              (λ path.
              let ranked = o.stands.reached v h path in
              rw (ne_eqb (rank_in_lem table v) 255 (λ e. omega (arith, few))) (k.each v h ranked (λ e. omega (arith, few))))
              (λ out. let e = o.stands.unreached v h out in rw (eq-eqb (rank_in_lem table v) 255 e) (k.none_there v h e))
              (reached_or o v);
        }

    -- behind the last place of a rank, on to the first of the next
    pub next_rank : {r : ℕ} {bounds : List Rank} → Known t table r None bounds → r < t.routers → (w : Option Place) → LowestFrom t.routers table r 0 w →
        Known t table (r + 1) w bounds
    unfolding before
    next_rank {r} k more w low =
        record {
          long = k.long;
          most = omega arith;
          place = λ p e. let (from, below, is) = low.stands p e in (below, omega arith);
          each = λ v h l c.
              let other : rank_in_lem table v ≢ r = λ e. low.none_before v (omega arith) h (c (omega arith)) e in
              k.each v h (omega arith) (λ e. omega (arith, few));
          none_there = k.none_there;
        }

    module _ {r : ℕ} {p : Place} {bounds : List Rank} (k : Known t table r (Some p) bounds) where
      pub place_in : p.0 < t.routers
      place_in = (k.place p refl).0

      ranked : rank_in_lem table p.0 + 1 ≡ r
      ranked = (k.place p refl).1

      pub rank-in : rank_in_lem table p.0 < t.routers
      rank-in = omega (arith, ranked, k.most)

      lower : Lower bounds p.0
      unfolding before
      lower v h l = let is = ranked in k.each v h (omega arith) (λ e. absurd (omega arith))

      pub bounded : Bounded (places_in table p.0) bounds
      bounded =
          record {
            long = k.long;
            places = (o.stands.rows p.0 place_in).places;
            few = λ v m.
                let (a, l, e) = Memᴰ.of_map (λ (b : Arc). b.to) (entries p.0) (subst (Memᴰ v) (o.stands.places p.0) m) in
                let here = entry_in p.0 a l in
                subst (λ (w : ℕ). bound_of bounds w < most_routers) e
                (omega (arith, lower a.to here (entry_lower p.0 place_in a l), figure_few a.to here));
          }

      -- the next place of its rank is higher
      pub higher : (w : Option Place) → LowestFrom t.routers table (rank_in_lem table p.0) (p.0 + 1) w → 255 - before w < 255 - p.0
      unfolding before
      higher None low = omega (arith, place_in, few)
      higher (Some q) low = omega (arith, place_in, few, (low.stands q refl).0)

      module _ (w : Option Place) (low : LowestFrom t.routers table (rank_in_lem table p.0) (p.0 + 1) w) where
        -- its figure stored, on to that
        pub next-place : (x : Rank) → x.0 ≡ greatest_by (λ v. suc (bound_of bounds v)) (places_in table p.0) → Known t table r w (set bounds p.0 x)
        unfolding bound_of before
        next-place x e =
            let right : x.0 ≡ figure t table p.0 = e ∙ figure_next bounds p.0 place_in lower in
            let inside : p.0 < length bounds = omega (arith, place_in, few, k.long) in
            let is = ranked in
            record {
              long = simp length-set k.long;
              most = k.most;
              place = λ q e. let (from, below, same) = low.stands q e in (below, omega arith);
              each =
                  stored (λ v (y : Rank). v < t.routers → rank_in_lem table v < r → (rank_in_lem table v + 1 ≡ r → v < before w) → y.0 ≡ figure t table v) bounds p.0 x
                  (record { 0 = 0 }) inside (λ h l c. right)
                  (λ v apart h l c.
                  k.each v h l
                  (λ last.
                  let past : p.0 < v → ⊥ = λ after. low.none_before v (omega arith) h (c last) (omega arith) in
                  omega arith));
              none_there =
                  stored (λ v (y : Rank). v < t.routers → rank_in_lem table v ≡ 255 → y.0 ≡ 255) bounds p.0 x (record { 0 = 0 }) inside
                  (λ h none. absurd (omega (arith, k.most, few))) (λ v apart h none. k.none_there v h none);
            }
