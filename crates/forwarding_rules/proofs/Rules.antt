-- The rule of a hop, said of the bytes of a table: the listed arcs are those to the listed places, so none of them is live exactly where no link to a
-- listed place is up, and the first live one leads to the first listed place whose link is up. By recursion on the places.
-- Assumes nothing.
use Prim.Native.Nat.{ℕ, zero, suc, ◌<◌}
use mathlib.Core.List.Memᴰ
use mathlib.Core.List.{List, [], ◌∷◌, ◌++◌, append_assoc, Memᴰ}
use mathlib.Core.Logic.{◌↔◌, ◌⊎◌, inl, inr, ⊎_elim}
use mathlib.Core.Option.{some, none-ne-some, some-injective}
use mathlib.Core.Path.{◌≡◌, refl, sym, ap, ◌∙◌, subst}
use native.Mathlib.Decide.{dec_lt}
use native.Mathlib.Omega.{arith}
use lib.Dec.{eqb, eqb→eq}
use lib.ListN.{length, get_or}
use Rattle.network.specs.Network.{Arc, arcs_of}
use Rattle.network.specs.Routing.{first_live}
use Rattle.network.specs.Theorems.Routing.{Up, AllDown, FirstLive}
use Rattle.network.proofs.Tests.{eq_test}
use Rattle.network.proofs.Lists.{mem_keep, keep_mem}
use Rattle.network.proofs.Live.{live_behind, first-live, down_or_live}
use Rattle.topology_types.specs.declared.Topology.{Topology}
use Rattle.topology_types.specs.Topology.{network_of}
use Rattle.order.proofs.Ranges.{get_d_mem, mem_get_d}
use Rattle.topology.specs.Written.{joined_over}
use Rattle.table.specs.Listed.{places_in, arcs_to, entries_in}
use Rattle.forwarding_rules.specs.Theorems.{ListsPlace, UpTo, NoneUp, FirstUp}

module _ {A B : Type 0} (f : A → List B) where
  -- what stands in lists laid end to end stands in one of them
  pub mem_joined : (xs : List A) {b : B} → Memᴰ b (joined_over f xs) → (x : A) × Memᴰ x xs × Memᴰ b (f x)
  unfolding joined_over
  mem_joined [] m = absurd (Memᴰ.not-nil m)
  mem_joined (x ∷ xs) m =
      ⊎_elim (λ k. (x, Memᴰ.head refl, k)) (λ k. let (y, l, h) = mem_joined xs k in (y, Memᴰ.tail l, h)) (Memᴰ.append_cases (f x) m)

  pub joined_mem : (xs : List A) {x : A} {b : B} → Memᴰ x xs → Memᴰ b (f x) → Memᴰ b (joined_over f xs)
  unfolding joined_over
  joined_mem [] m k = absurd (Memᴰ.not-nil m)
  joined_mem (y ∷ xs) {b = b} m k =
      ⊎_elim (λ e. Memᴰ.append_left (joined_over f xs) (subst (λ (z : A). Memᴰ b (f z)) e k)) (λ l. Memᴰ.append_right (f y) (joined_mem xs l k))
      (Memᴰ.cases_cons m)

module _ (t : Topology) (states : List ℕ) (u : ℕ) where
  -- an arc to v that is live is a link to v that is up
  live_to : (v : ℕ) (a : Arc) → Memᴰ a (arcs_to (network_of t) u v) → Up states a.link → UpTo t states u v
  unfolding arcs_to
  live_to v a m up = let (k, e) = mem_keep (λ (b : Arc). eqb b.to v) (arcs_of (network_of t) u) m in (a, k, eqb→eq _ _ e, up)

  to_live : (v : ℕ) → UpTo t states u v → (a : Arc) × Memᴰ a (arcs_to (network_of t) u v) × Up states a.link
  unfolding arcs_to
  to_live v (a, m, e, up) = (a, keep_mem (λ (b : Arc). eqb b.to v) (arcs_of (network_of t) u) m (eq_test e), up)

  -- of a list of places v is the first whose link is up
  record FirstOf (places : List ℕ) (v : ℕ) : Type 0 where
    turn : ℕ
    within : turn < length places
    stands : get_or places turn 0 ≡ v
    live : UpTo t states u v
    down : (j : ℕ) → j < turn → UpTo t states u (get_or places j 0) → ⊥

  first_of : (places : List ℕ) (a : Arc) → first_live states (joined_over (arcs_to (network_of t) u) places) ≡ some a → FirstOf places a.to
  unfolding joined_over first_live live_to
  first_of [] a e = absurd (none-ne-some a e)
  first_of (v ∷ places) a e = step (down_or_live states (arcs_to (network_of t) u v)) (first_of places a)
    where
      here : List Arc
      here = arcs_to (network_of t) u v

      rest : List Arc
      rest = joined_over (arcs_to (network_of t) u) places

      step : AllDown states here ⊎ ((b : Arc) × FirstLive states here b) → (first_live states rest ≡ some a → FirstOf places a.to) →
          FirstOf (v ∷ places) a.to
      step (inl none_here) later =
          let r = later (sym (live_behind states here rest none_here) ∙ e) in
          record {
            turn = suc r.turn;
            within = omega (arith, r.within);
            stands = r.stands;
            live = r.live;
            down = λ j. down_at r j;
          }
        where
          down_at : (r : FirstOf places a.to) (j : ℕ) → j < suc r.turn → UpTo t states u (get_or (v ∷ places) j 0) → ⊥
          down_at r zero h up = let (b, m, live) = to_live v up in none_here b m live
          down_at r (suc j) h up = r.down j (omega arith) up
      step (inr (b, f)) later =
          let all : FirstLive states (here ++ rest) b =
          record {
            before = f.before;
            after = f.after ++ rest;
            stands = ap (λ (l : List Arc). l ++ rest) f.stands ∙ append_assoc f.before (b ∷ f.after) rest;
            down = f.down;
            live = f.live;
          } in
          let same : b ≡ a = some-injective b a (sym (first-live states (here ++ rest) b all) ∙ e) in
          let up : UpTo t states u v =
          live_to v b (subst (Memᴰ b) (sym f.stands) (Memᴰ.append_right f.before (Memᴰ.head refl))) f.live in
          let there : v ≡ a.to = sym up.2 ∙ ap (λ (c : Arc). c.to) same in
          record {
            turn = 0;
            within = omega arith;
            stands = there;
            live = subst (UpTo t states u) there up;
            down = λ j h. absurd (omega arith);
          }

  module _ (table : List ℕ) where
    lists : (v : ℕ) → Memᴰ v (places_in table u) → (j : ℕ) × ListsPlace table u j v
    lists v m = let (j, h, e) = mem_get_d 0 m in (j, (h, e))

    listed : (j v : ℕ) → ListsPlace table u j v → Memᴰ v (places_in table u)
    listed j v (h, e) = subst (λ (w : ℕ). Memᴰ w (places_in table u)) e (get_d_mem (places_in table u) j 0 h)

    -- no listed arc is live exactly where no link to a listed place is up
    pub down_none_up : AllDown states (entries_in (network_of t) table u) ↔ NoneUp t table states u
    unfolding entries_in
    down_none_up = (
      λ down j v l up. let (a, m, live) = to_live v up in down a (joined_mem (arcs_to (network_of t) u) (places_in table u) (listed j v l) m) live,
      λ none a m live.
          let (v, k, h) = mem_joined (arcs_to (network_of t) u) (places_in table u) m in
          let (j, l) = lists v k in
          none j v l (live_to v a h live),
    )

    -- the first live arc leads to the first listed place whose link is up
    leads_first : (a : Arc) → FirstLive states (entries_in (network_of t) table u) a → FirstUp t table states u a.to
    unfolding entries_in
    leads_first a f =
        let r = first_of (places_in table u) a (first-live states (joined_over (arcs_to (network_of t) u) (places_in table u)) a f) in
        record {
          turn = r.turn;
          listed = (r.within, r.stands);
          live = r.live;
          down = λ j w k (l, e) up. r.down j k (subst (UpTo t states u) (sym e) up);
        }

    -- only one place is the first whose link is up
    one_first : (v w : ℕ) → FirstUp t table states u v → FirstUp t table states u w → v ≡ w
    one_first v w f g = step (dec_lt f.turn g.turn) (dec_lt g.turn f.turn)
      where
        step : Dec (f.turn < g.turn) → Dec (g.turn < f.turn) → v ≡ w
        step (yes h) k = absurd (g.down f.turn v h f.listed f.live)
        step (no h) (yes k) = absurd (f.down g.turn w k g.listed g.live)
        step (no h) (no k) =
            let e : f.turn ≡ g.turn = omega arith in
            sym f.listed.1 ∙ ap (λ (j : ℕ). get_or (places_in table u) j 0) e ∙ g.listed.1

    pub first_live_up : (v : ℕ) → ((a : Arc) × FirstLive states (entries_in (network_of t) table u) a × (a.to ≡ v)) ↔ FirstUp t table states u v
    first_live_up v = (λ (a, f, e). subst (FirstUp t table states u) e (leads_first a f), back)
      where
        back : FirstUp t table states u v → (a : Arc) × FirstLive states (entries_in (network_of t) table u) a × (a.to ≡ v)
        back g =
            ⊎_elim (λ down. absurd (down_none_up.0 down g.turn v g.listed g.live)) (λ (a, f). (a, f, one_first a.to v (leads_first a f) g))
            (down_or_live states (entries_in (network_of t) table u))
