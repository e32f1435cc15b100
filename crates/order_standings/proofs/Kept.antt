-- The standings are right from the start on and after each router that is placed. What is known by them, candidates and who stands highest, is in Chosen
-- of `order`.
-- Assumes nothing.
use Prim.Native.Nat.{ℕ, ◌+◌, ◌*◌, ◌≤◌, ◌<◌}
use mathlib.Core.List.Memᴰ
use mathlib.Core.List.{List, [], ◌∷◌, ◌++◌, map, Memᴰ}
use mathlib.Core.Logic.{◌≢◌, ⊎_elim}
use mathlib.Core.Path.{◌≡◌, refl, ap, subst}
use native.Mathlib.Decide.{dec_lt, ℕ_discrete}
use native.Mathlib.Omega.{arith}
use lib.ListN.{length, get_or, set}
use lib.Seq.{get_or-set_same, get_or-set_other}
use Rattle.network.specs.Lists.{keep, member}
use Rattle.network.specs.Network.{Network, size, arcs_of}
use Rattle.network.specs.Order.{leads_into, placed_neighbours}
use Rattle.network.proofs.Tests.{truth}
use Rattle.network.proofs.Lists.{member_mem, mem_member}
use Rattle.arcs.specs.declared.Arcs.{Arcs}
use Rattle.arcs.specs.Inner.{arcs_at, leaving, ArcsHeld}
use Rattle.order_standings.specs.declared.Mode.{Mode}
use Rattle.order_standings.specs.declared.Mode.TheVariants as mode
use Rattle.order_standings.specs.Inner.{is_short, waits_for, FirstStandings, serving, standing_after, Room, StandingsAfter}
use Rattle.order_standings.proofs.Keeping.{none_kept}
use Rattle.order_standings.proofs.Counting.{waiting, leading_past, serving_past, neighbours_most, waiting_first, neighbours_step, waiting_step}
use Rattle.order_standings.proofs.Setting.{Setting, GoneBy}

-- the standings are right for the routers that are placed; `lower` is what ties are decided by
pub record Kept (n : Network) (ds : List ℕ) (m : Mode) (lower placed keys : List ℕ) : Type 0 where
  pub long : length keys ≡ 64
  pub unplaced : (u : ℕ) → u < size n → (Memᴰ u placed → ⊥) →
      get_or keys u 0 + waits_for m (waiting n ds placed u) * 1088 ≡ 17408 + placed_neighbours n placed u * 64 + get_or lower u 0
  pub low : (u : ℕ) → u < size n → Memᴰ u placed → get_or keys u 0 ≤ placed_neighbours n placed u * 64
  pub done : (u : ℕ) → u < size n → Memᴰ u placed → waits_for m (waiting n ds placed u) ≡ 0
  pub past : (u : ℕ) → size n ≤ u → u < 64 → get_or keys u 0 ≡ 0

-- a router is placed or not
pub placed_or : {C : Type 0} (u : ℕ) (placed : List ℕ) → (Memᴰ u placed → C) → ((Memᴰ u placed → ⊥) → C) → C
placed_or u placed there not = ⊎_elim (λ t. there (member_mem u placed t)) (λ f. not (λ l. f (mem_member u placed l))) (truth (member u placed))

module _ {n other : Network} (g : Setting n other) {ds slots : List ℕ} {m : Mode} (by : GoneBy n ds m slots) {lower : List ℕ} where
  pub kept_start : {a : Arcs} {keys : List ℕ} → ArcsHeld leaving n a → FirstStandings a slots lower m (size n) keys → Kept n ds m lower [] keys
  unfolding placed_neighbours leads_into member
  kept_start {a} held w =
      record {
        long = w.long;
        unplaced = λ u h _.
            let none-near : placed_neighbours n [] u ≡ 0 = none_kept (leads_into []) (arcs_of n u) (λ (b, k, t). t) in
            omega (arith, w.each u h, first u h m refl, none-near);
        low = λ u h l. absurd (Memᴰ.not-nil l);
        done = λ u h l. absurd (Memᴰ.not-nil l);
        past = w.past;
      }
    where
      first : (u : ℕ) → u < size n → (w : Mode) → m ≡ w →
          waits_for m (waiting n ds [] u) ≡ waits_for m (length (keep (is_short slots (get_or slots u 0)) (map leaving (arcs_at a u))))
      first u h mode.ShortestPath e = rw (held.arcs u h) (ap (waits_for m) (waiting_first g ds slots (by.shortest e) u h))
      first u h mode.Free e = unfold waits_for in rw e

  module _ {placed keys : List ℕ} (k : Kept n ds m lower placed keys) (p : ℕ) (p-in : p < size n) (out : Memᴰ p placed → ⊥)
      (ready : waits_for m (waiting n ds placed p) ≡ 0) where
    abbrev too : List ℕ
    too = placed ++ (p ∷ [])

    abbrev next : ℕ → ℕ
    next = standing_after (set keys p 0) (arcs_of other p) slots m p

    -- v waits for as many less as it is served
    waits_step : (v : ℕ) → v < size n →
        waits_for m (waiting n ds placed v) ≡ waits_for m (waiting n ds too v) + waits_for m (serving (arcs_of other p) slots p v)
    waits_step v h = by_mode m refl
      where
        by_mode : (w : Mode) → m ≡ w →
            waits_for m (waiting n ds placed v) ≡ waits_for m (waiting n ds too v) + waits_for m (serving (arcs_of other p) slots p v)
        by_mode mode.ShortestPath e = unfold waits_for in rw e (waiting_step g placed p p-in out ds slots (by.shortest e) v h)
        by_mode mode.Free e = unfold waits_for in rw e

    next_unplaced : (v : ℕ) → v < size n → (Memᴰ v placed → ⊥) → v ≢ p →
        next v + waits_for m (waiting n ds too v) * 1088 ≡ 17408 + placed_neighbours n too v * 64 + get_or lower v 0
    unfolding standing_after
    next_unplaced v h free apart =
        omega (arith, k.unplaced v h free, waits_step v h, neighbours_step g placed p p-in out v h, get_or-set_other keys p v 0 0 apart)

    next_placed : (v : ℕ) → v < size n → Memᴰ v placed → next v ≤ placed_neighbours n too v * 64
    unfolding standing_after
    next_placed v h l =
        omega (
          arith,
          k.low v h l,
          k.done v h l,
          waits_step v h,
          neighbours_step g placed p p-in out v h,
          get_or-set_other keys p v 0 0 (λ e. out (subst (λ (w : ℕ). Memᴰ w placed) e l)),
        )

    next_here : next p ≤ placed_neighbours n too p * 64
    unfolding standing_after
    next_here =
        omega (
          arith,
          ready,
          waits_step p p-in,
          neighbours_step g placed p p-in out p p-in,
          get_or-set_same keys p 0 0 (omega (arith, k.long, g.here.most)),
        )

    next_past : (v : ℕ) → size n ≤ v → v < 64 → next v ≡ 0
    unfolding standing_after waits_for
    next_past v past h = by_mode m
      where
        by_mode : (w : Mode) → standing_after (set keys p 0) (arcs_of other p) slots w p v ≡ 0
        by_mode mode.ShortestPath =
            omega (
              arith,
              k.past v past h,
              leading_past g p v p-in past,
              serving_past g slots p v p-in past,
              get_or-set_other keys p v 0 0 (λ e. omega arith),
            )
        by_mode mode.Free = omega (arith, k.past v past h, leading_past g p v p-in past, get_or-set_other keys p v 0 0 (λ e. omega arith))

    -- each router of the network is p, or placed before, or not placed
    each : {C : ℕ → Type 0} → C p → ((v : ℕ) → v < size n → Memᴰ v placed → C v) →
        ((v : ℕ) → v < size n → (Memᴰ v placed → ⊥) → v ≢ p → C v) → (v : ℕ) → v < size n → C v
    each {C} here old new v h = cases (ℕ_discrete v p)
      where
        cases : Dec (v ≡ p) → C v
        cases (yes e) = rw e here
        cases (no apart) = placed_or v placed (old v h) (λ free. new v h free apart)

    pub kept_room : ((v : ℕ) → v < size n → get_or lower v 0 < 64) → Room (set keys p 0) (arcs_of other p) slots m p
    kept_room small v h = bound v h (dec_lt v (size n))
      where
        few : (v : ℕ) → v < size n → placed_neighbours n too v ≤ 16
        few v l = omega (arith, neighbours_most n too v, g.here.few v l)

        bound : (v : ℕ) → v < 64 → Dec (v < size n) → next v ≤ 65535
        bound v h (yes l) =
            each {C = λ v. next v ≤ 65535} (omega (arith, next_here, few p p-in)) (λ w i o. omega (arith, next_placed w i o, few w i))
            (λ w i o apart. omega (arith, next_unplaced w i o apart, few w i, small w i)) v l
        bound v h (no past) = omega (arith, next_past v (omega arith) h)

    -- what is placed then is p, or was placed before
    either : {C : ℕ → Type 0} → C p → ((v : ℕ) → v < size n → Memᴰ v placed → C v) → (v : ℕ) → v < size n → Memᴰ v too → C v
    either {C} here old v h l =
        ⊎_elim (old v h) (λ o. ⊎_elim (λ e. rw e here) (λ o'. absurd (Memᴰ.not-nil o')) (Memᴰ.cases_cons o)) (Memᴰ.append_cases placed l)

    pub kept_step : {r : List ℕ} → StandingsAfter (set keys p 0) (arcs_of other p) slots m p r → Kept n ds m lower too r
    kept_step {r} st =
        let most = g.here.most in
        record {
          long = st.long;
          unplaced = λ v h free.
              rw (st.each v (omega arith)) (next_unplaced v h (λ l. free (Memᴰ.append_left (p ∷ []) l)) (λ e. free (Memᴰ.append_right placed (Memᴰ.head e))));
          low = λ v h l.
              rw (st.each v (omega arith)) (either {C = λ v. next v ≤ placed_neighbours n too v * 64} next_here next_placed v h l);
          done =
              either {C = λ v. waits_for m (waiting n ds too v) ≡ 0} (omega (arith, ready, waits_step p p-in))
              (λ v h l. omega (arith, k.done v h l, waits_step v h));
          past = λ v past h. rw (st.each v h) (next_past v past h);
        }
