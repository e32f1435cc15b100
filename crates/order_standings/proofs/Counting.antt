-- Placing one router more counts once for each router that has an arc to it, and these are the routers that its own arcs lead to, at what the way
-- back costs.
-- Assumes nothing.
use Prim.Native.Nat.{ℕ, ◌+◌, ◌≤◌, ◌<◌}
use mathlib.Core.Bool.{Bool, true, false, not, ◌&&◌, ◌||◌}
use mathlib.Core.List.{List, [], ◌∷◌, ◌++◌, Memᴰ}
use mathlib.Core.Logic.{◌↔◌, ◌≢◌}
use mathlib.Core.Path.{◌≡◌, refl, sym, ◌∙◌, ap, subst}
use native.Mathlib.Omega.{arith}
use lib.Dec.{T, eqb, eqb→eq}
use lib.ListN.{length, get_or}
use Rattle.network.specs.Lists.{keep, member}
use Rattle.network.specs.Network.{Arc, Network, size, arcs_of}
use Rattle.network.specs.Distance.{distance_in, through}
use Rattle.network.specs.Order.{shortest_next_hops, leads_into, placed_neighbours}
use Rattle.network.proofs.Tests.{both, and, eq_test}
use Rattle.network.proofs.Lists.{member_mem}
use Rattle.distances.proofs.Slots.{arc_place}
use Rattle.order_standings.specs.Inner.{is_short, leading, serving}
use Rattle.order_standings.proofs.Setting.{Setting, Agrees}
use Rattle.order_standings.proofs.Keeping.{once, keep_same, keep_all, keep_keep, kept_sum, kept_most, Found, none_kept, same_kept, member_snoc}

-- one that is placed after the others, and was not among them, adds to those placed and takes from those unplaced
added : (b c : Bool) → (T b → T c → ⊥) → once (b || c) ≡ once b + once c
added true true apart = absurd (apart tt tt)
added true false apart = refl
added false c apart = omega arith

taken : (s b c : Bool) → (T b → T c → ⊥) → once (s && not b) ≡ once (s && not (b || c)) + once (s && c)
taken false b c apart = refl
taken true true true apart = absurd (apart tt tt)
taken true true false apart = refl
taken true false true apart = refl
taken true false false apart = refl

-- the test passes the arcs to u whose cost has P
abbrev ArcsTo : ℕ → (ℕ → Type 0) → (Arc → Bool) → Type 0
ArcsTo u P f = (b : Arc) → T (f b) ↔ ((b.to ≡ u) × P b.cost)

pub neighbours_most : (n : Network) (placed : List ℕ) (v : ℕ) → placed_neighbours n placed v ≤ length (arcs_of n v)
unfolding placed_neighbours
neighbours_most n placed v = kept_most (leads_into placed) (arcs_of n v)

-- how many shortest next hops of v are not placed
abbrev pub waiting : Network → List ℕ → List ℕ → ℕ → ℕ
waiting n ds placed v = length (keep (λ b. not (leads_into placed b)) (shortest_next_hops n ds v))

module _ {n other : Network} (g : Setting n other) where
  -- v has as many arcs to u as the other ends have of u to v, over costs with P
  either_end : (u v : ℕ) → u < size n → v < size n → (P : ℕ → Type 0) (f h : Arc → Bool) → ArcsTo u P f → ArcsTo v P h →
      length (keep f (arcs_of n v)) ≡ length (keep h (arcs_of other u))
  either_end u v u_in v_in P f h f-is h_is =
      same_kept f h (apart u f f-is) (apart v h h_is) (g.here.formed.places_differ v) (g.back.formed.places_differ u)
      (there (λ c l. (g.opposite u v c l u_in v_in).1) f h f-is h_is) (there (λ c l. (g.opposite u v c l u_in v_in).0) h f h_is f-is)
    where
      apart : (w : ℕ) (k : Arc → Bool) → ArcsTo w P k → (b c : Arc) → T (k b) → T (k c) → b.to ≢ c.to → ⊥
      apart w k is b c s t differ = differ (((is b).0 s).0 ∙ sym ((is c).0 t).0)

      there : {x y : ℕ} {xs ys : List Arc} →
          ((cost link : ℕ) → Memᴰ (record { to = x; cost = cost; link = link }) xs → Memᴰ (record { to = y; cost = cost; link = link }) ys) →
          (j k : Arc → Bool) → ArcsTo x P j → ArcsTo y P k → Found j xs → Found k ys
      there {xs} across j k j-is k-is (b, m, t) =
          let (e, good) = (j-is b).0 t in
          (_, across b.cost b.link (subst (λ (w : ℕ). Memᴰ (record { to = w; cost = b.cost; link = b.link }) xs) e m), (k-is _).1 (refl, good))

  -- arcs of the other ends lead to routers of the network
  pub leading_past : (u v : ℕ) → u < size n → size n ≤ v → leading (arcs_of other u) v ≡ 0
  unfolding leading
  leading_past u v h past = none_kept _ (arcs_of other u) (λ (b, m, t). omega (arith, eqb→eq b.to v t, arc_place g.back u h b m))

  pub serving_past : (ds : List ℕ) (u v : ℕ) → u < size n → size n ≤ v → serving (arcs_of other u) ds u v ≡ 0
  unfolding serving
  serving_past ds u v h past =
      none_kept _ (arcs_of other u) (λ (b, m, t). omega (arith, eqb→eq b.to v (both (eqb b.to v) _ t).0, arc_place g.back u h b m))

  -- before any router is placed, each waits for as many as its arcs lead to
  pub waiting_first : (ds slots : List ℕ) → Agrees n ds slots → (u : ℕ) → u < size n →
      waiting n ds [] u ≡ length (keep (is_short slots (get_or slots u 0)) (arcs_of n u))
  unfolding shortest_next_hops leads_into member through is_short
  waiting_first ds slots agrees u h =
      ap length (keep_all _ (shortest_next_hops n ds u) (λ b. refl)) ∙ ap length (keep_same _ _ (arcs_of n u) same)
    where
      same : (b : Arc) → Memᴰ b (arcs_of n u) → eqb (b.cost + distance_in n ds b.to) (distance_in n ds u) ≡ eqb (b.cost + get_or slots b.to 0) (get_or slots u 0)
      same b m = rw (agrees b.to (g.here.formed.sound u b m).place, agrees u h)

  module _ (placed : List ℕ) (p : ℕ) (p-in : p < size n) (out : Memᴰ p placed → ⊥) where
    apart : (u : ℕ) → T (member u placed) → T (eqb u p) → ⊥
    apart u s t = out (subst (λ (w : ℕ). Memᴰ w placed) (eqb→eq u p t) (member_mem u placed s))

    -- v has one placed neighbour more if p is a neighbour
    pub neighbours_more : (v : ℕ) →
        placed_neighbours n (placed ++ (p ∷ [])) v ≡ placed_neighbours n placed v + length (keep (λ b. eqb b.to p) (arcs_of n v))
    unfolding placed_neighbours leads_into
    neighbours_more v =
        kept_sum _ _ _ (arcs_of n v)
        (λ b. rw (member_snoc b.to placed p) (added (member b.to placed) (eqb b.to p) (apart b.to)))

    pub neighbours_step : (v : ℕ) → v < size n →
        placed_neighbours n (placed ++ (p ∷ [])) v ≡ placed_neighbours n placed v + leading (arcs_of other p) v
    unfolding leading
    neighbours_step v h = omega (arith, neighbours_more v, to_p)
      where
        to_p : length (keep (λ b. eqb b.to p) (arcs_of n v)) ≡ length (keep (λ b. eqb b.to v) (arcs_of other p))
        to_p =
            either_end p v p-in h (λ c. Unit {0}) _ _ (λ b. (λ t. (eqb→eq _ _ t, tt), λ e. eq_test e.0))
            (λ b. (λ t. (eqb→eq _ _ t, tt), λ e. eq_test e.0))

    -- v waits for one less if p is one of its shortest next hops
    pub waiting_step : (ds slots : List ℕ) → Agrees n ds slots → (v : ℕ) → v < size n →
        waiting n ds placed v ≡ waiting n ds (placed ++ (p ∷ [])) v + serving (arcs_of other p) slots p v
    unfolding shortest_next_hops leads_into through serving
    waiting_step ds slots agrees v h = omega (arith, left placed, left (placed ++ (p ∷ [])), fewer, to_p)
      where
        short : Arc → Bool
        short b = eqb (b.cost + distance_in n ds b.to) (distance_in n ds v)

        serves : Arc → Bool
        serves b = eqb b.to v && eqb (b.cost + get_or slots p 0) (get_or slots v 0)

        left : (us : List ℕ) → waiting n ds us v ≡ length (keep (λ b. short b && not (leads_into us b)) (arcs_of n v))
        left us = ap length (keep_keep (λ b. not (leads_into us b)) short (arcs_of n v))

        fewer : length (keep (λ b. short b && not (leads_into placed b)) (arcs_of n v))
            ≡ length (keep (λ b. short b && not (leads_into (placed ++ (p ∷ [])) b)) (arcs_of n v))
            + length (keep (λ b. short b && eqb b.to p) (arcs_of n v))
        fewer =
            kept_sum _ _ _ (arcs_of n v)
            (λ b. rw (member_snoc b.to placed p) (taken (short b) (member b.to placed) (eqb b.to p) (apart b.to)))

        at_p : (b : Arc) → b.to ≡ p → short b ≡ eqb (b.cost + get_or slots p 0) (get_or slots v 0)
        at_p b e = rw (e, agrees p p-in, agrees v h)

        to_p : length (keep (λ b. short b && eqb b.to p) (arcs_of n v)) ≡ length (keep serves (arcs_of other p))
        to_p =
            either_end p v p-in h (λ c. c + get_or slots p 0 ≡ get_or slots v 0) _ _
            (λ b. (
              λ t.
                  let (s, e) = both (short b) (eqb b.to p) t in
                  let e' = eqb→eq _ _ e in
                  (e', eqb→eq _ _ (subst T (at_p b e') s)),
              λ (e, s). and (short b) (eqb b.to p) (subst T (sym (at_p b e)) (eq_test s)) (eq_test e),
            ))
            (λ b. (
              λ t. let (e, s) = both (eqb b.to v) _ t in (eqb→eq _ _ e, eqb→eq _ _ s),
              λ (e, s). and (eqb b.to v) _ (eq_test e) (eq_test s),
            ))
