-- Going against one arc more: the router that it leads to is as far as before or as by way of the arc's router, whichever is nearer.
-- Assumes nothing.
use Prim.Native.Nat.{ℕ, ◌+◌, ◌≤◌, ◌<◌}
use mathlib.Core.List.Memᴰ
use mathlib.Core.List.{List, [], ◌∷◌, ◌++◌, Memᴰ}
use mathlib.Core.Logic.{◌⊎◌, inl, inr, ⊎_elim}
use mathlib.Core.Path.{◌≡◌, refl, ◌∙◌}
use native.Mathlib.Decide.{dec_lt}
use native.Mathlib.Nat.{le_refl}
use native.Mathlib.Omega.{arith}
use lib.ListN.{length, get_or, set, length-set}
use lib.Seq.{get_or-set_same}
use Rattle.std.specs.Prelude.{min}
use Rattle.network.specs.Network.{Arc}
use Rattle.distances.specs.Inner.{Relaxed}
use Rattle.distances.proofs.Stored.{stored}

module _ (arcs : List Arc) (here : ℕ) (old new : List ℕ) (so_far : Relaxed arcs here old new) (b : Arc) (place : b.to < 64) where
  least : ℕ
  least = min (get_or new b.to 0) (b.cost + here)

  inside : b.to < length new
  inside = let long = so_far.long in omega arith

  lower : (v : ℕ) → get_or (set new b.to least) v 0 ≤ get_or new v 0
  unfolding least
  lower = stored (λ v y. y ≤ get_or new v 0) new b.to (min (get_or new b.to 0) (b.cost + here)) 0 inside (omega arith) (λ v _. le_refl _)

  -- as far as before, or as by way of the router
  abbrev From : List Arc → ℕ → ℕ → Type 0
  From bs v y = (y ≡ get_or old v 0) ⊎ ((x : Arc) × Memᴰ x bs × (x.to ≡ v) × (y ≡ x.cost + here))

  more : (v y : ℕ) → From arcs v y → From (arcs ++ (b ∷ [])) v y
  more v y = ⊎_elim (λ e. inl e) (λ (x, m, at, e). inr (x, Memᴰ.append_left (b ∷ []) m, at, e))

  last : Memᴰ b (arcs ++ (b ∷ []))
  last = Memᴰ.append_right arcs (Memᴰ.head refl)

  from_least : From (arcs ++ (b ∷ [])) b.to least
  unfolding least
  from_least = step (dec_lt (b.cost + here) (get_or new b.to 0))
    where
      step : Dec (b.cost + here < get_or new b.to 0) → From (arcs ++ (b ∷ [])) b.to (min (get_or new b.to 0) (b.cost + here))
      step (yes h) = inr (b, last, refl, omega arith)
      step (no h) =
          let same : min (get_or new b.to 0) (b.cost + here) ≡ get_or new b.to 0 = omega arith in
          rw same (more b.to _ (so_far.by_way b.to))

  pub relaxed_more : Relaxed (arcs ++ (b ∷ [])) here old (set new b.to (min (get_or new b.to 0) (b.cost + here)))
  unfolding least
  relaxed_more =
      record {
        long = length-set new b.to _ ∙ so_far.long;
        nearer = λ v. omega (arith, lower v, so_far.nearer v);
        reached = λ x m. ⊎_elim (λ l. omega (arith, lower x.to, so_far.reached x l)) (λ l. at_last x l) (Memᴰ.append_cases arcs m);
        by_way = stored (From (arcs ++ (b ∷ []))) new b.to _ 0 inside from_least (λ v _. more v _ (so_far.by_way v));
      }
    where
      at_last : (x : Arc) → Memᴰ x (b ∷ []) → get_or (set new b.to (min (get_or new b.to 0) (b.cost + here))) x.to 0 ≤ x.cost + here
      at_last x m = rw (Memᴰ.eq_of_singleton m, get_or-set_same new b.to (min (get_or new b.to 0) (b.cost + here)) 0 inside) (omega arith)
