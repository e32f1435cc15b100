-- Ranks: what stands before a router in an order of different routers ranks below it, and each but d was a candidate behind what stands before it.
-- Assumes nothing.
use Prim.Native.Nat.{ℕ, suc, ◌≤◌, ◌<◌}
use mathlib.Core.Bool.{Bool, true, false, cond, false≢true}
use mathlib.Core.List.Memᴰ
use mathlib.Core.List.{List, [], ◌∷◌, ◌++◌, Memᴰ}
use mathlib.Core.List.{append-nil, head-eq_of_cons-eq}
use mathlib.Core.Logic.{◌≢◌, ◌⊎◌, inl, inr, ⊎_elim}
use mathlib.Core.Path.{◌≡◌, refl, sym, ◌∙◌, ap}
use native.Mathlib.Omega.{arith}
use borrow.Author.Tests.{eqb-true, eq-eqb, ne_eqb}
use lib.Dec.{eqb}
use lib.ListN.{length}
use Rattle.network.specs.Lists.{Distinct}
use Rattle.network.specs.Network.{Network}
use Rattle.network.specs.Distance.{PathTo}
use Rattle.network.specs.Order.{Mode}
use Rattle.network.specs.Row.{rank}
use Rattle.network.specs.Theorems.Order.{Candidate, Accepted}
use Rattle.network.specs.Theorems.Row.{RankIsTurn}
use Rattle.network.proofs.Lists.{split}
use Rattle.network.proofs.Pigeon.{at_most, member?, distinct_cons}

-- a router ranks at most behind all
pub rank_most : (order : List ℕ) (u : ℕ) → rank order u ≤ length order
unfolding rank
rank_most [] u = omega arith
rank_most (v ∷ vs) u = step (eqb v u) (rank_most vs u)
  where
    step : (b : Bool) → rank vs u ≤ length vs → cond b 0 (suc (rank vs u)) ≤ suc (length vs)
    step true h = omega arith
    step false h = omega arith

rank_before : (before rest : List ℕ) (v : ℕ) → Memᴰ v before → rank (before ++ rest) v < length before
unfolding rank
rank_before [] rest v m = absurd (Memᴰ.not-nil m)
rank_before (w ∷ before) rest v m = step (eqb w v) refl (Memᴰ.cases_cons m) (rank_before before rest v)
  where
    step : (b : Bool) → eqb w v ≡ b → (v ≡ w) ⊎ Memᴰ v before → (Memᴰ v before → rank (before ++ rest) v < length before) →
        cond b 0 (suc (rank (before ++ rest) v)) < suc (length before)
    step true e k h = omega arith
    step false e (inl same) h = absurd (false≢true (sym e ∙ eq-eqb w v (sym same)))
    step false e (inr l) h = omega (arith, h l)

pub rank-in : (order : List ℕ) (u : ℕ) → Memᴰ u order → rank order u < length order
rank-in order u m = rw append-nil at (rank_before order [] u m)

rank_at : (before : List ℕ) (u : ℕ) (after : List ℕ) → (Memᴰ u before → ⊥) → rank (before ++ (u ∷ after)) u ≡ length before
unfolding rank
rank_at [] u after out = rw (eq-eqb u u refl)
rank_at (w ∷ before) u after out =
    rw (ne_eqb w u (λ e. out (Memᴰ.head (sym e)))) (ap suc (rank_at before u after (λ m. out (Memᴰ.tail m))))

rank_past : (order : List ℕ) (u : ℕ) → (Memᴰ u order → ⊥) → rank order u ≡ length order
unfolding rank
rank_past [] u out = refl
rank_past (w ∷ order) u out =
    rw (ne_eqb w u (λ e. out (Memᴰ.head (sym e)))) (ap suc (rank_past order u (λ m. out (Memᴰ.tail m))))

pub rank_is_turn : RankIsTurn
rank_is_turn u = (λ before after. rank_at before u after, λ order. rank_past order u)

-- a place below N ranks below N: if it is held, below those that are, and if not, behind them, and then they are not all
pub ranked_below : (count : ℕ) (order : List ℕ) → Distinct order → ((v : ℕ) → Memᴰ v order → v < count) → (u : ℕ) → u < count →
    rank order u < count
ranked_below count order once places u h = step (member? u order)
  where
    step : Dec (Memᴰ u order) → rank order u < count
    step (yes m) = omega (arith, rank-in order u m, at_most count order once places)
    step (no out) =
        omega (
          arith,
          rank_most order u,
          at_most count (u ∷ order) (distinct_cons out once) (λ v m. ⊎_elim (λ e. rw e h) (places v) (Memᴰ.cases_cons m)),
        )

-- d has rank 0, and nothing else has
pub rank_of_d : {n : Network} {d : ℕ} {mode : Mode} {order : List ℕ} → Accepted n d mode order → rank order d ≡ 0
unfolding rank
rank_of_d {d} a = rw (a.first.1, eq-eqb d d refl)

pub rank_zero : {n : Network} {d : ℕ} {mode : Mode} {order : List ℕ} → Accepted n d mode order → (u : ℕ) → rank order u ≡ 0 → u ≡ d
unfolding rank
rank_zero {d} {order} a u e = step (eqb d u) refl (rw a.first.1 at e)
  where
    step : (b : Bool) → eqb d u ≡ b → cond b 0 (suc (rank a.first.0 u)) ≡ 0 → u ≡ d
    step true t z = sym (eqb-true d u t)
    step false t z = absurd (omega arith)

-- what a router but d was a candidate behind, all of it ranked below
pub placed_before : {n : Network} {d : ℕ} {mode : Mode} {order : List ℕ} → Accepted n d mode order → (u : ℕ) → PathTo n d u → u ≢ d →
    (placed : List ℕ) × Candidate n d mode placed u × ((v : ℕ) → Memᴰ v placed → rank order v < rank order u)
placed_before {n} {d} {mode} {order} a u p other = step (split (a.all u p))
  where
    step : ((before after : List ℕ) × (order ≡ before ++ (u ∷ after))) →
        (placed : List ℕ) × Candidate n d mode placed u × ((v : ℕ) → Memᴰ v placed → rank order v < rank order u)
    step ([], after, e) = absurd (other (head-eq_of_cons-eq (sym e ∙ a.first.1)))
    step (w ∷ before, after, e) =
        let c = a.in-turn w before u after e in
        (w ∷ before, c, λ v m. rw e (omega (arith, rank_before (w ∷ before) (u ∷ after) v m, rank_at (w ∷ before) u after c.unplaced)))
