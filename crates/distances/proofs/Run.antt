-- The routers settled so far. None is held nearer than its distance; a settled router is at most as far as one that is not settled, and its neighbours
-- are at most as far as by way of it. So it is at first, where none is settled.
-- Assumes nothing.
use Prim.Native.Nat.{ℕ, ◌+◌, ◌*◌, ◌≤◌, ◌<◌}
use mathlib.Core.List.{List, Memᴰ}
use mathlib.Core.Logic.{◌≢◌, ◌⊎◌, inl}
use mathlib.Core.Path.{◌≡◌, refl, ◌∙◌, ap}
use native.Mathlib.Decide.{ℕ_discrete}
use native.Mathlib.Omega.{arith}
use lib.ListN.{length, get_or, set, replicate, length-set, length-replicate, get_or-replicate}
use lib.Seq.{get_or-set_same, get_or-set_other}
use Rattle.network.specs.Lists.{below}
use Rattle.network.specs.Network.{Arc, Network, arcs_of}
use Rattle.network.specs.Distance.{arrived, path_cost, distance}
use Rattle.network.proofs.Below.{length_below}
use Rattle.distances.specs.Inner.{Open, Closed}
use Rattle.distances.proofs.Unsettled.{below_at, unsettled, all_open}
use Rattle.distances.proofs.Ways.{Given, exact, at_most_absent, absent_is}

-- k of the n routers are settled
pub record Run (m other : Network) (d n k : ℕ) (ds marks : List ℕ) : Type 0 where
  pub long : length ds ≡ 64
  pub marks_long : length marks ≡ 64
  pub most : (v : ℕ) → v < 64 → get_or ds v 0 ≤ n * 65536
  pub home : get_or ds d 0 ≡ 0
  pub never : (v : ℕ) → v < n → distance m d v ≤ get_or ds v 0
  pub marked : (v : ℕ) → v < n → Open marks v ⊎ Closed marks v
  pub sooner : (v w : ℕ) → v < n → w < n → Closed marks v → Open marks w → get_or ds v 0 ≤ get_or ds w 0
  pub relaxed : (v : ℕ) → v < n → Closed marks v → (b : Arc) → Memᴰ b (arcs_of other v) → get_or ds b.to 0 ≤ b.cost + get_or ds v 0
  pub left : unsettled marks n + k ≡ n

-- x everywhere but at d
module _ (count x d : ℕ) where
  filled_long : length (set (replicate count x) d 0) ≡ count
  filled_long = length-set (replicate count x) d 0 ∙ length-replicate count x

  filled_here : d < count → get_or (set (replicate count x) d 0) d 0 ≡ 0
  filled_here h = get_or-set_same (replicate count x) d 0 0 (omega (arith, length-replicate count x))

  filled_there : (v : ℕ) → v < count → v ≢ d → get_or (set (replicate count x) d 0) v 0 ≡ x
  filled_there v h apart = get_or-set_other (replicate count x) d v 0 0 apart ∙ get_or-replicate count v x 0 h

-- before any router is settled
module _ (m other : Network) (n d : ℕ) (given : Given m other n d) (ds marks : List ℕ)
    (at_first : ds ≡ set (replicate 64 (n * 65536)) d 0) (by_place : marks ≡ below 64) where
  home : get_or ds d 0 ≡ 0
  home = ap (λ (l : List ℕ). get_or l d 0) at_first ∙ filled_here 64 (n * 65536) d (omega (arith, given.place, given.within.most))

  others : (v : ℕ) → v < 64 → v ≢ d → get_or ds v 0 ≡ n * 65536
  others v h apart = ap (λ (l : List ℕ). get_or l v 0) at_first ∙ filled_there 64 (n * 65536) d v h apart

  free : (v : ℕ) → v < 64 → Open marks v
  free v h = ap (λ (l : List ℕ). get_or l v 0) by_place ∙ below_at 64 v h

  pub begun : Run m other d n 0 ds marks
  unfolding path_cost
  begun =
      let most = given.within.most in
      record {
        long = ap length at_first ∙ filled_long 64 (n * 65536) d;
        marks_long = ap length by_place ∙ length_below 64;
        most = λ v h. step_most v h (ℕ_discrete v d);
        home = home;
        never = λ v h. step_never v h (ℕ_discrete v d);
        marked = λ v h. inl (free v (omega arith));
        sooner = λ v w h l c o. absurd (omega (arith, free v (omega arith)));
        relaxed = λ v h c. absurd (omega (arith, free v (omega arith)));
        left = omega (arith, all_open marks n (λ v h. free v (omega arith)));
      }
    where
      step_most : (v : ℕ) → v < 64 → Dec (v ≡ d) → get_or ds v 0 ≤ n * 65536
      step_most v h (yes e) = rw (e, home) (omega arith)
      step_most v h (no apart) = omega (arith, others v h apart)

      step_never : (v : ℕ) → v < n → Dec (v ≡ d) → distance m d v ≤ get_or ds v 0
      step_never v h (yes e) = rw e (omega (arith, (exact m other n d given d).least (arrived refl)))
      step_never v h (no apart) = omega (arith, others v (omega (arith, given.within.most)) apart, at_most_absent m other n d given v, absent_is m other n d given)
