-- Settling the nearest router that is not settled: the settled ones stay as they are, since none is farther, and what is said of the routers settled so
-- far is said of one more.
-- Assumes nothing.
use Prim.Native.Nat.{ℕ, ◌+◌, ◌≤◌, ◌<◌}
use mathlib.Core.List.{List, Memᴰ}
use mathlib.Core.Logic.{◌≢◌, ◌⊎◌, inl, inr, ⊎_elim}
use mathlib.Core.Path.{◌≡◌, refl, ◌∙◌}
use native.Mathlib.Decide.{ℕ_discrete}
use native.Mathlib.Nat.{le_refl}
use native.Mathlib.Omega.{arith}
use lib.ListN.{length, get_or, set, length-set}
use lib.Seq.{get_or-set_same, get_or-set_other}
use Rattle.network.specs.Network.{Arc, Network, arcs_of}
use Rattle.distances.specs.Inner.{Open, Closed, Searched, Nearest, Relaxed}
use Rattle.distances.proofs.Stored.{stored}
use Rattle.distances.proofs.Unsettled.{one_open, one_less}
use Rattle.distances.proofs.Ways.{Given, against}
use Rattle.distances.proofs.Run.{Run}

module _ (m other : Network) (n d : ℕ) (given : Given m other n d) (k : ℕ) (ds marks : List ℕ) (run : Run m other d n k ds marks) where
  most : n ≤ 64
  most = given.within.most

  pub near : (v : ℕ) → v < 64 → get_or ds v 0 ≤ 4194304
  near v h = omega (arith, run.most v h, most)

  pub searched : k < n → Searched ds marks n
  searched h =
      record {
        most = most;
        near = λ v l. near v (omega (arith, most));
        marked = run.marked;
        some_open = one_open marks n (omega (arith, run.left));
      }

  module _ (u : ℕ) (nearest : Nearest ds marks n u) (new : List ℕ) (after : Relaxed (arcs_of other u) (get_or ds u 0) ds new) where
    next : List ℕ
    next = set marks u 536870912

    inside : u < length marks
    inside = let long = run.marks_long in omega (arith, nearest.place, most)

    was_open : (v : ℕ) → Open next v → Open marks v
    unfolding next
    was_open v e = step (ℕ_discrete v u)
      where
        step : Dec (v ≡ u) → Open marks v
        step (yes same) = absurd (omega (arith, rw (same, get_or-set_same marks u 536870912 0 inside) at e, nearest.place, most))
        step (no apart) = rw (get_or-set_other marks u v 536870912 0 apart) at e

    was_closed : (v : ℕ) → Closed next v → (v ≡ u) ⊎ Closed marks v
    unfolding next
    was_closed v e = step (ℕ_discrete v u)
      where
        step : Dec (v ≡ u) → (v ≡ u) ⊎ Closed marks v
        step (yes same) = inl same
        step (no apart) = inr (rw (get_or-set_other marks u v 536870912 0 apart) at e)

    -- what is settled is at most as far as u
    before : (v : ℕ) → v < n → Closed next v → get_or ds v 0 ≤ get_or ds u 0
    before v h e =
        ⊎_elim (λ same. rw same (le_refl _)) (λ c. run.sooner v u h nearest.place c nearest.is_open) (was_closed v e)

    -- and so stays as far as it is
    stays : (v : ℕ) → v < n → Closed next v → get_or new v 0 ≡ get_or ds v 0
    stays v h e =
        ⊎_elim (λ same. same) (λ (b, l, at, way). omega (arith, before v h e, after.nearer v)) (after.by_way v)

    pub turned : Run m other d n (k + 1) new (set marks u 536870912)
    unfolding next
    turned =
        record {
          long = after.long;
          marks_long = length-set marks u 536870912 ∙ run.marks_long;
          most = λ v h. omega (arith, after.nearer v, run.most v h);
          home = omega (arith, after.nearer d, run.home);
          never = λ v h.
              let far = run.never u nearest.place in
              ⊎_elim (λ e. rw e (run.never v h)) (λ (b, l, at, way). omega (arith, rw at at (against m other n d given u nearest.place b l)))
              (after.by_way v);
          marked = stored (λ v mark. v < n → (mark ≡ v) ⊎ (mark ≡ 536870912)) marks u 536870912 0 inside (λ _. inr refl) (λ v _. run.marked v);
          sooner = λ v w h l c o.
              let far = nearest.least w l (was_open w o) in
              let near-u = before v h c in
              rw (stays v h c) (⊎_elim (λ e. omega arith) (λ (b, i, at, way). omega arith) (after.by_way w));
          relaxed = λ v h c b l.
              rw (stays v h c)
              (⊎_elim (λ same. reach v same b l)
              (λ earlier. omega (arith, after.nearer b.to, run.relaxed v h earlier b l)) (was_closed v c));
          left = omega (arith, run.left, one_less marks u 536870912 inside nearest.is_open past n nearest.place);
        }
      where
        past : 536870912 ≢ u
        past e = omega (arith, nearest.place, most)

        reach : (v : ℕ) → v ≡ u → (b : Arc) → Memᴰ b (arcs_of other v) → get_or new b.to 0 ≤ b.cost + get_or ds v 0
        reach v same = rw same after.reached
