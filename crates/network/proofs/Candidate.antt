-- Candidates: what the test says, and that one is left while a router with a path is unplaced. From such a router go to an unplaced shortest next hop
-- as long as there is one; distances fall on the way, so it ends at a router whose shortest next hops are all placed.
-- Assumes nothing.
use Prim.Native.Nat.{ℕ, zero, suc, ◌<◌}
use mathlib.Core.Bool.{not}
use mathlib.Core.List.Memᴰ
use mathlib.Core.List.{List, Memᴰ}
use mathlib.Core.Logic.{◌⊎◌, inl, inr}
use native.Mathlib.Omega.{arith}
use lib.Dec.{T, T_not, not_T}
use Rattle.network.specs.Lists.{member}
use Rattle.network.specs.Network.{Arc, Network, size, arcs_of, WellFormed}
use Rattle.network.specs.Distance.{PathTo, distances, distance}
use Rattle.network.specs.Order.{Mode, shortest-path, free, reached, shortest_next_hops, leads_into, ready, candidate}
use Rattle.network.specs.Theorems.Order.{Ready, Candidate}
use Rattle.network.proofs.Tests.{three, and_three}
use Rattle.network.proofs.Lists.{every_all, all_every, every_or, any_some, some_any, member_mem, mem_member}
use Rattle.network.proofs.NextHop.{path_reached, reached_path, next_arc, next_via, next_nearer, next_path, is_next, some_next}

module _ (n : Network) (wf : WellFormed n) (d : ℕ) (in_network : d < size n) where
  ready_fact : (mode : Mode) (placed : List ℕ) (u : ℕ) → T (ready n (distances n d) mode placed u) → Ready n d mode placed u
  unfolding ready leads_into
  ready_fact shortest-path placed u t = λ a (m, e).
      member_mem a.to placed (every_all _ (shortest_next_hops n (distances n d) u) t a (is_next n wf d in_network u a m e))
  ready_fact free placed u t = let (a, m, s) = any_some (leads_into placed) (arcs_of n u) t in (a, m, member_mem a.to placed s)

  fact_ready : (mode : Mode) (placed : List ℕ) (u : ℕ) → Ready n d mode placed u → T (ready n (distances n d) mode placed u)
  unfolding ready leads_into
  fact_ready shortest-path placed u h = all_every _ (shortest_next_hops n (distances n d) u)
      (λ a m. mem_member a.to placed (h a (next_arc n wf d in_network u m, next_via n wf d in_network u m)))
  fact_ready free placed u (a, m, k) = some_any _ (arcs_of n u) m (mem_member a.to placed k)

  pub candidate_fact : (mode : Mode) (placed : List ℕ) (u : ℕ) → T (candidate n (distances n d) mode placed u) → Candidate n d mode placed u
  unfolding candidate
  candidate_fact mode placed u t =
      let (h, o, r) = three (reached n (distances n d) u) (not (member u placed)) (ready n (distances n d) mode placed u) t in
      record {
        path = reached_path n wf d in_network u h;
        unplaced = λ m. T_not (member u placed) o (mem_member u placed m);
        next_hops = ready_fact mode placed u r;
      }

  pub fact_candidate : (mode : Mode) (placed : List ℕ) (u : ℕ) → Candidate n d mode placed u → T (candidate n (distances n d) mode placed u)
  unfolding candidate
  fact_candidate mode placed u c =
      and_three (reached n (distances n d) u) (not (member u placed)) (ready n (distances n d) mode placed u)
      (path_reached n wf d in_network c.path) (not_T (member u placed) (λ t. c.unplaced (member_mem u placed t)))
      (fact_ready mode placed u c.next_hops)

  -- once d is placed, what is a candidate in shortest-path mode is one in free mode: it has a shortest next hop, and that is placed
  pub also_free : (placed : List ℕ) (u : ℕ) → Memᴰ d placed → Candidate n d shortest-path placed u → Candidate n d free placed u
  also_free placed u m c =
      let (a, k) = some_next n wf d in_network c.path (λ e. c.unplaced (Memᴰ.cast e m)) in
      let m' = next_arc n wf d in_network u k in
      record { path = c.path; unplaced = c.unplaced; next_hops = (a, m', c.next_hops a (m', next_via n wf d in_network u k)) }

  nearest : (placed : List ℕ) (bound u : ℕ) → distance n d u < bound → PathTo n d u → (Memᴰ u placed → ⊥) → (v : ℕ) × Candidate n d shortest-path placed v
  unfolding ready leads_into
  nearest placed zero u h p out = absurd (omega arith)
  nearest placed (suc bound) u h p out = step (nearest placed bound) (every_or (leads_into placed) (shortest_next_hops n (distances n d) u))
    where
      step : ((v : ℕ) → distance n d v < bound → PathTo n d v → (Memᴰ v placed → ⊥) → (w : ℕ) × Candidate n d shortest-path placed w) →
          T (ready n (distances n d) shortest-path placed u)
          ⊎ ((a : Arc) × Memᴰ a (shortest_next_hops n (distances n d) u) × (T (leads_into placed a) → ⊥)) → (v : ℕ) × Candidate n d shortest-path placed v
      step on (inl t) = (u, record { path = p; unplaced = out; next_hops = ready_fact shortest-path placed u t })
      step on (inr (a, m, out')) =
          on a.to (omega (arith, next_nearer n wf d in_network u m)) (next_path n wf d in_network u m p) (λ k. out' (mem_member a.to placed k))

  -- 001, propositions 1 and 2: while a router with a path is unplaced there is a candidate, in either mode
  pub some_candidate : (mode : Mode) (placed : List ℕ) → Memᴰ d placed → (u : ℕ) → PathTo n d u → (Memᴰ u placed → ⊥) →
      (v : ℕ) × Candidate n d mode placed v
  some_candidate shortest-path placed m u p out = nearest placed (suc (distance n d u)) u (omega arith) p out
  some_candidate free placed m u p out =
      let (v, c) = nearest placed (suc (distance n d u)) u (omega arith) p out in
      (v, also_free placed v m c)
