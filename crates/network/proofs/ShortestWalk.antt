-- With all links up a walk goes to the first entry of each row. Where that is a shortest next hop, what its arc costs, and the distance left behind it,
-- add up to the distance, down to d.
-- Assumes nothing.
use Prim.Native.Nat.{ℕ, suc, ◌≤◌, ◌<◌}
use mathlib.Core.List.{List, [], ◌∷◌, Memᴰ}
use mathlib.Core.Option.{some}
use mathlib.Core.Path.{◌≡◌, refl, sym, ◌∙◌, ap, subst}
use native.Mathlib.Decide.{ℕ_discrete}
use native.Mathlib.Omega.{arith}
use borrow.Author.Tests.{eq-eqb, ne_eqb}
use lib.ListN.{length}
use Rattle.network.specs.Network.{Arc, Network, size, WellFormed}
use Rattle.network.specs.Distance.{PathTo, distance}
use Rattle.network.specs.Forwarding.{Packet, delivered_at, hop_to, hop, walk_on, walk_end, walk, start, route_on, route}
use Rattle.network.specs.Routing.{first_live, routers_by, cost_of_lem}
use Rattle.network.specs.Theorems.Routing.{FallingRows, ShortestEntry, AllUp, ShortestByRows, ShortestWalks}
use Rattle.network.proofs.NextHop.{zero_at_d}
use Rattle.network.proofs.Order.{shortest_path_is_free}
use Rattle.network.proofs.Falling.{orders_fall, orders_shortest}
use Rattle.network.proofs.Live.{live_up}

module _ (n : Network) (wf : WellFormed n) (d : ℕ) (in_network : d < size n) (rows : ℕ → List Arc) (ranks : ℕ → ℕ)
    (fall : FallingRows n d rows ranks) (first_entry : ShortestEntry n d rows) where
  Shortest : List (List ℕ) → ℕ → ℕ → Type 0
  Shortest xs u hops =
      ((p : Packet ℕ) × (walk (routers_by d rows) xs (record { station = u; hops = hops }) ≡ delivered_at p) × (p.station ≡ d))
      × (cost_of_lem (route (routers_by d rows) xs u) ≡ distance n d u)

  at_home : (xs : List (List ℕ)) (u hops : ℕ) → u ≡ d → Shortest xs u hops
  unfolding Shortest walk walk_end walk_on hop hop_to route route_on cost_of_lem
  at_home [] u hops e = rw (eq-eqb u d e) ((record { station = u; hops = hops }, refl, e), rw e (sym (zero_at_d n wf d in_network)))
  at_home (x ∷ xs) u hops e = rw (eq-eqb u d e) ((record { station = u; hops = hops }, refl, e), rw e (sym (zero_at_d n wf d in_network)))

  shortest : (xs : List (List ℕ)) → AllUp n xs → (u hops : ℕ) → PathTo n d u → ranks u ≤ length xs → Shortest xs u hops
  unfolding Shortest walk walk_end walk_on hop hop_to route route_on cost_of_lem
  shortest [] all-up u hops p h = at_home [] u hops (fall.only_home u (omega arith))
  shortest (x ∷ xs) all-up u hops p h = step (ℕ_discrete u d) (λ v. shortest xs (λ states m. all-up states (mathlib.Core.List.Memᴰ.tail m)) v (suc hops))
    where
      step : Dec (u ≡ d) → ((v : ℕ) → PathTo n d v → ranks v ≤ length xs → Shortest xs v (suc hops)) → Shortest (x ∷ xs) u hops
      step (yes e) on = at_home (x ∷ xs) u hops e
      step (no other) on =
          let (a, rest, e, (m, cheapest)) = first_entry u p other in
          let chosen : first_live x (rows u) ≡ some a =
          ap (first_live x) e ∙ live_up x a rest (all-up x (mathlib.Core.List.Memᴰ.head refl) a.link (wf.sound u a m).numbered) in
          let first : Memᴰ a (rows u) = subst (Memᴰ a) (sym e) (mathlib.Core.List.Memᴰ.head refl) in
          let (arrives, cost) = on a.to (fall.onward u a first) (omega (arith, fall.falls u a first)) in
          rw (ne_eqb u d other, chosen) (arrives, omega arith)

pub shortest_by_rows : ShortestByRows
unfolding Shortest start
shortest_by_rows n wf d in_network rows ranks fall first_entry u p xs all-up h =
    let (arrives, cost) = shortest n wf d in_network rows ranks fall first_entry xs all-up u 0 p h in
    record { arrives = arrives; shortest = cost }

pub shortest_walks : ShortestWalks
shortest_walks n wf d in_network limit order t room =
    shortest_by_rows n wf d in_network _ _
    (orders_fall n wf d in_network limit order (shortest_path_is_free n wf d in_network order t)) (orders_shortest n wf d in_network limit order t room)
