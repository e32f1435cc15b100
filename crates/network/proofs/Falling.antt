-- The rows of an accepted order: what an entry leads to ranks before its router, so the order holds it and it has a path to d; in shortest-path mode all
-- shortest next hops stand first, and there is one.
-- Assumes nothing.
use Prim.Native.Nat.{ℕ, zero, suc, ◌≤◌, ◌<◌}
use mathlib.Core.List.Memᴰ
use mathlib.Core.List.{List, [], ◌∷◌, ◌++◌, Memᴰ}
use mathlib.Core.Path.{◌≡◌, refl, ap}
use native.Mathlib.Omega.{arith}
use lib.Dec.{T}
use lib.ListN.{take}
use Rattle.network.specs.Network.{Arc, Network, size, arcs_of, WellFormed}
use Rattle.network.specs.Distance.{PathTo, along, distances}
use Rattle.network.specs.Order.{free, accepted}
use Rattle.network.specs.Row.{rank, row}
use Rattle.network.specs.Theorems.Order.{Accepted, ShortestNextHop}
use Rattle.network.specs.Theorems.Routing.{FallingRows, OrdersFall, OrdersShortest, RowsUnreached}
use Rattle.network.proofs.Lists.{mem_take, empty}
use Rattle.network.proofs.Pigeon.{member?}
use Rattle.network.proofs.Distance.{starts_in}
use Rattle.network.proofs.NextHop.{some_next, next_arc, next_via}
use Rattle.network.proofs.Order.{acceptance_exact, order_fits}
use Rattle.network.proofs.Rank.{rank_most, rank_is_turn, ranked_below, rank_zero}
use Rattle.network.proofs.Row.{full_row_exact, rows_sound}
use Rattle.network.proofs.Filled.{rows_filled, all_shortest_first}

module _ (n : Network) (wf : WellFormed n) (d : ℕ) (in_network : d < size n) (limit : ℕ) (order : List ℕ) (t : T (accepted n d free order)) where
  as_accepted : Accepted n d free order
  as_accepted = (acceptance_exact n wf d in_network free order).0 t

  entry_arc : (u : ℕ) (a : Arc) → Memᴰ a (row n (distances n d) limit order u) → Memᴰ a (arcs_of n u)
  unfolding row
  entry_arc u a m = (((full_row_exact n wf d in_network order u).holds a).0 (mem_take limit _ m)).0

  -- what an entry leads to has a lower rank than what no order holds, and so a path
  entry_path : (u : ℕ) (a : Arc) → Memᴰ a (row n (distances n d) limit order u) → PathTo n d a.to
  entry_path u a m = step (member? a.to order)
    where
      step : Dec (Memᴰ a.to order) → PathTo n d a.to
      step (yes k) = as_accepted.only a.to k
      step (no out) =
          absurd (omega (arith, (rank_is_turn a.to).1 order out, rank_most order u, (rows_sound n wf d in_network limit order u).lower a m))

  falling : FallingRows n d (row n (distances n d) limit order) (rank order)
  falling =
      record {
        home_row = (rows_filled n wf d in_network limit order t).no_entry;
        arcs = entry_arc;
        falls = λ u. (rows_sound n wf d in_network limit order u).lower;
        onward = entry_path;
        links_differ = λ u. (rows_sound n wf d in_network limit order u).links_differ;
        ranks_most = λ u. omega (arith, rank_most order u, order_fits n wf d in_network free as_accepted);
        ranks_below = ranked_below (size n) order as_accepted.once (λ v m. starts_in n wf d in_network (as_accepted.only v m));
        only_home = rank_zero as_accepted;
      }

pub orders_fall : OrdersFall
orders_fall = falling

pub rows_unreached : RowsUnreached
rows_unreached n wf d in_network rows ranks fall u out = empty (rows u) (λ a m. out (along a (fall.arcs u a m) (fall.onward u a m)))

-- the first entry of a list that begins with shortest next hops, where there is one and room for it
first_next : (n : Network) (d u : ℕ) (limit : ℕ) → 1 ≤ limit → {full : List Arc} (front back : List Arc) {b : Arc} → Memᴰ b front →
    full ≡ front ++ back → ((a : Arc) → Memᴰ a front → ShortestNextHop n d u a) →
    (a : Arc) × (rest : List Arc) × (take limit full ≡ a ∷ rest) × ShortestNextHop n d u a
first_next n d u zero h front back m e next = absurd (omega arith)
first_next n d u (suc limit) h [] back m e next = absurd (Memᴰ.not-nil m)
first_next n d u (suc limit) h (a ∷ front) back m e next = (a, take limit (front ++ back), ap (take (suc limit)) e, next a (Memᴰ.head refl))

pub orders_shortest : OrdersShortest
unfolding row
orders_shortest n wf d in_network limit order t room u p other =
    let (front, back, e, has) = all_shortest_first n wf d in_network order t u other in
    let (b, m) = some_next n wf d in_network p other in
    first_next n d u limit room front back ((has b).1 (next_arc n wf d in_network u m, next_via n wf d in_network u m)) e (λ a k. (has a).0 k)
