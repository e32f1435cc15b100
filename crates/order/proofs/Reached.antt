-- An order that is built or accepted holds each router that has a path once and nothing else, so it is as long as there are such routers; with 255 after
-- them it has a byte for each router.
-- Assumes nothing.
use Prim.Native.Nat.{ℕ, ◌≤◌, ◌<◌}
use mathlib.Core.Bool.{Bool}
use mathlib.Core.List.{List, Memᴰ}
use mathlib.Core.Logic.{◌↔◌}
use mathlib.Core.Path.{◌≡◌, ap}
use native.Mathlib.Nat.{le_antisymm}
use native.Mathlib.Omega.{arith}
use lib.ListN.{length, length-append, length-replicate}
use Rattle.network.specs.Lists.{Distinct, below, keep}
use Rattle.network.specs.Network.{Network, size, WellFormed}
use Rattle.network.specs.Distance.{PathTo, distances}
use Rattle.network.specs.Order.{Mode, reached, build}
use Rattle.network.specs.Theorems.Order.{Accepted}
use Rattle.network.proofs.Lists.{keep_mem, mem_keep, pairwise_keep}
use Rattle.network.proofs.Below.{mem_below, below_distinct, length_below}
use Rattle.network.proofs.Pigeon.{no_longer}
use Rattle.network.proofs.Distance.{starts_in}
use Rattle.network.proofs.NextHop.{path_reached, reached_path}
use Rattle.network.proofs.Order.{acceptance_exact, built_accepted, never_stuck}
use Rattle.order_standings.proofs.Keeping.{kept_most}
use Rattle.topology_types.specs.Topology.{padded}
use Rattle.order.specs.Calls.{reached_count_lem, order_bytes}

module _ (n : Network) (formed : WellFormed n) (d : ℕ) (d_in : d < size n) where
  abbrev has_path : ℕ → Bool
  has_path = reached n (distances n d)

  -- some of them, each once
  pub no_more : (us : List ℕ) → Distinct us → ((u : ℕ) → Memᴰ u us → PathTo n d u) → length us ≤ reached_count_lem n d
  unfolding reached_count_lem
  no_more us once paths =
      no_longer (keep has_path (below (size n))) once (λ u k.
      keep_mem has_path (below (size n)) (mem_below (starts_in n formed d d_in (paths u k))) (path_reached n formed d d_in (paths u k)))

  -- the routers that have a path, each once, in any order
  pub counted : (us : List ℕ) → Distinct us → ((u : ℕ) → Memᴰ u us ↔ PathTo n d u) → length us ≡ reached_count_lem n d
  unfolding reached_count_lem
  counted us once are =
      le_antisymm (no_more us once (λ u. (are u).0))
      (no_longer us (pairwise_keep has_path (below_distinct (size n)))
      (λ u k. (are u).1 (reached_path n formed d d_in u (mem_keep has_path (below (size n)) k).1)))

  pub reached_most : reached_count_lem n d ≤ size n
  unfolding reached_count_lem
  reached_most = omega (arith, kept_most has_path (below (size n)), length_below (size n))

module _ (n : Network) (formed : WellFormed n) (d : ℕ) (d_in : d < size n) (mode : Mode) where
  pub accepted_long : {order : List ℕ} → Accepted n d mode order → length order ≡ reached_count_lem n d
  accepted_long {order} a = counted n formed d d_in order a.once (λ u. (a.only u, a.all u))

  pub built_long : length (build n d mode) ≡ reached_count_lem n d
  built_long = accepted_long ((acceptance_exact n formed d d_in mode (build n d mode)).0 (built_accepted n formed d d_in mode))

  pub reached_some : 1 ≤ reached_count_lem n d
  reached_some =
      let (rest, e) = (never_stuck n formed d d_in mode).first in omega (arith, ap length e, built_long)

-- an order that is no longer than N has N bytes
pub bytes_long : (count : ℕ) (order : List ℕ) → length order ≤ count → length (order_bytes count order) ≡ count
unfolding order_bytes padded
bytes_long count order h = simp (length-append, length-replicate) (omega arith)
