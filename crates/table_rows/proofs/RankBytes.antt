-- The rank bytes of a table. A place that the order holds ranks below the order's length, so below 255, and `network` ranks every other at that length: so
-- two places compare by their bytes as by their ranks, whichever of them the order holds.
-- Assumes nothing.
use Prim.Native.Nat.{ℕ, ◌≤◌, ◌<◌}
use mathlib.Core.List.{List, Memᴰ}
use mathlib.Core.Path.{◌≡◌, sym, ◌∙◌}
use native.Mathlib.Omega.{arith}
use borrow.Author.Tests.{lt-ltb, le-ltb}
use lib.Dec.{T, ltb}
use lib.ListN.{length}
use Rattle.network.specs.Lists.{member}
use Rattle.network.specs.Network.{Network, size}
use Rattle.network.specs.Distance.{PathTo}
use Rattle.network.specs.Order.{Mode}
use Rattle.network.specs.Row.{rank}
use Rattle.network.specs.Theorems.Order.{Accepted}
use Rattle.network.proofs.Tests.{as_true, as_false}
use Rattle.network.proofs.Lists.{member_mem, mem_member}
use Rattle.network.proofs.Distance.{starts_in}
use Rattle.network.proofs.Pigeon.{at_most, member?}
use Rattle.network.proofs.Rank.{rank_most, rank_is_turn, rank-in}
use Rattle.topology_types.specs.declared.Topology.{Topology}
use Rattle.topology_types.specs.Topology.{network_of}
use Rattle.topology_sound.specs.Sound.{sound}
use Rattle.topology_sound.proofs.Sound.{sound_exact, sound_networks}
use Rattle.order.specs.declared.unchecked.Ranks.{Ranks}
use Rattle.order.specs.Inner.{Ranked, RanksOf}
use Rattle.table_rows.specs.Bytes.{rank_or_none}
use Rattle.table_rows.specs.Inner.{rank_of}

module _ (order : List ℕ) (u : ℕ) where
  -- a router that the order holds has its rank
  pub rank_byte_held : Memᴰ u order → rank_or_none order u ≡ rank order u
  unfolding rank_or_none
  rank_byte_held m = rw (as_true (member u order) (mem_member u order m))

  -- one that it does not hold has none
  pub rank_byte_none : (Memᴰ u order → ⊥) → rank_or_none order u ≡ 255
  unfolding rank_or_none
  rank_byte_none out = rw (as_false (member u order) (λ t. out (member_mem u order t)))

-- in an accepted order these are the routers that have a path to its destination, and the others
module _ {n : Network} {d : ℕ} {mode : Mode} {order : List ℕ} (accepted : Accepted n d mode order) (u : ℕ) where
  pub rank_byte_reached : PathTo n d u → rank_or_none order u ≡ rank order u
  rank_byte_reached path = rank_byte_held order u (accepted.all u path)

  pub rank_byte_unreached : (PathTo n d u → ⊥) → rank_or_none order u ≡ 255
  rank_byte_unreached none = rank_byte_none order u (λ m. none (accepted.only u m))

-- and it is an order of places, none twice, as filling asks
pub accepted_ranked : (t : Topology) → T (sound t) → (d : ℕ) → d < t.routers → {mode : Mode} {order : List ℕ} → Accepted (network_of t) d mode order →
    Ranked order
accepted_ranked t is-sound d place accepted =
    let network = sound_networks t is-sound in
    let d_in : d < size (network_of t) = omega (arith, network.routers) in
    record {
      places = λ u m.
          let inside = starts_in (network_of t) network.well_formed d d_in (accepted.only u m) in
          omega (arith, network.routers, ((sound_exact t).0 is-sound).routers_most);
      once = accepted.once;
    }

-- The ranks that the code goes by are the bytes.
pub rank-of : {order : List ℕ} {ranks : Ranks} → RanksOf order ranks → (u : ℕ) → u < 64 → rank_of ranks.by u ≡ rank_or_none order u
unfolding rank_of
rank-of {order} {ranks} r u u_in = step (member? u order)
  where
    step : Dec (Memᴰ u order) → rank_of ranks.by u ≡ rank_or_none order u
    step (yes m) = r.ranks u m ∙ sym (rank_byte_held order u m)
    step (no out) = r.others u u_in out ∙ sym (rank_byte_none order u out)

-- Two places compare by them as by their ranks.
pub bytes_compare : {order : List ℕ} → Ranked order → (v u : ℕ) → ltb (rank_or_none order v) (rank_or_none order u) ≡ ltb (rank order v) (rank order u)
bytes_compare {order} ranked v u = step (member? v order) (member? u order)
  where
    short : length order ≤ 64
    short = at_most 64 order ranked.once ranked.places

    ranked_in : (w : ℕ) → Memᴰ w order → rank_or_none order w < 64
    ranked_in w m = omega (arith, short, rank_byte_held order w m, rank-in order w m)

    step : Dec (Memᴰ v order) → Dec (Memᴰ u order) → ltb (rank_or_none order v) (rank_or_none order u) ≡ ltb (rank order v) (rank order u)
    step (yes m) (yes k) = rw (rank_byte_held order v m, rank_byte_held order u k)
    step (yes m) (no k) =
        rw (rank_byte_none order u k, (rank_is_turn u).1 order k)
        (lt-ltb (rank_or_none order v) 255 (omega (arith, ranked_in v m)) ∙ sym (lt-ltb (rank order v) (length order) (rank-in order v m)))
    step (no m) (yes k) =
        rw (rank_byte_none order v m, (rank_is_turn v).1 order m)
        (le-ltb 255 (rank_or_none order u) (omega (arith, ranked_in u k)) ∙ sym (le-ltb (length order) (rank order u) (rank_most order u)))
    step (no m) (no k) =
        rw (rank_byte_none order v m, rank_byte_none order u k, (rank_is_turn v).1 order m, (rank_is_turn u).1 order k)
        (sym (le-ltb (length order) (length order) (omega arith)))
