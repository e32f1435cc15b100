-- A router has a path to place 0 exactly where its distance is not absent, which the prover computes.
-- Assumes nothing.
use Prim.Native.Nat.{ℕ, zero, suc, ◌<◌}
use native.Mathlib.Omega.{arith}
use lib.Dec.{T}
use Rattle.network.specs.Lists.{numbers_from, below, keep, every, any, least_by, member, distinct}
use Rattle.network.specs.Network.{size, arcs_of, greatest_cost, arcs_among, linked, sound_cost, sound_link, same_pair, pairs_differ, sound_links}
use Rattle.network.specs.Distance as of-distance
use Rattle.network.specs.Distance.{absent, distance_in, through, round, rounds, distances}
use Rattle.network.specs.Distance.{PathTo}
use Rattle.network.specs.Order.{reached}
use Rattle.network.proofs.NextHop.{path_reached, reached_path}
use Rattle.topology_types.specs.declared.Topology.{Topology}
use Rattle.topology_types.specs.Topology.{no_link, padded, contents, held, seen, network_in, network_of}
use Rattle.topology_sound.specs.Sound.{within, in_limits_lem, well_linked, uncrowded, is_no_link, unused_zero, slotted, sound}
use Rattle.topology_sound.proofs.Sound.{sound_networks}
use Rattle.order.specs.Facts.{link, T-topology, two_parts}
use Rattle.facts_one_piece.specs.Theorems.{PiecesTold}

abbrev ends : Topology → ℕ → Type 0
ends t u = T (reached (network_of t) (distances (network_of t) 0) u)

-- computed: both are sound; of T every router is reached, of the two parts the third is not
computed : T (sound T-topology) × T (sound two_parts) × ((u : ℕ) → u < 3 → ends T-topology u) × (ends two_parts 2 → ⊥)
unfolding numbers_from below least_by member distinct
    size arcs_of greatest_cost arcs_among linked sound_cost sound_link same_pair pairs_differ sound_links
    absent distance_in through of-distance.at_first_lem round rounds distances reached
    no_link padded contents held seen network_in network_of
    within in_limits_lem well_linked uncrowded is_no_link unused_zero slotted sound
    link T-topology two_parts
computed = (tt, tt, each, λ t. t)
  where
    each : (u : ℕ) → u < 3 → ends T-topology u
    each zero h = tt
    each (suc zero) h = tt
    each (suc (suc zero)) h = tt
    each (suc (suc (suc u))) h = absurd (omega arith)

-- in a sound topology, from its place 0
module _ (t : Topology) (s : T (sound t)) (some : 0 < t.routers) where
  inside : 0 < size (network_of t)
  inside = rw (sound_networks t s).routers some

  pub from_reached : (u : ℕ) → ends t u → PathTo (network_of t) 0 u
  from_reached = reached_path (network_of t) (sound_networks t s).well_formed 0 inside

  pub to_reached : {u : ℕ} → PathTo (network_of t) 0 u → ends t u
  to_reached = path_reached (network_of t) (sound_networks t s).well_formed 0 inside

pub pieces_told : PiecesTold
unfolding held T-topology two_parts
pieces_told =
    let (first, second, each, none) = computed in (
      first,
      λ u h. from_reached T-topology first (omega arith) u (each u h),
      second,
      λ p. none (to_reached two_parts second (omega arith) (p 2 (omega arith))),
    )
