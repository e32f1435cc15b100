-- A sound topology is a well formed network of at most 64 routers, each with at most 16 arcs, and so it is with the costs of its links exchanged. Where the arcs
-- of such a network are laid out, each leads to a place of it at a cost of 16 bits.
-- Assumes nothing.
use Prim.Native.Nat.{ℕ, ◌≤◌, ◌<◌}
use mathlib.Core.List.{List, Memᴰ, map}
use mathlib.Core.Path.{◌≡◌, sym, ap, ◌∙◌}
use native.Mathlib.Omega.{arith}
use lib.Dec.{T}
use lib.ListN.{length, get_or, length-map}
use Rattle.network.specs.Network as network
use Rattle.network.specs.Network.{Network, size, arcs_of, greatest_cost, SoundArc, WellFormed}
use Rattle.topology_types.specs.declared.Topology.{Topology}
use Rattle.topology_types.specs.Topology.{network_of}
use Rattle.topology_sound.specs.Sound.{sound}
use Rattle.topology_sound.proofs.Sound.{sound_exact, sound_networks}
use Rattle.arcs.specs.declared.Arc.{Arc}
use Rattle.arcs.specs.declared.Arcs.{Arcs}
use Rattle.arcs.specs.Inner.{arcs_at, ArcsHeld}
use Rattle.arcs.specs.Back.{network_back}
use Rattle.arcs.proofs.Back.{back_exact, few_back}
use Rattle.arcs.proofs.Slots.{Slotted, length_arcs}
use Rattle.distances.specs.Inner.{Passable}

-- the network has `count` routers and is within the limits
pub record Within (n : Network) (count : ℕ) : Type 0 where
  pub formed : WellFormed n
  pub sized : size n ≡ count
  pub most : count ≤ 64
  pub few : (u : ℕ) → u < count → length (arcs_of n u) ≤ 16

pub sound_within : (t : Topology) → T (sound t) → Within (network_of t) t.routers
sound_within t s =
    let tested = (sound_exact t).0 s in
    let seen = sound_networks t s in
    record { formed = seen.well_formed; sized = seen.routers; most = tested.routers_most; few = tested.neighbours }

pub back_within : (t : Topology) → T (sound t) → Within (network_back t) t.routers
back_within t s =
    let seen = back_exact t s in
    record { formed = seen.well_formed; sized = seen.routers; most = ((sound_exact t).0 s).routers_most; few = few_back t s }

-- the arcs of a router of the network
module _ {n : Network} {count : ℕ} (within : Within n count) (u : ℕ) (u_in : u < count) where
  pub arc_place : (b : network.Arc) → Memᴰ b (arcs_of n u) → b.to < count
  arc_place b m = let sized = within.sized in omega (arith, (within.formed.sound u b m).place)

  arc-cost : (b : network.Arc) → Memᴰ b (arcs_of n u) → b.cost ≤ 65535
  unfolding greatest_cost
  arc-cost b m = (within.formed.sound u b m).cost_most

  pub passable : (ds : List ℕ) → ((v : ℕ) → v < 64 → get_or ds v 0 ≤ 4194304) → Passable (arcs_of n u) ds
  passable ds near =
      record {
        few = within.few u u_in;
        leads = λ b m. omega (arith, arc_place b m, within.most);
        cheap = arc-cost;
        near = near;
      }

  -- laid out, they are handed out, and are the network's
  module _ {seen : Arc → network.Arc} {a : Arcs} (held : ArcsHeld seen n a) where
    pub at_fits : (u < 64) × (get_or a.count u 0 ≤ 16)
    at_fits = let sized = within.sized in (omega (arith, within.most), held.few u (omega arith))

    pub arcs_are : (arcs : List Arc) → arcs ≡ arcs_at a u → map seen arcs ≡ arcs_of n u
    arcs_are arcs e = let sized = within.sized in rw e (held.arcs u (omega arith))

    -- the network's are as many as the count says
    pub count_is : Slotted a → length (arcs_of n u) ≡ get_or a.count u 0
    count_is s =
        let sized = within.sized in
        let (inside, few) = at_fits in
        ap length (sym (held.arcs u (omega arith))) ∙ length-map (arcs_at a u) seen ∙ length_arcs a s u inside few
