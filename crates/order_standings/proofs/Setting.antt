-- What the counters go by, and that a sound topology has it: a network within the limits, that of the other ends, and its IDs.
-- Assumes nothing.
use Prim.Native.Nat.{ℕ, ◌≤◌, ◌<◌}
use mathlib.Core.List.{List}
use mathlib.Core.Path.{◌≡◌, sym, ◌∙◌, subst}
use native.Mathlib.Omega.{arith}
use lib.Dec.{T}
use lib.ListN.{get_or}
use lib.Seq.{get_or-take}
use Rattle.network.specs.Network.{Network, size, id_of, linked}
use Rattle.network.specs.Distance.{absent, distance_in, distances}
use Rattle.topology_types.specs.declared.Topology.{Topology}
use Rattle.topology_types.specs.Topology.{contents, network_in, network_of}
use Rattle.topology_sound.specs.Theorems.{SoundNetwork}
use Rattle.topology_sound.specs.Sound.{sound}
use Rattle.arcs.specs.Back.{network_back}
use Rattle.arcs.specs.Theorems.{Opposite}
use Rattle.arcs.proofs.Back.{back_exact}
use Rattle.order_standings.specs.declared.Mode.{Mode}
use Rattle.order_standings.specs.declared.Mode.TheVariants as mode
use Rattle.distances.specs.Inner.{Settled}
use Rattle.distances.proofs.Ended.{get_d_within}
use Rattle.distances.proofs.Slots.{Within, sound_within, back_within}

-- a network, well formed and within the limits, and that of the other ends
pub record Setting (n other : Network) : Type 0 where
  pub here : Within n (size n)
  pub back : Within other (size n)
  pub opposite : Opposite n other (size n)

-- the distances by place that the code has in its slots
abbrev pub Agrees : Network → List ℕ → List ℕ → Type 0
Agrees n ds slots = (u : ℕ) → u < size n → distance_in n ds u ≡ get_or slots u 0

pub settled_agrees : {n : Network} {d : ℕ} {slots : List ℕ} → size n ≤ 64 → Settled n d slots → Agrees n (distances n d) slots
unfolding distance_in
settled_agrees {n} {d} {slots} most s u h =
    rw (← s.first) (get_or-take (size n) slots u (absent n) h ∙ get_d_within slots u (absent n) 0 (omega (arith, s.long)))

-- the distances that the code goes by: in shortest-path mode those of the network
pub record GoneBy (n : Network) (ds : List ℕ) (m : Mode) (slots : List ℕ) : Type 0 where
  pub shortest : m ≡ mode.ShortestPath → Agrees n ds slots

module _ {t : Topology} (w : SoundNetwork t) where
  pub topology_setting : T (sound t) → Setting (network_of t) (network_back t)
  topology_setting s =
      let sized = w.routers in
      record {
        here = subst (Within (network_of t)) (sym sized) (sound_within t s);
        back = subst (Within (network_back t)) (sym sized) (back_within t s);
        opposite = subst (Opposite (network_of t) (network_back t)) (sym sized) (back_exact t s).arcs;
      }

  pub topology_ids : (u : ℕ) → u < size (network_of t) → id_of (network_of t) u ≡ get_or t.id u 0
  topology_ids u h = let sized = w.routers in named (omega arith)
    where
      named : u < t.routers → id_of (network_of t) u ≡ get_or t.id u 0
      named l = unfold id_of network_of network_in contents linked in get_or-take t.routers t.id u 0 l
