-- What is proved of the network with costs exchanged.
-- Assumes nothing.
use Rattle.std.specs.Prelude.{ℕ, ◌<◌, ◌↔◌, ◌≡◌, T}
use mathlib.Core.List.{Memᴰ}
use Rattle.network.specs.Network.{Network, arcs_of, size, WellFormed}
use Rattle.topology_types.specs.Topology.{network_of}
use Rattle.topology_types.specs.declared.Topology.{Topology}
use Rattle.topology_sound.specs.Sound.{sound}
use Rattle.arcs.specs.Back.{network_back}

-- of the first `count` places, u has an arc to v in `back` if and only if v has one to u in n, over the same link and at the same cost
abbrev pub Opposite : Network → Network → ℕ → Type 0
Opposite n back count =
    (u v cost link : ℕ) → u < count → v < count →
    Memᴰ (record { to = v; cost = cost; link = link }) (arcs_of back u) ↔ Memᴰ (record { to = u; cost = cost; link = link }) (arcs_of n v)

-- 02, #105: with costs exchanged the network of a sound topology is well formed and has the topology's routers, and its arcs are those of the other ends.
pub record Back (t : Topology) : Type 0 where
  pub well_formed : WellFormed (network_back t)
  pub routers : size (network_back t) ≡ t.routers
  pub arcs : Opposite (network_of t) (network_back t) t.routers

abbrev pub BackExact : Type 0
BackExact = (t : Topology) → T (sound t) → Back t
