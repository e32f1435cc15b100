-- What the functions ask of arcs, distances and marks, and what they promise.
-- Assumes nothing.
use Rattle.std.specs.Prelude.{ℕ, ◌+◌, ◌*◌, ◌≤◌, ◌<◌, List, map, ◌≡◌, length, get_or, take, T, ◌⊎◌}
use mathlib.Core.List.{Memᴰ}
use Rattle.topology_types.specs.Limits.{most_routers, most_neighbours}
use Rattle.network.specs.Network.{Arc, Network, size}
use Rattle.network.specs.Distance.{distances}
use Rattle.topology_types.specs.declared.Topology.{Topology}
use Rattle.topology_sound.specs.Sound.{sound}
use Rattle.arcs.specs.declared.Arc as own
use Rattle.arcs.specs.declared.Arcs.{Arcs}
use Rattle.arcs.specs.Inner.{ArcsHeld, returning}
use Rattle.arcs.specs.Back.{network_back}

-- the most that an absent distance can be: for each router one more than the greatest cost
abbrev pub farthest : ℕ
farthest = most_routers * 65536

-- arcs of a router that lead to places, at costs up to 65535, network's `greatest_cost`, and distances with which they sum up within 32 bits
pub record Passable (arcs : List Arc) (ds : List ℕ) : Type 0 where
  pub few : length arcs ≤ most_neighbours
  pub leads : (b : Arc) → Memᴰ b arcs → b.to < most_routers
  pub cheap : (b : Arc) → Memᴰ b arcs → b.cost ≤ 65535
  pub near : (v : ℕ) → v < most_routers → get_or ds v 0 ≤ farthest

-- an arc but for its link's number, which neither distances nor orders go by
abbrev pub unnumbered : own.Arc → own.Arc
unnumbered arc = record { to = arc.to; link = 0; cost = arc.cost; back = arc.back }

-- arcs that differ in the numbers of their links at most
pub record Alike (a b : Arcs) : Type 0 where
  pub counts : a.count ≡ b.count
  pub slots : map unnumbered a.slot ≡ map unnumbered b.slot

-- a sound topology of n routers whose arcs these are, whatever the numbers of their links, each with what going the other way costs
pub record LaidIn (t : Topology) (a : Arcs) (n : ℕ) : Type 0 where
  pub is-sound : T (sound t)
  pub numbered : Arcs
  pub alike : Alike numbered a
  pub holds : ArcsHeld returning (network_back t) numbered
  pub routers : t.routers ≡ n

-- the distances to d in the first slots, and in no slot more than absent can be
pub record Settled (n : Network) (d : ℕ) (ds : List ℕ) : Type 0 where
  pub first : take (size n) ds ≡ distances n d
  pub long : length ds ≡ most_routers
  pub near : (v : ℕ) → v < most_routers → get_or ds v 0 ≤ farthest

-- the mark of a router that is not settled is its place
abbrev pub Open : List ℕ → ℕ → Type 0
Open marks v = get_or marks v 0 ≡ v

-- the mark of a settled router: more than any distance with a place behind it
abbrev pub Closed : List ℕ → ℕ → Type 0
Closed marks v = get_or marks v 0 ≡ 536870912

-- distances that fit, each router marked, and one at least not settled
pub record Searched (ds marks : List ℕ) (n : ℕ) : Type 0 where
  pub most : n ≤ most_routers
  pub near : (v : ℕ) → v < n → get_or ds v 0 ≤ farthest
  pub marked : (v : ℕ) → v < n → Open marks v ⊎ Closed marks v
  pub some_open : (v : ℕ) × (v < n) × Open marks v

-- r is not settled, and of those that are not settled none is nearer
pub record Nearest (ds marks : List ℕ) (n r : ℕ) : Type 0 where
  pub place : r < n
  pub is_open : Open marks r
  pub least : (v : ℕ) → v < n → Open marks v → get_or ds r 0 ≤ get_or ds v 0

-- going against arcs of a router that is as far as `here`: none is farther than before; none that an arc leads to is farther than by way of the router; each is
-- as far as before or as by way of it
pub record Relaxed (arcs : List Arc) (here : ℕ) (old new : List ℕ) : Type 0 where
  pub long : length new ≡ most_routers
  pub nearer : (v : ℕ) → get_or new v 0 ≤ get_or old v 0
  pub reached : (b : Arc) → Memᴰ b arcs → get_or new b.to 0 ≤ b.cost + here
  pub by_way : (v : ℕ) → (get_or new v 0 ≡ get_or old v 0) ⊎ ((b : Arc) × Memᴰ b arcs × (b.to ≡ v) × (get_or new v 0 ≡ b.cost + here))
