-- What is proved of sound topologies, over all topology values.
-- Assumes nothing.
use Rattle.std.specs.Prelude.{ℕ, ◌≤◌, ◌<◌, ◌↔◌, ◌≡◌, T, length, take, drop}
use mathlib.Core.List.{Memᴰ, map}
use Rattle.network.specs.Network.{WellFormed, size, arcs_of, linked}
use Rattle.network.specs.Network as network
use Rattle.network.specs.Theorems.Network.{SoundLinks}
use Rattle.topology_types.specs.declared.Link.{Link}
use Rattle.topology_types.specs.declared.Topology.{Topology}
use Rattle.topology_types.specs.Topology.{network_of}
use Rattle.topology_sound.specs.Sound.{sound}
use Rattle.topology_sound.specs.Place.{on_place}

-- a link with its places as numbers
abbrev pub as_link : Link → network.Link
as_link l = record { first = l.first.0; second = l.second.0; cost = l.cost; back = l.back }

-- 01, Stations, links and limits: a topology is seen as the network of its IDs by place and its links by number.
abbrev pub NetworkSeen : Type 0
NetworkSeen = (t : Topology) → network_of t ≡ linked (take t.routers t.id) (map as_link (take t.links t.link))

-- 01, Refusals, 14: what `sound` tests
pub record Sound (t : Topology) : Type 0 where
  pub routers_least : 1 ≤ t.routers
  pub routers_most : t.routers ≤ 64
  pub links_most : t.links ≤ 256
  pub limit_least : 1 ≤ t.limit
  pub limit_most : t.limit ≤ 16
  pub linked : SoundLinks (take t.routers t.id) (map as_link (take t.links t.link))
  pub neighbours : (u : ℕ) → u < t.routers → length (arcs_of (network_of t) u) ≤ 16
  pub ids_unused : (i : ℕ) → Memᴰ i (drop t.routers t.id) → i ≡ 0
  pub links_unused : (l : Link) → Memᴰ l (drop t.links t.link) →
      (l.first.0 ≡ 0) × (l.second.0 ≡ 0) × (l.cost ≡ 0) × (l.back ≡ 0)
  pub id_slots : length t.id ≡ 64
  pub link_slots : length t.link ≡ 256
  pub ids_fit : (i : ℕ) → Memᴰ i t.id → i < 4294967296

abbrev pub SoundExact : Type 0
SoundExact = (t : Topology) → T (sound t) ↔ Sound t

-- A sound topology's network is well formed, so that all that is proved of well_formed networks holds of it; it has the topology's routers and links.
-- Its parts may be apart (02, #107).
pub record SoundNetwork (t : Topology) : Type 0 where
  pub well_formed : WellFormed (network_of t)
  pub routers : size (network_of t) ≡ t.routers
  pub links : (network_of t).links ≡ t.links

abbrev pub SoundNetworks : Type 0
SoundNetworks = (t : Topology) → T (sound t) → SoundNetwork t

-- 01, Refusals, 14 and 15: what a call that is given a place answers first, whatever it makes of a number and an at
pub record PlaceTested {A : Type 0} (refuse : ℕ → ℕ → A) (t : Topology) (u : ℕ) (next : A) : Type 0 where
  pub not_sound : (T (sound t) → ⊥) → on_place refuse t u next ≡ refuse 14 0
  pub no_place : T (sound t) → t.routers ≤ u → on_place refuse t u next ≡ refuse 15 u
  pub passes : T (sound t) → u < t.routers → on_place refuse t u next ≡ next

abbrev pub PlacesTested : Type 1
PlacesTested = (A : Type 0) (refuse : ℕ → ℕ → A) (t : Topology) (u : ℕ) (next : A) → PlaceTested refuse t u next
