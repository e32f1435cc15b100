-- What is proved of networks made from links.
-- Assumes nothing.
use Rattle.std.specs.Prelude.{ℕ, ◌≤◌, ◌<◌, ◌↔◌, ◌≢◌, ◌⊎◌, ◌≡◌, T, length}
use mathlib.Core.List.{List, ◌∷◌, ◌++◌, Memᴰ}
use Rattle.network.specs.Lists.{Pairwise, Distinct}
use Rattle.network.specs.Network.{Arc, WellFormed, arcs_of, Link, linked, sound_links}
use Rattle.network.specs.Distance.{PathTo}

-- 01, Refusals, 5 to 7: a link joins two different places that are listed, at costs from 1 to 65,535
pub record SoundLink (count : ℕ) (l : Link) : Type 0 where
  pub first_listed : l.first < count
  pub second_listed : l.second < count
  pub ends_differ : l.first ≢ l.second
  pub cost_least : 1 ≤ l.cost
  pub cost_most : l.cost ≤ 65535
  pub back_least : 1 ≤ l.back
  pub back_most : l.back ≤ 65535

-- 02, #105, 8: two links join one pair, in either order, so that they would share both halves
abbrev pub SamePair : Link → Link → Type 0
SamePair l k = ((l.first ≡ k.first) × (l.second ≡ k.second)) ⊎ ((l.first ≡ k.second) × (l.second ≡ k.first))

-- 01, Refusals, 3 and 5 to 8: what `sound_links` tests
pub record SoundLinks (ids : List ℕ) (ls : List Link) : Type 0 where
  pub ids-differ : Distinct ids
  pub each : (l : Link) → Memᴰ l ls → SoundLink (length ids) l
  pub pairs-differ : Pairwise (λ l k. SamePair l k → ⊥) ls

abbrev pub SoundLinksExact : Type 0
SoundLinksExact = (ids : List ℕ) (ls : List Link) → T (sound_links ids ls) ↔ SoundLinks ids ls

-- The network of sound links is well formed, so all that is proved of well_formed networks holds of it.
abbrev pub LinkedWellFormed : Type 0
LinkedWellFormed = (ids : List ℕ) (ls : List Link) → T (sound_links ids ls) → WellFormed (linked ids ls)

-- the arc a is a link of the list seen from its end u: it has the link's number, leads to the other end, and costs what sending from u costs
pub record LinkOf (ls : List Link) (u : ℕ) (a : Arc) : Type 0 where
  pub before : List Link
  pub link : Link
  pub after : List Link
  pub stands : ls ≡ before ++ (link ∷ after)
  pub number : a.link ≡ length before
  pub ends : ((link.first ≡ u) × (a.to ≡ link.second) × (a.cost ≡ link.cost))
      ⊎ ((link.second ≡ u) × (a.to ≡ link.first) × (a.cost ≡ link.back))

-- It has the IDs by place and as many links; each link is an arc of both its ends, at the cost of the end that sends, and there are no other
-- arcs; they stand in the order of their link numbers.
pub record Linked (ids : List ℕ) (ls : List Link) : Type 0 where
  pub same_ids : (linked ids ls).ids ≡ ids
  pub same-links : (linked ids ls).links ≡ length ls
  pub arcs : (u : ℕ) → u < length ids → (a : Arc) → Memᴰ a (arcs_of (linked ids ls) u) ↔ LinkOf ls u a
  pub in_order : (u : ℕ) → Pairwise (λ a b. a.link < b.link) (arcs_of (linked ids ls) u)

abbrev pub LinkedExact : Type 0
LinkedExact = (ids : List ℕ) (ls : List Link) → T (sound_links ids ls) → Linked ids ls

-- Links go both ways, so where every router has a path to one place, as in a topology in one piece, every router has a path to every place.
abbrev pub LinkedConnected : Type 0
LinkedConnected =
    (ids : List ℕ) (ls : List Link) → T (sound_links ids ls) → (middle : ℕ) → ((u : ℕ) → u < length ids → PathTo (linked ids ls) middle u) → (d u : ℕ) → d < length ids → u < length ids → PathTo (linked ids ls) d u
