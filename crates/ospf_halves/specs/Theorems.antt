-- What is proved of the neighbours of a router, and of the halves that its LSA gives, over all bytes and links.
-- Assumes nothing.
use Rattle.std.specs.Prelude.{ℕ, ◌≤◌, ◌<◌, ◌↔◌, ◌≢◌, ◌≡◌, length, get_or}
use mathlib.Core.List.{List, [], ◌∷◌, ◌++◌, map, Memᴰ}
use Rattle.std.proofs.Math.Option.{none, some}
use Rattle.network.specs.Lists.{keep, member, Pairwise, Distinct}
use Rattle.topology_types.specs.declared.Half.{Half}
use Rattle.ospf_lsas.specs.Lsa.{RouterLink, links}
use Rattle.ospf_lsas.specs.Theorems.{RouterLsa}
use Rattle.ospf_halves.specs.Neighbours.{all_of, point_to_point, lowest_to_lem, neighbours_of, place_of, halves_of}

-- the links that were read, and none where none were
pub record AllOf : Type 0 where
  pub are-links : (s : List ℕ) (ls : List RouterLink) → RouterLsa s ls → all_of (links s) ≡ ls
  pub were_read : (ls : List RouterLink) → all_of (some ls) ≡ ls
  pub no_links : all_of none ≡ []

-- 02, #106: of no links there is no neighbour. A link more at the end adds its Link ID at the end if it is of type 1 and the first to that router, and
-- else nothing.
pub record Neighbours : Type 0 where
  pub no_links : neighbours_of [] ≡ []
  pub first : (ls : List RouterLink) (l : RouterLink) → l.kind ≡ 1 → (Memᴰ l.id (neighbours_of ls) → ⊥) →
      neighbours_of (ls ++ (l ∷ [])) ≡ neighbours_of ls ++ (l.id ∷ [])
  pub parallel : (ls : List RouterLink) (l : RouterLink) → l.kind ≡ 1 → Memᴰ l.id (neighbours_of ls) →
      neighbours_of (ls ++ (l ∷ [])) ≡ neighbours_of ls
  pub skipped : (ls : List RouterLink) (l : RouterLink) → l.kind ≢ 1 → neighbours_of (ls ++ (l ∷ [])) ≡ neighbours_of ls

-- RFC 2328, A.4.2: the links of type 1
abbrev pub PointToPoint : Type 0
PointToPoint = (ls : List RouterLink) (l : RouterLink) → Memᴰ l (point_to_point ls) ↔ (Memᴰ l ls × (l.kind ≡ 1))

-- 02, #106: a metric below 65,536 is the lowest of the links with a Link ID if and only if one of them has it and none has a lower one
pub record Lowest (id : ℕ) (ls : List RouterLink) (metric : ℕ) : Type 0 where
  pub attained : (l : RouterLink) × Memᴰ l ls × (l.id ≡ id) × (l.metric ≡ metric)
  pub none_lower : (l : RouterLink) → Memᴰ l ls → l.id ≡ id → metric ≤ l.metric

abbrev pub LowestCounts : Type 0
LowestCounts = (id : ℕ) (ls : List RouterLink) (metric : ℕ) → metric < 65536 → (lowest_to_lem id ls ≡ metric) ↔ Lowest id ls metric

-- and it is 65,536 if no link has that ID
abbrev pub LowestOfNone : Type 0
LowestOfNone = (id : ℕ) (ls : List RouterLink) → ((l : RouterLink) → Memᴰ l ls → l.id ≢ id) → lowest_to_lem id ls ≡ 65536

-- a router's place is the first at which its ID stands, and the list's length if and only if it stands nowhere
pub record Places (id : ℕ) (ids : List ℕ) : Type 0 where
  pub stands : (place : ℕ) → place < length ids →
      (place_of id ids ≡ place) ↔ ((get_or ids place 0 ≡ id) × ((p : ℕ) → p < place → get_or ids p 0 ≢ id))
  pub nowhere : (place_of id ids ≡ length ids) ↔ (Memᴰ id ids → ⊥)

abbrev pub PlacesEach : Type 0
PlacesEach = (id : ℕ) (ids : List ℕ) → Places id ids

-- 02, #106: a half is given if and only if it leads from the LSA's place to that of a router of the file that a link of type 1 names, at the lowest metric
-- of such links; where IDs differ, as 3 ensures, and metrics are below 65,536 (`Metrics` of `ospf_lsas`)
pub record HalfGiven (ids : List ℕ) (place : ℕ) (ls : List RouterLink) (h : Half) : Type 0 where
  pub sender : h.from.0 ≡ place
  pub inside : h.to.0 < length ids
  pub attained : (l : RouterLink) × Memᴰ l ls × (l.kind ≡ 1) × (l.id ≡ get_or ids h.to.0 0) × (l.metric ≡ h.cost)
  pub none_lower : (l : RouterLink) → Memᴰ l ls → l.kind ≡ 1 → l.id ≡ get_or ids h.to.0 0 → h.cost ≤ l.metric

abbrev pub HalvesGiven : Type 0
HalvesGiven = (ids : List ℕ) (place : ℕ) (ls : List RouterLink) → Distinct ids → ((l : RouterLink) → Memᴰ l ls → l.metric < 65536) →
    (h : Half) → Memᴰ h (halves_of ids place ls) ↔ HalfGiven ids place ls h

-- 02, #106: no two halves of an LSA lead to one place
abbrev pub OneEach : Type 0
OneEach = (ids : List ℕ) (place : ℕ) (ls : List RouterLink) → Pairwise (λ h k. h.to.0 ≢ k.to.0) (halves_of ids place ls)

-- 02, #106: they come in the order in which the neighbours are first listed, of those that have an LSA
abbrev pub FirstListed : Type 0
FirstListed = (ids : List ℕ) (place : ℕ) (ls : List RouterLink) →
    map (λ h. get_or ids h.to.0 0) (halves_of ids place ls) ≡ keep (λ id. member id ids) (neighbours_of ls)

-- 02, #106: a link of another type than 1 changes nothing, wherever it stands
abbrev pub OthersSkipped : Type 0
OthersSkipped = (ids : List ℕ) (place : ℕ) (before after : List RouterLink) (l : RouterLink) → l.kind ≢ 1 →
    halves_of ids place (before ++ (l ∷ after)) ≡ halves_of ids place (before ++ after)
