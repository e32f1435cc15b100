-- What the inner calls ask of the bytes that they go through, and what they make of them; of the open contracts only those of `unchecked` name
-- it, for what was tested before and for the greatest hop counts as ranks.
-- Assumes nothing.
use Rattle.std.specs.Prelude.{ℕ, ◌+◌, ◌≤◌, ◌<◌, Bool, true, ◌&&◌, ◌≢◌, ◌≡◌, T, eqb, length, get_or, Option, Some, None}
use mathlib.Core.List.{List, [], Memᴰ, map}
use Rattle.std.specs.List.{find}
use Rattle.network.specs.Lists.{any}
use Rattle.topology_types.specs.declared.Place.{Place}
use Rattle.topology_types.specs.declared.Rank.{Rank}
use Rattle.topology_types.specs.declared.Topology.{Topology}
use Rattle.topology_types.specs.Limits.{most_routers}
use Rattle.topology_types.specs.Outcome.{answer}
use Rattle.topology_sound.specs.Sound.{sound}
use Rattle.arcs.specs.declared.Arc.{Arc}
use Rattle.arcs.specs.declared.Arcs.{Arcs}
use Rattle.arcs.specs.Inner.{Laid}
use Rattle.table.specs.Listed.{rank_in_lem}
use Rattle.table.specs.Calls.{table_checking}
use Rattle.forwarding_rules.specs.Schedule.{sound_length, wrong_states}
use Rattle.forwarding_rules.specs.Calls.{figure_byte}
use Rattle.forwarding_steps.specs.declared.unchecked.counting.Bounds.{Bounds}

-- a link that leads to v is up
abbrev pub is_up : List Arc → List ℕ → ℕ → Bool
is_up arcs states v = any (λ (arc : Arc). eqb arc.to.0 v && eqb (get_or states arc.link 0) 1) arcs

-- the first of the places to which a link leads that is up
abbrev pub first_up : List Arc → List ℕ → List ℕ → Option Place
first_up arcs states places = find (λ p. is_up arcs states p.0) (map (λ (v : ℕ). record { 0 = v }) places)

-- the bound of a place
unfoldable pub bound_of : List Rank → ℕ → ℕ
bound_of by v = (get_or by v (record { 0 = 0 })).0

-- what a row lists are places, none of whose bounds is past the routers
pub record Bounded (row : List ℕ) (by : List Rank) : Type 0 where
  pub long : length by ≡ most_routers
  pub places : (v : ℕ) → Memᴰ v row → v < most_routers
  pub few : (v : ℕ) → Memᴰ v row → bound_of by v < most_routers

-- how far the places go before one that there may be; past all of them where there is none
unfoldable pub before : Option Place → ℕ
before None = 255
before (Some p) = p.0

-- x is the lowest of the places from u on, n in all, that has the rank r, if any has
pub record LowestFrom (n : ℕ) (table : List ℕ) (r u : ℕ) (x : Option Place) : Type 0 where
  pub stands : (p : Place) → x ≡ Some p → (u ≤ p.0) × (p.0 < n) × (rank_in_lem table p.0 ≡ r)
  pub none_before : (v : ℕ) → u ≤ v → v < n → v < before x → rank_in_lem table v ≢ r

-- of the places from u on the lowest of each rank, and after each of them the next one of its rank
pub record Chained (n : ℕ) (table : List ℕ) (u : ℕ) (first next : List (Option Place)) : Type 0 where
  pub firsts : (r : ℕ) → r < n → LowestFrom n table r u (get_or first r None)
  pub nexts : (v : ℕ) → u ≤ v → v < n → rank_in_lem table v < n → LowestFrom n table (rank_in_lem table v) (v + 1) (get_or next v None)

-- the table was checked on a sound topology, whose arcs are laid out
pub record Checked (t : Topology) (a : Arcs) (table : List ℕ) : Type 0 where
  pub on_sound : T (sound t)
  pub holds : Laid t a
  pub passes : table_checking t table ≡ answer 0 0

-- the greatest hop count of every place, 255 where it has no rank (02, #107)
pub record FiguresIn (t : Topology) (table : List ℕ) (r : Bounds) : Type 0 where
  pub long : length r.by ≡ most_routers
  pub each : (u : ℕ) → u < t.routers → bound_of r.by u ≡ figure_byte t table u

-- a schedule that was tested
pub record Scheduled (t : Topology) (schedule : List ℕ) : Type 0 where
  pub whole : sound_length t.routers t.links (length schedule) ≡ true
  pub states : wrong_states schedule ≡ []
