-- What the functions of `unchecked` ask of arcs, IDs and standings, and what they make of them.
-- Assumes nothing.
use Rattle.std.specs.Prelude.{ℕ, ◌+◌, ◌*◌, ◌≤◌, ◌<◌, Bool, cond, ◌&&◌, List, map, ◌≡◌, eqb, ltb, length, get_or}
use Rattle.network.specs.Lists.{below, keep}
use Rattle.network.specs.Network.{Arc}
use Rattle.topology_types.specs.Limits.{most_routers, most_neighbours}
use Rattle.arcs.specs.declared.Arcs.{Arcs}
use Rattle.arcs.specs.Inner.{arcs_at, leaving}
use Rattle.order_standings.specs.declared.Mode.{Mode}
use Rattle.order_standings.specs.declared.Mode.TheVariants as mode
use Rattle.distances.specs.Inner.{Passable}

-- the arc of a router as far as `here` leads to a shortest next hop
unfoldable pub is_short : List ℕ → ℕ → Arc → Bool
is_short ds here b = eqb (b.cost + get_or ds b.to 0) here

-- what a mode makes of the shortest next hops that are not placed: in free mode none is waited for
unfoldable pub waits_for : Mode → ℕ → ℕ
waits_for mode.ShortestPath count = count
waits_for mode.Free count = 0

-- arcs of the first n routers as they are asked
pub record AllPassable (a : Arcs) (n : ℕ) (ds : List ℕ) : Type 0 where
  pub most : n ≤ most_routers
  pub few : (u : ℕ) → u < n → get_or a.count u 0 ≤ most_neighbours
  pub each : (u : ℕ) → u < n → Passable (map leaving (arcs_at a u)) ds

-- for each of the first n places how many of the first n IDs are lower than its own
pub record Lower (ids : List ℕ) (n : ℕ) (lower : List ℕ) : Type 0 where
  pub long : length lower ≡ most_routers
  pub each : (u : ℕ) → u < n → get_or lower u 0 ≡ length (keep (λ v. ltb (get_or ids v 0) (get_or ids u 0)) (below n))

-- numbers below 64, each of one place
pub record Apart (lower : List ℕ) (n : ℕ) : Type 0 where
  pub most : n ≤ most_routers
  pub small : (u : ℕ) → u < n → get_or lower u 0 < 64
  pub differ : (u v : ℕ) → u < n → v < n → get_or lower u 0 ≡ get_or lower v 0 → u ≡ v

-- the place of each such number
pub record Inverse (lower : List ℕ) (n : ℕ) (places : List ℕ) : Type 0 where
  pub long : length places ≡ most_routers
  pub each : (u : ℕ) → u < n → get_or places (get_or lower u 0) 0 ≡ u

-- the standings before any router is placed
pub record FirstStandings (a : Arcs) (ds lower : List ℕ) (m : Mode) (n : ℕ) (keys : List ℕ) : Type 0 where
  pub long : length keys ≡ most_routers
  pub each : (u : ℕ) → u < n →
      get_or keys u 0 + waits_for m (length (keep (is_short ds (get_or ds u 0)) (map leaving (arcs_at a u)))) * 1088 ≡ 17408 + get_or lower u 0
  pub past : (u : ℕ) → n ≤ u → u < most_routers → get_or keys u 0 ≡ 0

-- the highest of the first n standings
pub record Highest (keys : List ℕ) (n best : ℕ) : Type 0 where
  pub one : (u : ℕ) × (u < n) × (get_or keys u 0 ≡ best)
  pub most : (u : ℕ) → u < n → get_or keys u 0 ≤ best

-- what a placed neighbour adds to a standing, where the cost in all by way of it is `through`
unfoldable pub gain : Mode → ℕ → ℕ → ℕ
gain m through distance = 64 + waits_for m (cond (eqb through distance) 1 0) * 1088

-- how many of these arcs lead to v, and over how many of those their router u is a shortest next hop of v, by what going the other way costs
unfoldable pub leading : List Arc → ℕ → ℕ
leading arcs v = length (keep (λ b. eqb b.to v) arcs)

unfoldable pub serving : List Arc → List ℕ → ℕ → ℕ → ℕ
serving arcs ds u v = length (keep (λ b. eqb b.to v && eqb (b.cost + get_or ds u 0) (get_or ds v 0)) arcs)

-- the standing of v after these arcs of the router at u, which is placed
unfoldable pub standing_after : List ℕ → List Arc → List ℕ → Mode → ℕ → ℕ → ℕ
standing_after keys arcs ds m u v = get_or keys v 0 + leading arcs v * 64 + waits_for m (serving arcs ds u v) * 1088

-- the standings have room for that
abbrev pub Room : List ℕ → List Arc → List ℕ → Mode → ℕ → Type 0
Room keys arcs ds m u = (v : ℕ) → v < most_routers → standing_after keys arcs ds m u v ≤ 65535

-- and have become that
pub record StandingsAfter (keys : List ℕ) (arcs : List Arc) (ds : List ℕ) (m : Mode) (u : ℕ) (r : List ℕ) : Type 0 where
  pub long : length r ≡ most_routers
  pub each : (v : ℕ) → v < most_routers → get_or r v 0 ≡ standing_after keys arcs ds m u v
