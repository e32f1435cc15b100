-- Building where all that is read is lent: the same for every topology that has these arcs and IDs.
-- Assumes nothing.
use Prim.Native.Nat.{ℕ, ◌%◌, ◌≤◌, ◌<◌}
use mathlib.Core.List.{List, ◌++◌, map}
use mathlib.Core.Option.{some}
use mathlib.Core.Path.{◌≡◌, refl, sym, ap, subst, ◌∙◌}
use native.Mathlib.Omega.{arith}
use lib.ListN.{length, get_or, set, take, drop, replicate}
use lib.Seq.{length-take-le}
use Rattle.network.specs.Network.{arcs_of}
use Rattle.network.specs.Order.{build}
use Rattle.topology_types.specs.declared.Topology.{Topology}
use Rattle.topology_types.specs.Topology.{network_of}
use Rattle.topology_types.specs.Outcome.{answer}
use Rattle.topology_sound.specs.Place.{on_place}
use Rattle.topology_sound.proofs.Place.{on_place_ok}
use Rattle.arcs.specs.declared.Arc as own
use Rattle.arcs.specs.declared.Arcs.{Arcs}
use Rattle.arcs.specs.Inner.{arcs_at, returning, Laid}
use Rattle.arcs.specs.Back.{network_back}
use Rattle.distances.specs.Inner.{Passable, unnumbered, LaidIn}
use Rattle.distances.proofs.Alike.{arcs_alike, sees_back, passable_alike}
use Rattle.distances.proofs.Laid.{laid_out}
use Rattle.order_standings.specs.declared.Mode.{Mode}
use Rattle.order_standings.specs.Inner.{AllPassable, Lower, Apart, Inverse, FirstStandings, Highest, Room, StandingsAfter}
use Rattle.order_standings.proofs.Alike.{room_alike, after_alike, every_alike, first_alike}
use Rattle.order.specs.Calls.{mode_of, order_bytes}
use Rattle.order.specs.Inner.{DistancesFor, LaidOut, Lent}
use Rattle.order.proofs.Turn.{every_arc, hands_out, counts_in, counted_in, standings_low}
use Rattle.order.proofs.Building.{Building, ids_long, ids_few, ties_whole, ties_small, ties_apart, some_key, top_whole, selected, found, ends, all_placed, finished, cleared}

module _ {t : Topology} {a : Arcs} {ids ds : List ℕ} {d : ℕ} {m : Mode} (l : Lent t a ids d m ds) where
  -- there are as many IDs as routers
  pub routers_are : length ids ≡ t.routers
  routers_are = ap length (sym l.ids_are) ∙ length-take-le t.routers t.id (ids_long l.laid)

  pub own_few : length ids ≤ 64
  own_few = rw l.ids_are at (ids_few l.laid)

  pub own_ties : {lower : List ℕ} → Lower ids (length ids) lower → Lower t.id t.routers lower
  own_ties {lower} ties = ties_whole l.laid (subst (λ (xs : List ℕ). Lower xs (length xs) lower) (sym l.ids_are) ties)

  pub small : {lower : List ℕ} → Lower ids (length ids) lower → (u : ℕ) → u < length ids → get_or lower u 0 < 64
  small ties u h = ties_small l.laid (own_ties ties) u (rw (← routers_are) h)

  pub apart : {lower : List ℕ} → Lower ids (length ids) lower → Apart lower (length ids)
  apart ties = rw routers_are (ties_apart l.laid (own_ties ties))

  pub d_in : d < length ids
  d_in = rw routers_are l.laid.place

  pub own_every : AllPassable a (length ids) ds
  own_every = rw routers_are (every_alike l.alike (every_arc l.laid))

  pub own_start : {lower keys : List ℕ} → FirstStandings a ds lower m (length ids) keys → FirstStandings l.numbered ds lower m t.routers keys
  own_start {lower} {keys} start = first_alike l.alike (subst (λ (n : ℕ). FirstStandings a ds lower m n keys) routers_are start)

  module _ {u : ℕ} (h : u < t.routers) where
    pub own_hands : (u < 64) × (get_or a.count u 0 ≤ 16)
    own_hands = let (few, most) = hands_out l.laid h in (few, rw l.alike.counts at most)

    -- its arcs, by their own numbers
    abbrev theirs : List own.Arc
    theirs = arcs_at l.numbered u

    module _ {arcs : List own.Arc} (e : arcs ≡ arcs_at a u) where
      same : map unnumbered theirs ≡ map unnumbered arcs
      same = rw e (arcs_alike l.alike u)

      pub own_counts : (keys : List ℕ) → Room keys (arcs_of (network_back t) u) ds m u →
          (u < 64) × Passable (map returning arcs) ds × Room keys (map returning arcs) ds m u
      own_counts keys room =
          let (inside, fit, kept) = counts_in l.laid h theirs refl keys room in
          (inside, passable_alike returning sees_back theirs arcs same fit, room_alike theirs arcs same ds keys m u kept)

      pub own_counted : {keys r : List ℕ} → StandingsAfter keys (map returning arcs) ds m u r → StandingsAfter keys (arcs_of (network_back t) u) ds m u r
      own_counted {keys} after = counted_in l.laid h theirs refl (after_alike arcs theirs (sym same) ds keys m u after)

  module _ {lower first out keys : List ℕ} {rank : ℕ} (b : Building t l.numbered d m ds lower first out keys rank) where
    pub own_keys : length ids ≤ length keys
    own_keys = omega (arith, own_few, b.right.long)

    pub own_key : 0 < length (take (length ids) keys)
    own_key = rw routers_are (some_key b)

    -- the standings that are compared fit 15 bits
    pub keys_fit : (u : ℕ) → u < length ids → get_or keys u 0 < 32768
    keys_fit u h = standings_low b.given (ties_small b.given b.ties) b.right u (rw (← routers_are) h)

    module _ (more : rank < length ids) where
      pub own_more : rank < t.routers
      own_more = rw routers_are at more

      pub picked : {best : ℕ} {places : List ℕ} → Highest (take (length ids) keys) (length (take (length ids) keys)) best → 17472 ≤ best →
          Inverse lower (length ids) places → selected b own_more ≡ some (get_or places (best % 64) 0)
      picked {places = places} top high inverse =
          found b own_more (top_whole b (rw routers_are at top)) high (subst (λ (n : ℕ). Inverse lower n places) routers_are inverse)

  -- when all are placed, or none that is left is a candidate
  module _ {first : List ℕ} (old : List ℕ) (are : first ≡ replicate (length ids) 255 ++ drop (length ids) old) {lower out keys : List ℕ} {rank : ℕ}
      (b : Building t l.numbered d m ds lower (set first 0 d) out keys rank) (least : 1 ≤ rank) where
    finish : build (network_of t) d (mode_of m) ≡ b.placed → out ≡ order_bytes (length ids) (build (network_of t) d (mode_of m)) ++ drop (length ids) old
    finish whole = rw routers_are (finished old b (cleared t.routers first old (rw routers_are at are) rank d least b.most) whole)

    pub done : length ids ≤ rank → out ≡ order_bytes (length ids) (build (network_of t) d (mode_of m)) ++ drop (length ids) old
    done over = finish (all_placed b (rw routers_are at over))

    pub stuck : rank < length ids → {best : ℕ} → Highest (take (length ids) keys) (length (take (length ids) keys)) best → best < 17472 →
        out ≡ order_bytes (length ids) (build (network_of t) d (mode_of m)) ++ drop (length ids) old
    stuck more top low = finish (ends b (own_more b more) (top_whole b (rw routers_are at top)) low)

-- a place that was tested, the arcs of a sound topology, and what serves the mode for every topology that has these arcs
pub laid_by : {t : Topology} {a : Arcs} {d : ℕ} {m : Mode} {ds : List ℕ} → answer 0 0 ≡ on_place answer t d (answer 0 0) → Laid t a →
    ((s : Topology) → LaidIn s a t.routers → DistancesFor (network_of s) d m ds) → LaidOut t a d m ds
laid_by {t} {d = d} e laid serve =
    let (good, place) = on_place_ok t d e in
    record { is-sound = good; holds = laid; place = place; for_mode = serve t (laid_out good laid) }

-- what is laid out is lent so
module _ {t : Topology} {a : Arcs} {d : ℕ} {m : Mode} {ds : List ℕ} (g : LaidOut t a d m ds) where
  pub lent : Lent t a (take t.routers t.id) d m ds
  lent = record { numbered = a; alike = record { counts = refl; slots = refl }; laid = g; ids_are = refl }

  pub as_many : length (take t.routers t.id) ≡ t.routers
  as_many = routers_are lent

  pub built : {out : List ℕ} (old : List ℕ) →
      ((s : Topology) → Lent s a (take t.routers t.id) d m ds →
      out ≡ order_bytes (length (take t.routers t.id)) (build (network_of s) d (mode_of m)) ++ drop (length (take t.routers t.id)) old) →
      out ≡ order_bytes t.routers (build (network_of t) d (mode_of m)) ++ drop t.routers old
  built old e = rw as_many at (e t lent)
