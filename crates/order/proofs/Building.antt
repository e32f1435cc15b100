-- Building, turn by turn: what is placed begins the order that is built, and the standings are right for it. The router that is selected stands highest;
-- where the highest is no candidate none is selected, and the order ends.
-- Assumes nothing.
use Prim.Native.Nat.{ℕ, suc, ◌+◌, ◌-◌, ◌%◌, ◌≤◌, ◌<◌}
use mathlib.Core.List.Memᴰ
use mathlib.Core.List.{List, [], ◌∷◌, ◌++◌, append-nil, append_assoc, Memᴰ}
use mathlib.Core.Option.{Option, some}
use mathlib.Core.Path.{◌≡◌, refl, sym, ap, subst, ◌∙◌}
use native.Mathlib.Numerals.{add-one}
use native.Mathlib.Omega.{arith}
use lib.ListN.{length, get_or, set, take, drop, replicate, length-append, length-drop, length-set, length-replicate}
use lib.Seq.{length-take-le, drop-cons, drop-append-le, drop-set-lt, set_split, set_at, append_snoc}
use Rattle.network.specs.Network.{Network, size, arcs_of}
use Rattle.network.specs.Distance.{PathTo, distances}
use Rattle.network.specs.Order.{select, continued, placing, build}
use Rattle.network.specs.Theorems.Order.{Candidate}
use Rattle.network.proofs.Distance.{starts_in}
use Rattle.network.proofs.Candidate.{fact_candidate}
use Rattle.network.proofs.Selection.{ids_apart, selection_right}
use Rattle.network.proofs.Order.{acceptance_exact, built_accepted}
use Rattle.topology_types.specs.declared.Topology.{Topology}
use Rattle.topology_types.specs.Topology.{padded, network_of}
use Rattle.arcs.specs.declared.Arcs.{Arcs}
use Rattle.arcs.specs.Back.{network_back}
use Rattle.order_standings.specs.declared.Mode as own
use Rattle.order.specs.Calls.{mode_of, order_bytes}
use Rattle.order.specs.Inner.{LaidOut}
use Rattle.order_standings.specs.Inner.{waits_for, Lower, Apart, Inverse, FirstStandings, Highest, Room, StandingsAfter}
use Rattle.order.proofs.Runs.{drop_same}
use Rattle.order_standings.proofs.Counting.{waiting}
use Rattle.order_standings.proofs.Kept.{Kept}
use Rattle.topology_sound.proofs.Sound.{sound_exact}
use Rattle.order_standings.proofs.Parts.{lower_whole, highest_whole}
use Rattle.order_standings.proofs.Setting.{topology_ids}
use Rattle.order_standings.proofs.Ties.{lower_small, lower_apart}
use Rattle.order.proofs.Turn.{facts, within, candidate_waits, none_left, some_left, top_selected, room, placed_too, first_placed}

-- the IDs by place are those of the slice
module _ {t : Topology} {a : Arcs} {d : ℕ} {m : own.Mode} {ds : List ℕ} (g : LaidOut t a d m ds) where
  pub ids_long : t.routers ≤ length t.id
  ids_long = omega (arith, ((sound_exact t).0 g.is-sound).id_slots, (within g).most)

  pub ids_few : length (take t.routers t.id) ≤ 64
  ids_few = omega (arith, length-take-le t.routers t.id ids_long, (within g).most)

  pub ties_whole : {lower : List ℕ} → Lower (take t.routers t.id) (length (take t.routers t.id)) lower → Lower t.id t.routers lower
  ties_whole = lower_whole t.routers t.id ids_long

-- as many IDs are lower than there are places before the last, so at most 63
pub ties_small : {t : Topology} {a : Arcs} {d : ℕ} {m : own.Mode} {ds lower : List ℕ} → LaidOut t a d m ds → Lower t.id t.routers lower →
    (u : ℕ) → u < t.routers → get_or lower u 0 < 64
ties_small g ties u h = omega (arith, lower_small ties u h, (within g).most)

-- and IDs differ, so these numbers do
pub ties_apart : {t : Topology} {a : Arcs} {d : ℕ} {m : own.Mode} {ds lower : List ℕ} → LaidOut t a d m ds → Lower t.id t.routers lower → Apart lower t.routers
ties_apart {t} g ties =
    lower_apart ties (within g).most
    (λ u v h k differ e.
    let seen = facts g in
    let u_in : u < size (network_of t) = omega (arith, seen.routers) in
    let v_in : v < size (network_of t) = omega (arith, seen.routers) in
    ids_apart seen.well_formed u v u_in v_in differ (topology_ids seen u u_in ∙ e ∙ sym (topology_ids seen v v_in)))

-- before a turn: `rank` routers are placed, and the slice holds them and then what it held at first
pub record Building (t : Topology) (a : Arcs) (d : ℕ) (m : own.Mode) (ds lower first out keys : List ℕ) (rank : ℕ) : Type 0 where
  pub given : LaidOut t a d m ds
  pub ties : Lower t.id t.routers lower
  pub placed : List ℕ
  pub begun : Memᴰ d placed
  pub right : Kept (network_of t) (distances (network_of t) d) m lower placed keys
  pub long : length placed ≡ rank
  pub most : rank ≤ t.routers
  pub goes_on : build (network_of t) d (mode_of m) ≡ placed ++ placing (network_of t) (distances (network_of t) d) (mode_of m) (t.routers - rank) placed
  pub room : t.routers ≤ length first
  pub held : out ≡ placed ++ drop rank first

-- so many standings are looked at
module _ {t : Topology} {a : Arcs} {d : ℕ} {m : own.Mode} {ds lower first out keys : List ℕ} {rank : ℕ} (b : Building t a d m ds lower first out keys rank) where
  keys_long : t.routers ≤ length keys
  keys_long = omega (arith, b.right.long, (within b.given).most)

  pub some_key : 0 < length (take t.routers keys)
  some_key = omega (arith, length-take-le t.routers keys keys_long, b.given.place)

  pub top_whole : {best : ℕ} → Highest (take t.routers keys) (length (take t.routers keys)) best → Highest keys t.routers best
  top_whole = highest_whole t.routers keys keys_long

module _ {t : Topology} {a : Arcs} {d : ℕ} {m : own.Mode} {ds lower first out keys : List ℕ} {rank : ℕ} (b : Building t a d m ds lower first out keys rank)
    (more : rank < t.routers) where
  abbrev n : Network
  n = network_of t

  inside : {u : ℕ} → u < t.routers → u < size n
  inside h = omega (arith, (facts b.given).routers)

  -- the routers that follow, if u is selected
  then : ℕ → List ℕ
  then u = placing n (distances n d) (mode_of m) (t.routers - (rank + 1)) (b.placed ++ (u ∷ []))

  abbrev pub selected : Option ℕ
  selected = select n (distances n d) (mode_of m) b.placed

  goes_on : build n d (mode_of m) ≡ b.placed ++ continued selected then
  unfolding placing then
  goes_on = let one : t.routers - rank ≡ suc (t.routers - (rank + 1)) = omega arith in rw one at b.goes_on

  small : (u : ℕ) → u < t.routers → get_or lower u 0 < 64
  small = ties_small b.given b.ties

  -- what is placed is of the order that is built, so it has a path
  paths : (u : ℕ) → Memᴰ u b.placed → PathTo n d u
  paths u k =
      let formed = (facts b.given).well_formed in
      let d_in = inside b.given.place in
      ((acceptance_exact n formed d d_in (mode_of m) (build n d (mode_of m))).0 (built_accepted n formed d d_in (mode_of m))).only u
      (subst (Memᴰ u) (sym b.goes_on) (Memᴰ.append_left _ k))

  module _ {u : ℕ} (e : selected ≡ some u) where
    candidate : Candidate n d (mode_of m) b.placed u
    candidate = (selection_right n (facts b.given).well_formed d (inside b.given.place) (mode_of m) b.placed).taken u e

    pub place : u < t.routers
    place = omega (arith, starts_in n (facts b.given).well_formed d (inside b.given.place) candidate.path, (facts b.given).routers)

    waits : waits_for m (waiting n (distances n d) b.placed u) ≡ 0
    waits =
        candidate_waits b.given small b.right u
        (fact_candidate n (facts b.given).well_formed d (inside b.given.place) (mode_of m) b.placed u candidate)

    pub has_room : Room (set keys u 0) (arcs_of (network_back t) u) ds m u
    has_room = room b.given small b.right place candidate.unplaced waits

    pub again : {r : List ℕ} → StandingsAfter (set keys u 0) (arcs_of (network_back t) u) ds m u r →
        Building t a d m ds lower first (set out rank u) r (rank + 1)
    unfolding then continued
    again step =
        let inside : rank < length first = omega (arith, b.room) in
        let long = b.long in
        record {
          given = b.given;
          ties = b.ties;
          placed = b.placed ++ (u ∷ []);
          begun = Memᴰ.append_left (u ∷ []) b.begun;
          right = placed_too b.given small b.right place candidate.unplaced waits step;
          long = rw length-append (omega arith);
          most = omega arith;
          goes_on = rw append_snoc (rw e at goes_on);
          room = b.room;
          held = rw (b.held, add-one, drop-cons first rank 0, set_at, append_snoc);
        }

  module _ {best : ℕ} (top : Highest keys t.routers best) where
    -- where it is a candidate it is selected, and is known by how many IDs are lower
    pub found : {places : List ℕ} → 17472 ≤ best → Inverse lower t.routers places → selected ≡ some (get_or places (best % 64) 0)
    found high inverse =
        let (u, e) = some_left b.given small b.right b.begun paths top high in
        rw (top_selected b.given small b.right b.begun paths top b.ties e, inverse.each u (place e)) e

    -- where it is none, all that have a path are placed
    pub ends : best < 17472 → build n d (mode_of m) ≡ b.placed
    unfolding continued
    ends low = rw (none_left b.given small b.right b.begun paths top low, append-nil) at goes_on

module _ {t : Topology} {a : Arcs} {d : ℕ} {m : own.Mode} {ds lower : List ℕ} where
  -- after d is placed
  pub first_turn : (first : List ℕ) {keys r : List ℕ} → LaidOut t a d m ds → Lower t.id t.routers lower → t.routers ≤ length first →
      FirstStandings a ds lower m t.routers keys → StandingsAfter (set keys d 0) (arcs_of (network_back t) d) ds m d r →
      Building t a d m ds lower (set first 0 d) (set first 0 d) r 1
  unfolding build
  first_turn first g ties enough start step =
      let some-place : 0 < length first = omega (arith, g.place) in
      record {
        given = g;
        ties = ties;
        placed = d ∷ [];
        begun = Memᴰ.head refl;
        right = first_placed g (ties_small g ties) start step;
        long = refl;
        most = omega (arith, g.place);
        goes_on = ap (λ (left : ℕ). d ∷ placing (network_of t) (distances (network_of t) d) (mode_of m) left (d ∷ [])) (omega (arith, (facts g).routers));
        room = simp length-set enough;
        held = rw (set_split first 0 d some-place);
      }

  -- when N are placed the order ends too
  pub all_placed : {first out keys : List ℕ} {rank : ℕ} (b : Building t a d m ds lower first out keys rank) → t.routers ≤ rank →
      build (network_of t) d (mode_of m) ≡ b.placed
  unfolding placing
  all_placed {rank} b over =
      let none_left : t.routers - rank ≡ 0 = omega arith in
      rw (none_left, append-nil) at b.goes_on

  -- what the slice holds in the end, where it held 255 from there on to N
  pub finished : (old : List ℕ) {first out keys : List ℕ} {rank : ℕ} (b : Building t a d m ds lower first out keys rank) →
      drop rank first ≡ replicate (t.routers - rank) 255 ++ drop t.routers old → build (network_of t) d (mode_of m) ≡ b.placed →
      out ≡ order_bytes t.routers (build (network_of t) d (mode_of m)) ++ drop t.routers old
  unfolding order_bytes padded
  finished old {rank = rank} b cleared whole =
      b.held ∙ rw (whole, b.long, cleared) (sym (append_assoc b.placed (replicate (t.routers - rank) 255) (drop t.routers old)))

-- 255 in the first n bytes: as many bytes as before, and from a later rank on these are 255 still, also with x in the first
module _ (n : ℕ) (first old : List ℕ) (are : first ≡ replicate n 255 ++ drop n old) where
  pub cleared : (rank x : ℕ) → 1 ≤ rank → rank ≤ n → drop rank (set first 0 x) ≡ replicate (n - rank) 255 ++ drop n old
  cleared rank x least most =
      drop-set-lt rank first 0 x least
      ∙ rw are
      (drop-append-le rank (replicate n 255) (drop n old) (omega (arith, length-replicate {A = ℕ} n 255))
      ∙ ap (λ (bytes : List ℕ). bytes ++ drop n old) (drop_same rank n 255))

  pub cleared_long : n ≤ length old → length first ≡ length old
  cleared_long h = ap length are ∙ simp (length-append, length-drop) (omega (arith, length-replicate {A = ℕ} n 255))
