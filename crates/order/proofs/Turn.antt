-- What the functions that place routers share: the arcs that they go through are those of the network, and the standings stay right from turn to turn.
-- Assumes nothing.
use Prim.Native.Nat.{ℕ, ◌*◌, ◌%◌, ◌≤◌, ◌<◌}
use mathlib.Core.Bool.{not}
use mathlib.Core.List.Memᴰ
use mathlib.Core.List.{List, [], ◌∷◌, ◌++◌, map, Memᴰ}
use mathlib.Core.Option.{none, some}
use mathlib.Core.Path.{◌≡◌, refl, sym, ap, ◌∙◌}
use native.Mathlib.Omega.{arith}
use lib.Dec.{T, ltb, leb}
use lib.ListN.{length, get_or, set, replicate, length-replicate, get_or-replicate}
use Rattle.network.specs.Lists.{below, keep}
use Rattle.network.specs.Network.{Network, size, arcs_of, greatest_cost}
use Rattle.network.specs.Distance.{PathTo, absent, distances}
use Rattle.network.specs.Order.{reached, shortest_next_hops, leads_into, candidate, select}
use Rattle.network.proofs.Below.{below_lt}
use Rattle.network.proofs.NextHop.{zero_at_d, next_nearer}
use Rattle.topology_types.specs.declared.Topology.{Topology}
use Rattle.topology_types.specs.Topology.{network_of}
use Rattle.topology_sound.specs.Theorems.{SoundNetwork}
use Rattle.arcs.specs.declared.Arc.{Arc}
use Rattle.arcs.specs.declared.Arcs.{Arcs}
use Rattle.arcs.specs.Inner.{arcs_at, returning}
use Rattle.arcs.specs.Back.{network_back}
use Rattle.order_standings.specs.declared.Mode.{Mode}
use Rattle.order_standings.specs.declared.Mode.TheVariants as mode
use Rattle.order.specs.Calls.{mode_of, reached_count_lem}
use Rattle.distances.specs.Inner.{Settled, Passable}
use Rattle.order.specs.Inner.{DistancesFor, LaidOut, Measured}
use Rattle.order_standings.specs.Inner.{waits_for, AllPassable, Lower, FirstStandings, Highest, Room, StandingsAfter}
use Rattle.topology_sound.proofs.Sound.{sound_exact, sound_networks}
use Rattle.distances.proofs.Slots.{Within, sound_within, back_within, passable, at_fits, arcs_are}
use Rattle.order_standings.proofs.Keeping.{keep_same, none_kept}
use Rattle.order_standings.proofs.Counting.{waiting}
use Rattle.order_standings.proofs.Setting.{Setting, GoneBy, settled_agrees, topology_setting, topology_ids}
use Rattle.order_standings.proofs.Stepping.{waits_most}
use Rattle.order_standings.proofs.Kept.{Kept, kept_start, kept_room, kept_step}
use Rattle.order_standings.proofs.Ties.{lower_less}
use Rattle.order.proofs.Chosen.{to_ready, candidate_stands, keys_low, none_selected, some_selected, highest_selected}

-- distances that are settled serve in either mode, and in free mode zeros do
pub settled_serve : {n : Network} {d : ℕ} {ds : List ℕ} (m : Mode) → Settled n d ds → DistancesFor n d m ds
settled_serve m s = record { first = λ _. s.first; long = s.long; near = s.near }

pub zeros_serve : (n : Network) (d : ℕ) → DistancesFor n d mode.Free (replicate 64 0)
zeros_serve n d =
    record {
      first = λ e. let never : ◌≡◌ {A = ℕ} 0 1 = cc in absurd (omega arith);
      long = length-replicate {A = ℕ} 64 0;
      near = λ v h. omega (arith, get_or-replicate {A = ℕ} 64 v 0 0 h);
    }

-- with the distances, what either mode needs is there, and as many distances are not absent as ranks are reached
module _ {t : Topology} {a : Arcs} {d : ℕ} {ds : List ℕ} (g : Measured t a d ds) where
  pub measured_laid : (m : Mode) → LaidOut t a d m ds
  measured_laid m = record { is-sound = g.is-sound; holds = g.holds; place = g.place; for_mode = settled_serve m g.settled }

  pub counts_reached : length (keep (λ v. ltb (get_or ds v 0) (t.routers * 65536)) (below t.routers)) ≡ reached_count_lem (network_of t) d
  unfolding reached_count_lem reached absent greatest_cost
  counts_reached =
      let known = sound_networks t g.is-sound in
      let few = ((sound_exact t).0 g.is-sound).routers_most in
      ap (λ (k : ℕ). length (keep (λ v. ltb (get_or ds v 0) (k * 65536)) (below k))) (sym known.routers)
      ∙ ap length
      (keep_same (λ v. ltb (get_or ds v 0) (size (network_of t) * 65536)) (reached (network_of t) (distances (network_of t) d)) (below (size (network_of t)))
      (λ v k. ap (λ (x : ℕ). ltb x (size (network_of t) * 65536)) (sym (settled_agrees (omega (arith, known.routers)) g.settled v (below_lt _ k)))))

module _ {t : Topology} {a : Arcs} {d : ℕ} {m : Mode} {ds : List ℕ} (g : LaidOut t a d m ds) where
  pub facts : SoundNetwork t
  facts = sound_networks t g.is-sound

  pub within : Within (network_of t) t.routers
  within = sound_within t g.is-sound

  back : Within (network_back t) t.routers
  back = back_within t g.is-sound

  pub every_arc : AllPassable a t.routers ds
  every_arc =
      record {
        most = within.most;
        few = λ u h. (at_fits within u h g.holds.out).1;
        each = λ u h. rw (arcs_are within u h g.holds.out _ refl) (passable within u h ds g.for_mode.near);
      }

  -- the arcs of a router are handed out
  pub hands_out : {u : ℕ} → u < t.routers → (u < 64) × (get_or a.count u 0 ≤ 16)
  hands_out {u} h = at_fits within u h g.holds.out

  module _ {u : ℕ} (h : u < t.routers) (arcs : List Arc) (e : arcs ≡ arcs_at a u) where
    pub returning_are : map returning arcs ≡ arcs_of (network_back t) u
    returning_are = arcs_are back u h g.holds.back arcs e

    -- so they are as counting in asks, where there is room
    pub counts_in : (keys : List ℕ) → Room keys (arcs_of (network_back t) u) ds m u →
        (u < 64) × Passable (map returning arcs) ds × Room keys (map returning arcs) ds m u
    counts_in keys room = rw returning_are ((hands_out h).0, passable back u h ds g.for_mode.near, room)

    pub counted_in : {keys r : List ℕ} → StandingsAfter keys (map returning arcs) ds m u r → StandingsAfter keys (arcs_of (network_back t) u) ds m u r
    counted_in after = rw returning_are at after

  inside : {u : ℕ} → u < t.routers → u < size (network_of t)
  inside h = omega (arith, facts.routers)

  setting : Setting (network_of t) (network_back t)
  setting = topology_setting facts g.is-sound

  by : GoneBy (network_of t) (distances (network_of t) d) m ds
  by =
      let f = g.for_mode in
      record { shortest = λ e. settled_agrees setting.here.most (record { first = f.first e; long = f.long; near = f.near }) }

  -- the standings are right for the routers that are placed
  abbrev pub Right : List ℕ → List ℕ → List ℕ → Type 0
  Right lower placed keys = Kept (network_of t) (distances (network_of t) d) m lower placed keys

  pub begun : {lower keys : List ℕ} → FirstStandings a ds lower m t.routers keys → Right lower [] keys
  begun h = kept_start setting by g.holds.out (rw facts.routers h)

  -- the destination waits for none
  pub first_waits : waits_for m (waiting (network_of t) (distances (network_of t) d) [] d) ≡ 0
  first_waits =
      let formed = facts.well_formed in
      let d_in = inside g.place in
      omega (
        arith,
        waits_most m (waiting (network_of t) (distances (network_of t) d) [] d),
        none_kept (λ b. not (leads_into [] b)) (shortest_next_hops (network_of t) (distances (network_of t) d) d)
            (λ (b, l, _). omega (arith, next_nearer (network_of t) formed d d_in d l, zero_at_d (network_of t) formed d d_in)),
      )

  -- where ties are not decided, zeros stand for them
  pub zeros_small : (u : ℕ) → u < t.routers → get_or (replicate 64 0) u 0 < 64
  zeros_small u h = omega (arith, get_or-replicate {A = ℕ} 64 u 0 0 (omega (arith, within.most)))

  module _ {lower : List ℕ} (small : (u : ℕ) → u < t.routers → get_or lower u 0 < 64) {placed keys : List ℕ} (kept : Right lower placed keys) where
    small_in : (u : ℕ) → u < size (network_of t) → get_or lower u 0 < 64
    small_in u h = small u (omega (arith, facts.routers))

    pub candidate_waits : (u : ℕ) → T (candidate (network_of t) (distances (network_of t) d) (mode_of m) placed u) →
        waits_for m (waiting (network_of t) (distances (network_of t) d) placed u) ≡ 0
    candidate_waits u c = (to_ready facts.well_formed (inside g.place) setting.here.few small_in kept u c).waits

    pub standings_low : (u : ℕ) → u < t.routers → get_or keys u 0 < 32768
    standings_low u h = keys_low facts.well_formed (inside g.place) setting.here.few small_in kept u (inside h)

    -- d is placed, and only routers that have a path are
    module _ (first : Memᴰ d placed) (paths : (u : ℕ) → Memᴰ u placed → PathTo (network_of t) d u) where
      pub is-candidate : {u : ℕ} → u < t.routers →
          leb 17472 (get_or keys u 0) ≡ candidate (network_of t) (distances (network_of t) d) (mode_of m) placed u
      is-candidate h = candidate_stands facts.well_formed (inside g.place) setting.here.few small_in kept first paths _ (inside h)

      module _ {best : ℕ} (top : Highest keys t.routers best) where
        own_top : Highest keys (size (network_of t)) best
        own_top = rw facts.routers top

        pub none_left : best < 17472 → select (network_of t) (distances (network_of t) d) (mode_of m) placed ≡ none
        none_left = none_selected facts.well_formed (inside g.place) setting.here.few small_in kept first paths own_top

        pub some_left : 17472 ≤ best → (w : ℕ) × (select (network_of t) (distances (network_of t) d) (mode_of m) placed ≡ some w)
        some_left = some_selected facts.well_formed (inside g.place) setting.here.few small_in kept first paths own_top

        -- ties are decided as by the IDs, so the one that is selected stands highest
        pub top_selected : Lower t.id t.routers lower → {w : ℕ} →
            select (network_of t) (distances (network_of t) d) (mode_of m) placed ≡ some w → best % 64 ≡ get_or lower w 0
        top_selected l e =
            highest_selected facts.well_formed (inside g.place) setting.here.few small_in kept first paths
            (λ u v h k less.
            lower_less l u v (omega (arith, facts.routers)) (omega (arith, facts.routers)) (rw (topology_ids facts u h, topology_ids facts v k) at less)) e
            own_top

    module _ {u : ℕ} (h : u < t.routers) (out : Memᴰ u placed → ⊥)
        (ready : waits_for m (waiting (network_of t) (distances (network_of t) d) placed u) ≡ 0) where
      pub room : Room (set keys u 0) (arcs_of (network_back t) u) ds m u
      room = kept_room setting by kept u (inside h) out ready small_in

      pub placed_too : {r : List ℕ} → StandingsAfter (set keys u 0) (arcs_of (network_back t) u) ds m u r → Right lower (placed ++ (u ∷ [])) r
      placed_too step = kept_step setting by kept u (inside h) out ready step

  -- where d is counted in, the first of all
  module _ {lower keys : List ℕ} (small : (u : ℕ) → u < t.routers → get_or lower u 0 < 64)
      (start : FirstStandings a ds lower m t.routers keys) where
    pub first_room : Room (set keys d 0) (arcs_of (network_back t) d) ds m d
    first_room = room small (begun start) g.place Memᴰ.not-nil first_waits

    pub first_placed : {r : List ℕ} → StandingsAfter (set keys d 0) (arcs_of (network_back t) d) ds m d r → Right lower (d ∷ []) r
    first_placed step = placed_too small (begun start) g.place Memᴰ.not-nil first_waits step
