-- In one piece every router has a path to every destination, so that all ranks are reached: an accepted order has N entries, no 255 stands after it, and
-- what holds of reached stations holds of all.
-- Assumes nothing.
use Prim.Native.Nat.{ℕ, ◌-◌, ◌≤◌, ◌<◌}
use mathlib.Core.Bool.{cond, not}
use mathlib.Core.List.{List, [], append-nil, map}
use mathlib.Core.Logic.{◌↔◌}
use mathlib.Core.Path.{◌≡◌, refl, sym, ap, ◌∙◌, subst}
use native.Mathlib.Decide.{dec_lt, ℕ_discrete}
use native.Mathlib.Omega.{arith}
use borrow.Author.Tests.{ne_eqb}
use lib.Dec.{T, eqb}
use lib.ListN.{length, get_or, take}
use lib.Seq.{length-take-le, take_all}
use Rattle.network.specs.Lists.{below}
use Rattle.network.specs.Network.{size}
use Rattle.network.specs.Distance.{PathTo, arrived, along}
use Rattle.network.specs.Order as network
use Rattle.network.specs.Order.{free}
use Rattle.network.specs.Theorems.Order.{Accepted, ByRule}
use Rattle.network.proofs.Below.{below_lt}
use Rattle.network.proofs.Distance.{starts_in}
use Rattle.network.proofs.Build.{built_by_rule}
use Rattle.network.proofs.Linked.{linked_connected}
use Rattle.network.proofs.SoundLinks.{sound_links_exact}
use Rattle.topology_types.specs.declared.Topology.{Topology}
use Rattle.topology_types.specs.Outcome.{answer, given}
use Rattle.topology_types.specs.Topology.{padded, contents, seen, network_in, network_of}
use Rattle.topology_types.proofs.Given.{given_exact}
use Rattle.topology_sound.specs.Sound.{sound}
use Rattle.topology_sound.specs.Theorems.{as_link}
use Rattle.topology_sound.proofs.Sound.{sound_exact, sound_networks}
use Rattle.topology_sound.proofs.Place.{on_place_next}
use Rattle.order_standings.specs.declared.Mode.{Mode}
use Rattle.order_standings.specs.declared.Mode.TheVariants as mode
use Rattle.order.specs.Calls.{mode_of, reached_count_lem, order_bytes, wrong_ranks, ranks_after, unready_ranks, refused_at_first, building, judging, checking}
use Rattle.order.specs.Theorems.{up_to_n, OrderHeld}
use Rattle.order.proofs.Orders.{checks_exact, reached_right}
use Rattle.order.proofs.After.{all_none}
use Rattle.order.proofs.Decided.{judged, other_length}
use Rattle.order.proofs.Runs.{map_same}
use Rattle.order.proofs.Reached.{accepted_long, built_long}
use Rattle.table_rows.specs.Layout.{narrow, row_start_lem, table_length}
use Rattle.table.specs.Calls.{table_checking}
use Rattle.table.proofs.Fills.{fills_well, given_is_filled}
use Rattle.table.proofs.Stands.{accepted_stands}
use Rattle.forwarding_rules.specs.Calls.{figure, figure_byte, figures}
use Rattle.forwarding_rules.specs.Theorems.{destination_byte, rank_byte, Reached}
use Rattle.forwarding_rules.proofs.Listed.{ranks_tell}
use Rattle.forwarding_rules.proofs.Figures.{figures_exact}
use Rattle.forwarding_rules.proofs.Routers.{shortest_walks, calls_exact}
use Rattle.paths_rules.proofs.Right.{paths_exact}
use Rattle.listing_rules.proofs.Right.{lists_right}
use Rattle.facts_one_piece.specs.Theorems.{InOnePiece, judged_whole, Orders, Filled, Stations, AsBefore, OnePieceAsBefore}

module _ (t : Topology) (good : T (sound t)) (one : InOnePiece t) where
  paths : (d u : ℕ) → d < t.routers → u < t.routers → PathTo (network_of t) d u
  unfolding network_of network_in contents seen
  paths d u d_in u_in =
      let w = (sound_exact t).0 good in
      let ids = take t.routers t.id in
      let links = map as_link (take t.links t.link) in
      let listed : length ids ≡ t.routers = length-take-le t.routers t.id (omega (arith, w.id_slots, w.routers_most)) in
      linked_connected ids links ((sound_links_exact ids links).1 w.linked) 0 (λ v h. one v (omega arith)) d u (omega arith) (omega arith)

  -- an order of N entries has no 255 after it
  whole_bytes : (held : List ℕ) → length held ≡ t.routers → up_to_n t held ≡ held
  whole_bytes held long = let none_left : t.routers - length held ≡ 0 = omega arith in rw none_left (append-nil held)

  module _ (d : ℕ) (place : d < t.routers) where
    inside : d < size (network_of t)
    inside = omega (arith, (sound_networks t good).routers)

    all_reached : reached_count_lem (network_of t) d ≡ t.routers
    all_reached =
        let facts = sound_networks t good in
        (reached_right (network_of t) facts.well_formed d inside).whole (λ u h. paths d u place (omega (arith, facts.routers))) ∙ facts.routers

    module _ {meant : network.Mode} {held : List ℕ} (a : Accepted (network_of t) d meant held) where
      long : length held ≡ t.routers
      long = accepted_long (network_of t) (sound_networks t good).well_formed d inside meant a ∙ all_reached

      no_more : up_to_n t held ≡ held
      no_more = whole_bytes held long

    -- an order as it was judged before is the whole of the bytes
    holds_whole : (m : Mode) (meant : network.Mode) (bytes : List ℕ) →
        ((checking t d m bytes ≡ answer 0 0) ↔ ((held : List ℕ) × OrderHeld t d meant bytes held)) → (checking t d m bytes ≡ answer 0 0) ↔ Accepted (network_of t) d meant bytes
    holds_whole m meant bytes (on, back) = (
      λ e. let (held, h) = on e in subst (Accepted (network_of t) d meant) (sym (h.bytes_are ∙ no_more h.accepted)) h.accepted,
      λ a. back (bytes, record { accepted = a; bytes_are = sym (no_more a) }),
    )

    whole_judged : (m : Mode) (bytes : List ℕ) → length bytes ≡ t.routers → judging t d m bytes
        ≡ cond (not (eqb (length bytes) t.routers)) (answer 17 (length bytes))
        (refused_at_first 18 (wrong_ranks t.routers bytes)
        (cond (not (eqb (get_or bytes 0 0) d)) (answer 19 0)
        (refused_at_first 20 (unready_ranks (network_of t) d (mode_of m) bytes) (answer 0 0))))
    unfolding judging
    whole_judged m bytes size =
        let part : take (reached_count_lem (network_of t) d) bytes ≡ bytes = take_all (reached_count_lem (network_of t) d) bytes (omega (arith, all_reached)) in
        let after : ranks_after (reached_count_lem (network_of t) d) bytes ≡ [] =
        all_none bytes (reached_count_lem (network_of t) d) (λ r h k. absurd (omega (arith, all_reached))) in
        rw (part, after) (unfold refused_at_first in refl)

    -- all ranks are reached, so 17 to 20 go over the whole order, and after it there is no rank
    checked : (m : Mode) (bytes : List ℕ) → checking t d m bytes ≡ judged_whole t d m bytes
    unfolding judged_whole
    checked m bytes = sym (judged t d m bytes good place) ∙ cases (ℕ_discrete (length bytes) t.routers)
      where
        cases : Dec (length bytes ≡ t.routers) → judging t d m bytes
            ≡ cond (not (eqb (length bytes) t.routers)) (answer 17 (length bytes))
            (refused_at_first 18 (wrong_ranks t.routers bytes)
            (cond (not (eqb (get_or bytes 0 0) d)) (answer 19 0)
            (refused_at_first 20 (unready_ranks (network_of t) d (mode_of m) bytes) (answer 0 0))))
        cases (no other) = sym (other_length t d m bytes other) ∙ rw (ne_eqb (length bytes) t.routers other)
        cases (yes size) = whole_judged m bytes size

    module _ (m : Mode) (meant : network.Mode) (same : mode_of m ≡ meant)
        (exact : (bytes : List ℕ) → (checking t d m bytes ≡ answer 0 0) ↔ ((held : List ℕ) × OrderHeld t d meant bytes held)) where
      order_is : up_to_n t (network.build (network_of t) d meant) ≡ network.build (network_of t) d meant
      order_is = whole_bytes _ (built_long (network_of t) (sound_networks t good).well_formed d inside meant ∙ all_reached)

      built : (buffer : List ℕ) → building t d m buffer ≡ given (network.build (network_of t) d meant) buffer
      unfolding building order_bytes padded
      built buffer =
          rw (on_place_next, same)
          (ap (λ (bytes : List ℕ). given bytes buffer) order_is)

      by_rule : (buffer : List ℕ) → t.routers ≤ length buffer → ByRule (network_of t) d meant (take t.routers (building t d m buffer).buffer)
      by_rule buffer enough =
          let wf = (sound_networks t good).well_formed in
          let order = network.build (network_of t) d meant in
          let size : length order ≡ t.routers = built_long (network_of t) wf d inside meant ∙ all_reached in
          let front = rw size at ((given_exact order buffer).stated (omega (arith, size))) in
          rw (built buffer, front) (built_by_rule (network_of t) wf d inside meant).0

      orders : Orders t d m meant
      orders =
          record {
            built = built;
            by_rule = by_rule;
            checked = checked m;
            exact = λ bytes. holds_whole m meant bytes (exact bytes);
            each_place = λ held a u. (
              λ k. omega (arith, starts_in (network_of t) (sound_networks t good).well_formed d inside (a.only u k), (sound_networks t good).routers),
              λ h. a.all u (paths d u place h),
            );
            no_more = λ held a. (long a, no_more a);
          }

  filled : (d : ℕ) → d < t.routers → (order : List ℕ) → Accepted (network_of t) d free order → (buffer : List ℕ) → table_length narrow t.routers ≤ length buffer →
      Filled t d order buffer
  unfolding row_start_lem
  filled d place order a buffer room =
      let w = fills_well t good d place order a buffer room in
      let e = no_more d place a in
      record {
        success = rw e at w.success;
        by_order = rw e at w.given;
        rest = rw e at w.rest;
        long = rw e at w.long;
        accepted = rw e at w.accepted;
      }

  -- a path needs an arc, and an arc a link
  one_alone : t.links ≡ 0 → t.routers ≡ 1
  one_alone none = cases (dec_lt 1 t.routers)
    where
      step : PathTo (network_of t) 0 1 → ⊥
      step (arrived e) = omega arith
      step (along b m p) =
          omega (arith, ((sound_networks t good).well_formed.sound 1 b m).numbered, (sound_networks t good).links)

      cases : Dec (1 < t.routers) → t.routers ≡ 1
      cases (yes more) = absurd (step (one 1 more))
      cases (no few) = omega (arith, ((sound_exact t).0 good).routers_least)

  module _ (table : List ℕ) (right : table_checking t table ≡ answer 0 0) where
    goal : destination_byte table < t.routers
    goal = (accepted_stands t good table right).place

    all : (u : ℕ) → u < t.routers → Reached t table u
    all u h = paths (destination_byte table) u goal h

    -- no rank is 255, so the bytes are the counts
    figures_are : figures t table ≡ map (figure t table) (below t.routers)
    unfolding figures figure_byte
    figures_are =
        map_same _ _ _
        (λ u m.
        let h = below_lt t.routers m in
        let small = (ranks_tell t good table right u h).ranked.0 (all u h) in
        let other : rank_byte table u ≡ 255 → ⊥ = λ e. omega (arith, small, ((sound_exact t).0 good).routers_most) in
        rw (ne_eqb (rank_byte table u) 255 other))

    stations : Stations t table
    stations =
        record {
          figures_are = figures_are;
          by_walks = λ u h. figures_exact t good table right u h (all u h);
          never_passed = (calls_exact t good table right).never_passed;
          reached = λ p s h. (calls_exact t good table right).reached p s h (all s h);
          shortest = λ mode u h. shortest_walks t good table right mode u h (all u h);
          longest_one = λ u h. (paths_exact t good table right u h).longest_one (all u h);
        }

  as_before : AsBefore t
  unfolding mode_of
  as_before =
      record {
        paths = paths;
        one_alone = one_alone;
        orders = λ d place.
            let exact = checks_exact t good d place in
            record {
              in_shortest_path = orders d place mode.ShortestPath network.shortest-path refl exact.in_shortest_path;
              in_free = orders d place mode.Free network.free refl exact.in_free;
            };
        filled = filled;
        refilled = λ table d limit order g buffer e. rw (no_more d g.place g.in_free) at (given_is_filled t good table d limit order g buffer e);
        rank_is = λ d place order a u h byte.
            let m = a.all u (paths d u place h) in (λ r. r.reached m, λ e. record { reached = λ _. e; unreached = λ out. absurd (out m) });
        stations = stations;
        listed = λ d place buffer. let l = lists_right t good d place buffer in (l, λ u h. (l.lines u h).reached (paths d u place h));
      }

pub one_piece_as_before : OnePieceAsBefore
one_piece_as_before = as_before
