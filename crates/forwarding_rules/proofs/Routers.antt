-- A router table that is accepted obeys the laws, so that demand 3 holds of it: network's laws for rows along which ranks fall hold of what it lists; its
-- calls do what forwarding by it does; a schedule is its rows laid end to end; its figures are the longest ways; and the rule, said of its bytes, is first-live.
-- Assumes nothing.
use Prim.Native.Nat.{ℕ, suc, pred, ◌<◌}
use mathlib.Core.List.{List, Memᴰ}
use mathlib.Core.Logic.Iff
use mathlib.Core.Logic.{◌↔◌, ⊎_elim}
use mathlib.Core.Option.{none, some, none-ne-some, some-injective}
use mathlib.Core.Path.{◌≡◌, refl, sym, ◌∙◌, subst}
use native.Mathlib.Decide.{dec_lt}
use native.Mathlib.Omega.{arith}
use lib.Dec.{T, eqb→eq}
use Rattle.network.specs.Network.{Arc, Network, arcs_of}
use Rattle.network.specs.Distance.{arrived}
use Rattle.network.specs.Order.{shortest-path}
use Rattle.network.specs.Forwarding.{Packet, start, longest}
use Rattle.network.specs.Routing.{valid_states, first_live, cost_of_lem}
use Rattle.network.specs.Theorems.Routing.{FirstLive, ShortestEntry}
use Rattle.network.proofs.Tests.{eq_test}
use Rattle.network.proofs.Live.{none_live, down_none, first-live, down_or_live}
use Rattle.network.proofs.Forwarding.{settled}
use Rattle.network.proofs.Order.{acceptance_exact}
use Rattle.network.proofs.ShortestWalk.{shortest_by_rows}
use Rattle.topology_types.specs.declared.Topology.{Topology}
use Rattle.topology_types.specs.Topology.{network_of}
use Rattle.topology_types.specs.Outcome.{answer}
use Rattle.topology_sound.specs.Sound.{sound}
use Rattle.table.specs.Listed.{destination_in_lem, falling_rank, entries_in, listed, in_shortest_path_mode}
use Rattle.table.specs.Calls.{table_checking}
use Rattle.forwarding_rules.specs.Schedule.{rows_in}
use Rattle.forwarding_rules.specs.Calls.{done, by, figure, setting_at}
use Rattle.forwarding_rules.specs.Lent.{setting_packet, hopping_packet}
use Rattle.forwarding_rules.specs.Theorems.{SoundSchedule, NoneUp, FirstUp, destination_byte, Reached, router_table, ShortestWalk, ShortestWalks, TablesMeet}
use Rattle.forwarding_rules.specs.Theorems.{HopsByRule, WalksEnd, WalksByHops, CutOffDrops, CallsExact, CallsByRule, CallsInTurn}
use Rattle.forwarding_rules.specs.Theorems.Demand3.{WalkCosts}
use Rattle.forwarding_rules.specs.Inner.{LeftByAnswer, Laws}
use Rattle.forwarding_rules.proofs.Listed.{Over, over, reached_or, figure_reached, figure_unreached, row_unreached}
use Rattle.forwarding_rules.proofs.Rules.{down_none_up, first_live_up}
use Rattle.forwarding_rules.proofs.Laid.{enough, row_there, all-up, valid_sound, schedule_of}
use Rattle.forwarding_rules.proofs.Tested.{clash}
use Rattle.forwarding_rules.proofs.Meant.{hops_done, walks_done}
use Rattle.forwarding_rules.proofs.Passed.{hops_when, walks_when}
use Rattle.forwarding_rules.proofs.Calls.{settings_answer}
use Rattle.forwarding_rules.proofs.Walks.{costs}
use Rattle.forwarding_rules.proofs.CallLists.{in-turn, each_call}
use Rattle.forwarding_rules.proofs.Systems.{systems_meet}

-- what the calls leave that are lent the packet is by what the others answer, whatever the table
pub left_by_answer : (t : Topology) (table : List ℕ) → LeftByAnswer (router_table t table)
unfolding setting_packet hopping_packet
left_by_answer t table = record { set_answers = λ u p. refl; hop_answers = λ states p. refl; set_leaves = λ u p. refl; hop_leaves = λ states p. refl }

module _ (t : Topology) (good : T (sound t)) (table : List ℕ) (right : table_checking t table ≡ answer 0 0) where
  abbrev n : Network
  n = network_of t

  abbrev o : Over t table
  o = over t good table right

  abbrev Valid : List ℕ → Type 0
  Valid states = T (valid_states n states)

  -- the arc behind an entry
  arc_of : (u : ℕ) (a : Arc) → Memᴰ a (entries_in n table u) → Memᴰ a (arcs_of n u)
  arc_of = o.falling.arcs

  -- a setting that is not refused is below N
  set_below : (u : ℕ) (q : Packet ℕ) → setting_at t u ≡ done q → u < t.routers
  set_below u q e = step (dec_lt u t.routers)
    where
      step : Dec (u < t.routers) → u < t.routers
      step (yes h) = h
      step (no h) = clash (cc ((settings_answer t u).no_place good (omega arith)))

  -- no more hops are allowed than N - 1, since ranks are below N
  far : (u : ℕ) → u < t.routers → figure t table u ≡ longest (by t table) (pred t.routers) u
  unfolding figure
  far u place =
      let all : suc (pred t.routers) ≡ t.routers = omega arith in
      subst (λ (left : ℕ). longest (by t table) left u ≡ longest (by t table) (pred t.routers) u) all
      (settled (by t table) (falling_rank t.routers table) Valid o.lawful (pred t.routers) u (omega (arith, o.rank_below u place)))

  module _ (states : List ℕ) (u : ℕ) where
    abbrev entries : List Arc
    entries = entries_in n table u

    none_live_up : (first_live states entries ≡ none) ↔ NoneUp t table states u
    none_live_up = Iff.trans (none_live states entries, down_none states entries) (down_none_up t states u table)

    -- the entry that is chosen is the first live one
    chosen_live : (a : Arc) → first_live states entries ≡ some a → FirstLive states entries a
    chosen_live a e =
        ⊎_elim (λ down. absurd (none-ne-some a (sym (down_none states entries down) ∙ e)))
        (λ (b, live). subst (FirstLive states entries) (some-injective b a (sym (first-live states entries b live) ∙ e)) live)
        (down_or_live states entries)

    first-up : (v : ℕ) → ((a : Arc) × (first_live states entries ≡ some a) × (a.to ≡ v)) ↔ FirstUp t table states u v
    first-up v =
        Iff.trans (λ (a, e, to). (a, chosen_live a e, to), λ (a, live, to). (a, first-live states entries a live, to))
        (first_live_up t states u table v)

  pub laws : Laws (router_table t table)
  unfolding listed destination_in_lem start cost_of_lem
  laws =
      record {
        rank = falling_rank t.routers table;
        valid = Valid;
        inside = λ u. u < t.routers;
        rows = pred t.routers;
        rows-in = rows_in t.routers t.links;
        lawful = o.lawful;
        valid_sound = valid_sound t o.links_are;
        starts = λ u place. (place, omega (arith, o.rank_below u place));
        stays = λ u place a m. omega (arith, o.routers_are, (o.well_formed.sound u a (arc_of u a m)).place);
        admitted = λ p place few. record { is-sound = good; station = place; hops = omega arith };
        left_by = left_by_answer t table;
        rowless_none = λ st x none. absurd none;
        sets = λ u place. (settings_answer t u).sets good place;
        sets_only = set_below;
        hops = hops_when t table right;
        hops_only = λ states p h e. let (stands, r, sound) = (hops_done t table states p).0 (h, e) in (stands, sound);
        walks = λ u place schedule sound. walks_when t table right u schedule good place sound;
        walks_only = λ u schedule w e. let (g, place, r, sound) = (walks_done t table u schedule).0 (w, e) in (place, sound);
        enough = enough t;
        row_there = row_there t;
        row_past = λ schedule sound p left place none_left off. absurd (off (eq_test (o.falling.only_home p.station none_left)));
        run_of = schedule_of t o.links_are;
        either = λ u place. reached_or o u;
        figure_reached = λ u place path. figure_reached good o u place path ∙ sym (o.hops_are u) ∙ far u place;
        within_bound = λ u place path. omega (arith, o.rank_reached u place path);
        figure_unreached = figure_unreached good o;
        row_unreached = λ u place out. (row_unreached good o u place out, λ home. out (arrived (eqb→eq _ _ home)));
        home_is = λ p stands. (eqb→eq _ _, eq_test);
        chooses_none = λ states p stands sound. none_live_up states p.station;
        chooses = λ states p stands sound. first-up states p.station;
        cost-of = cost_of_lem;
        no_cost = refl;
        one_more = λ u place a rest m. (a.cost, (a, arc_of u a m, refl, refl), refl);
      }

  shortest_here : ShortestEntry n (destination_byte table) (entries_in n table) → (u : ℕ) → u < t.routers → Reached t table u →
      (schedule : List ℕ) → SoundSchedule t schedule → ((b : ℕ) → Memᴰ b schedule → b ≡ 1) → ShortestWalk t table u schedule
  unfolding laws listed
  shortest_here first_entry u place path schedule s ones =
      let x = shortest_by_rows n o.well_formed (destination_byte table) o.inside _ _ o.falling first_entry u path
      (rows_in t.routers t.links schedule) (all-up t schedule s o.links_are ones) (omega (arith, enough t schedule s, o.rank_below u place)) in
      let (p, e, to) = x.arrives in
      subst (WalkCosts (router_table t table) u schedule) x.shortest (costs (router_table t table) laws schedule s u place p e to)

-- first entries are shortest next hops in shortest-path mode
pub shortest_walks : ShortestWalks
unfolding in_shortest_path_mode
shortest_walks t good table right mode u place path schedule s ones =
    let o = over t good table right in
    let in_mode = (acceptance_exact (network_of t) o.well_formed (destination_byte table) o.inside shortest-path _).1 mode in
    shortest_here t good table right (o.stands.falls.shortest (rw o.routers_are in_mode)) u place path schedule s ones

pub tables_meet : TablesMeet
tables_meet t good table right = systems_meet (router_table t table) (laws t good table right)

-- and its parts
pub hops_by_rule : HopsByRule
hops_by_rule t good table right = (tables_meet t good table right).hops

pub walks_end : WalksEnd
walks_end t good table right = (tables_meet t good table right).ends

pub walks_by_hops : WalksByHops
walks_by_hops t good table right = (tables_meet t good table right).by_hops

pub cut_off_drops : CutOffDrops
cut_off_drops t good table right = (tables_meet t good table right).cut-off

pub calls_exact : CallsExact
calls_exact t good table right = (tables_meet t good table right).calls

-- what one call does, and in which turn calls are made, asks for no accepted table
pub calls_by_rule : CallsByRule
calls_by_rule t table = each_call (router_table t table) (left_by_answer t table)

pub calls_in_turn : CallsInTurn
calls_in_turn t table = in-turn (router_table t table)
