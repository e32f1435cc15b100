-- What an accepted table lists are the rows of its order, along which the order's ranks fall. The ranks of its bytes are the order's where there is a path,
-- and elsewhere no row has an entry, nor is there an entry that leads there.
-- Assumes nothing.
use Prim.Native.Nat.{ℕ, pred, min, ◌≤◌, ◌<◌}
use mathlib.Core.List.{List, Memᴰ}
use mathlib.Core.Path.{◌≡◌, sym, ◌∙◌, subst, fun_ext}
use native.Mathlib.Decide.{dec_lt}
use native.Mathlib.Omega.{arith}
use lib.Dec.{T, ltb, ltb→lt, lt→ltb}
use lib.ListN.{get_or}
use Rattle.network.specs.Network.{Arc, Network, size, WellFormed}
use Rattle.network.specs.Distance.{PathTo, along, distances}
use Rattle.network.specs.Order.{Mode, accepted}
use Rattle.network.specs.Row.{rank, row}
use Rattle.network.specs.Theorems.Order.{Accepted}
use Rattle.network.specs.Theorems.Routing.{FallingRows, SomeEntry, ShortestEntry}
use Rattle.network.proofs.Tests.{passes, fails}
use Rattle.network.proofs.Distance.{starts_in}
use Rattle.network.proofs.Order.{acceptance_exact}
use Rattle.network.proofs.Pigeon.{member?}
use Rattle.network.proofs.Filled.{rows_filled}
use Rattle.network.proofs.Falling.{orders_fall, orders_shortest}
use Rattle.topology_types.specs.declared.Topology.{Topology}
use Rattle.topology_types.specs.Outcome.{answer}
use Rattle.topology_types.specs.Topology.{network_of}
use Rattle.topology_sound.specs.Sound.{sound}
use Rattle.topology_sound.proofs.Sound.{sound_exact, sound_networks}
use Rattle.table_rows.specs.Layout.{row_start_lem, number_at}
use Rattle.table.specs.Listed.{destination_in_lem, rank_in_lem, falling_rank, entries_in, listed, order_in}
use Rattle.table.specs.Calls.{table_checking}
use Rattle.table.specs.Theorems.{GivenBy, TableFalls, AcceptedFall}
use Rattle.table.proofs.Verdicts.{accepted_given}
use Rattle.table.proofs.Lists.{accepted_list}

-- Along an entry there is a path from both its ends, so ranks that are the same where there is a path fall too.
same_fall : {n : Network} {d : ℕ} {rows : ℕ → List Arc} {ranks : ℕ → ℕ} → FallingRows n d rows ranks → (others : ℕ → ℕ) →
    ((u : ℕ) → PathTo n d u → others u ≡ ranks u) → ((u : ℕ) → others u ≤ size n) → ((u : ℕ) → u < size n → others u < size n) →
    ((u : ℕ) → others u ≡ 0 → u ≡ d) → FallingRows n d rows others
same_fall fall others same most below only =
    record {
      home_row = fall.home_row;
      arcs = fall.arcs;
      falls = λ u a m.
          let on = fall.onward u a m in
          omega (arith, fall.falls u a m, same a.to on, same u (along a (fall.arcs u a m) on));
      onward = fall.onward;
      links_differ = fall.links_differ;
      ranks_most = most;
      ranks_below = below;
      only_home = only;
    }

module _ (count : ℕ) (table : List ℕ) (u : ℕ) where
  of_place : u < count → falling_rank count table u ≡ min (rank_in_lem table u) (pred count)
  unfolding falling_rank
  of_place h = passes (ltb u count) (lt→ltb u count h) (min (rank_in_lem table u) (pred count)) count

  past_places : (u < count → ⊥) → falling_rank count table u ≡ count
  unfolding falling_rank
  past_places out = fails (ltb u count) (λ t. out (ltb→lt u count t)) (min (rank_in_lem table u) (pred count)) count

module _ (t : Topology) (good : T (sound t)) (table : List ℕ) (right : table_checking t table ≡ answer 0 0) where
  abbrev n : Network
  n = network_of t

  abbrev d : ℕ
  d = get_or table 1 0

  abbrev order : List ℕ
  order = order_in t.routers table

  given : GivenBy t table d (get_or table 3 0) order
  given = accepted_given t good table right

  wf : WellFormed n
  wf = (sound_networks t good).well_formed

  routers_are : size n ≡ t.routers
  routers_are = (sound_networks t good).routers

  inside : d < size n
  inside = omega (arith, routers_are, given.place)

  in_mode : {mode : Mode} → Accepted n d mode order → T (accepted n d mode order)
  in_mode a = (acceptance_exact n wf d inside _ order).1 a

  -- what holds of the order's rows holds of what the table lists
  carried : (claim : (ℕ → List Arc) → Type 0) → claim (row n (distances n d) (get_or table 3 0) order) → claim (entries_in n table)
  unfolding listed
  carried claim = subst claim (sym (fun_ext (accepted_list t good table right).entries))

  pub by_order : FallingRows n d (entries_in n table) (rank order)
  by_order = carried (λ rows. FallingRows n d rows (rank order)) (orders_fall n wf d inside (get_or table 3 0) order (in_mode given.in_free))

  module _ (u : ℕ) (place : u < t.routers) where
    rank_held : Memᴰ u order → falling_rank t.routers table u ≡ rank order u
    unfolding rank_in_lem row_start_lem number_at
    rank_held m =
        omega (
          arith,
          of_place t.routers table u place,
          (given.bytes.rows u (omega (arith, routers_are))).rank_is.reached m,
          by_order.ranks_below u (omega (arith, routers_are)),
          routers_are,
        )

    rank_unheld : (Memᴰ u order → ⊥) → falling_rank t.routers table u ≡ pred t.routers
    unfolding rank_in_lem row_start_lem number_at
    rank_unheld out =
        omega (
          arith,
          of_place t.routers table u place,
          (given.bytes.rows u (omega (arith, routers_are))).rank_is.unreached out,
          ((sound_exact t).0 good).routers_most,
        )

  path_place : {u : ℕ} → PathTo n d u → u < t.routers
  path_place path = omega (arith, starts_in n wf d inside path, routers_are)

  only_home : (u : ℕ) → falling_rank t.routers table u ≡ 0 → u ≡ d
  only_home u e = step (dec_lt u t.routers) (member? u order)
    where
      step : Dec (u < t.routers) → Dec (Memᴰ u order) → u ≡ d
      step (yes h) (yes m) = by_order.only_home u (sym (rank_held u h m) ∙ e)
      step (yes h) (no out) = omega (arith, rank_unheld u h out, given.place)
      step (no past) held = absurd (omega (arith, past_places t.routers table u past, given.place))

  most : (u : ℕ) → falling_rank t.routers table u ≤ size n
  most u = step (dec_lt u t.routers)
    where
      step : Dec (u < t.routers) → falling_rank t.routers table u ≤ size n
      step (yes h) = omega (arith, of_place t.routers table u h, routers_are)
      step (no past) = omega (arith, past_places t.routers table u past, routers_are)

  table_falls : TableFalls t table
  unfolding destination_in_lem number_at
  table_falls =
      let acc = in_mode given.in_free in
      record {
        falling =
            same_fall by_order (falling_rank t.routers table) (λ u path. rank_held u (path_place path) (given.in_free.all u path)) most
            (λ u h. omega (arith, of_place t.routers table u (omega (arith, routers_are)), routers_are)) only_home;
        some_entry = carried (SomeEntry n d) ((rows_filled n wf d inside (get_or table 3 0) order acc).some_entry given.limit_least);
        shortest = λ mode.
            carried (ShortestEntry n d)
            (orders_shortest n wf d inside (get_or table 3 0) order (in_mode ((accepted_list t good table right).mode_is.0 mode)) given.limit_least);
        rank_is = λ u path.
            let m = given.in_free.all u path in
            let h = path_place path in
            rank_held u h m ∙ sym ((given.bytes.rows u (rw routers_are h)).rank_is.reached m);
      }

pub accepted_fall : AcceptedFall
accepted_fall = table_falls
