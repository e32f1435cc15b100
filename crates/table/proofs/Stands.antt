-- An accepted table is given by an order: its rows are that order's, with at most 16 entries, each an arc, and a router with a path has its rank in the order,
-- which is below N.
-- Assumes nothing.
use Prim.Native.Nat.{ℕ, ◌+◌, ◌*◌, ◌<◌}
use mathlib.Core.List.Memᴰ
use mathlib.Core.List.{List, [], map, Memᴰ}
use mathlib.Core.Path.{◌≡◌, sym, ap, ◌∙◌, subst}
use native.Mathlib.Decide.{dec_lt}
use native.Mathlib.Omega.{arith}
use lib.Dec.{T}
use lib.ListN.{length, get_or, length-map, get_or-eq_default, drop_of_length-le}
use Rattle.network.specs.Network.{Arc, Network, size}
use Rattle.network.specs.Distance.{distances}
use Rattle.network.proofs.Order.{order_fits}
use Rattle.topology_types.specs.declared.Topology.{Topology}
use Rattle.topology_types.specs.Outcome.{answer}
use Rattle.topology_types.specs.Topology.{network_of}
use Rattle.topology_sound.specs.Sound.{sound}
use Rattle.topology_sound.proofs.Sound.{sound_exact, sound_networks}
use Rattle.topology.specs.Written.{joined_over}
use Rattle.table_rows.specs.Layout.{row_start_lem, number_at}
use Rattle.table.specs.Listed.{destination_in_lem, rank_in_lem, places_in, entries_in, listed, order_in}
use Rattle.table.specs.Calls.{table_checking}
use Rattle.table.specs.Inner.{RowOf, TableStands}
use Rattle.table.specs.Theorems.{GivenBy, TableFalls}
use Rattle.table.proofs.Fields.{fields_read, places_long, row_within, length_right}
use Rattle.table_rows.proofs.Putting.{row_few}
use Rattle.table.proofs.Verdicts.{accepted_given}
use Rattle.table.proofs.Lists.{places_are, rows_by_path, accepted_list}
use Rattle.table.proofs.Falls.{accepted_fall}

module _ (t : Topology) (good : T (sound t)) (table : List ℕ) (right : table_checking t table ≡ answer 0 0) where
  abbrev n : Network
  n = network_of t

  abbrev order : List ℕ
  order = order_in t.routers table

  given : GivenBy t table (get_or table 1 0) (get_or table 3 0) order
  given = accepted_given t good table right

  falls : TableFalls t table
  falls = accepted_fall t good table right

  routers_are : size n ≡ t.routers
  routers_are = (sound_networks t good).routers

  long : length table ≡ 4 + 19 * t.routers
  long = rw (← routers_are) given.bytes.long

  -- past N there are no bytes
  places : (u : ℕ) → places_in table u ≡ map (λ a. a.to) (entries_in n table u)
  unfolding entries_in joined_over listed
  places u = step (dec_lt u (size n))
    where
      step : Dec (u < size n) → places_in table u ≡ map (λ a. a.to) (entries_in n table u)
      step (yes h) =
          places_are n (sound_networks t good).well_formed _ _ given.limit_most order table given.bytes u h
          ∙ ap (map (λ (a : Arc). a.to)) (sym ((accepted_list t good table right).entries u))
      step (no h) =
          let many : length (places_in table u) ≡ 0 = (fields_read table).entries u ∙ get_or-eq_default table 0 (omega (arith, long, routers_are)) in
          let none : places_in table u ≡ [] = drop_of_length-le (places_in table u) {i = 0} (omega arith) in
          rw none

  row_of : (u : ℕ) → u < t.routers → RowOf table u
  unfolding listed
  row_of u h =
      let few = ((sound_exact t).0 good).routers_most in
      let many = ap (λ (vs : List ℕ). length vs) (places u) ∙ length-map (entries_in n table u) (λ (a : Arc). a.to) in
      let same = ap (λ (arcs : List Arc). length arcs) ((accepted_list t good table right).entries u) in
      record {
        stands = row_within table t.routers u few h (omega (arith, long, length_right t.routers));
        few = omega (arith, many, same, places_long table u, row_few n (distances n (get_or table 1 0)) (get_or table 3 0) given.limit_most order u);
        places = λ v m.
            let (a, k, e) = Memᴰ.of_map (λ (b : Arc). b.to) (entries_in n table u) (subst (Memᴰ v) (places u) m) in
            omega (arith, e, few, routers_are, ((sound_networks t good).well_formed.sound u a (falls.falling.arcs u a k)).place);
      }

  pub accepted_stands : TableStands t table
  unfolding destination_in_lem rank_in_lem row_start_lem number_at
  accepted_stands =
      let path = rows_by_path t good table _ _ order given in
      let fits = order_fits n (sound_networks t good).well_formed _ (omega (arith, routers_are, given.place)) _ given.in_free in
      record {
        long = long ∙ sym (length_right t.routers);
        place = given.place;
        rows = row_of;
        places = places;
        falls = falls;
        reached = λ u h p. let (byte, less) = (path u h).reached p in omega (arith, byte, less, fits, routers_are);
        unreached = λ u h out. ((path u h).unreached out).no_rank;
      }
