-- What the inner functions ask, and what they find; of the open contracts only those of `unchecked` name it, for what they ask of a row.
-- Assumes nothing.
use Rattle.std.specs.Prelude.{ℕ, ◌+◌, ◌≤◌, ◌<◌, cond, ◌≡◌, T, Option, Some, length}
use mathlib.Core.List.{List, map, Memᴰ}
use Rattle.network.specs.Network.{Network}
use Rattle.network.specs.Distance.{PathTo}
use Rattle.network.specs.Order.{free}
use Rattle.network.specs.Theorems.Order.{Accepted}
use Rattle.topology_types.specs.declared.Topology.{Topology}
use Rattle.topology_types.specs.Limits.{most_routers, most_next_hops}
use Rattle.topology_types.specs.Topology.{network_of}
use Rattle.arcs.specs.declared.Arcs.{Arcs}
use Rattle.order.specs.Calls.{order_bytes, first_of}
use Rattle.order.specs.Inner.{Measured}
use Rattle.table_rows.specs.Layout.{row_start_lem, row_length, table_length}
use Rattle.table.specs.Listed.{layout_of, destination_in_lem, rank_in_lem, entry_count, places_in, entries_in, by_rank, order_in}
use Rattle.table.specs.Calls.{sound_header, sound_ranks, wrong_bytes}
use Rattle.table.specs.Theorems.{TableFalls}

-- the table has the whole row of u
pub record HasRow (table : List ℕ) (u : ℕ) : Type 0 where
  pub place : u < most_routers
  pub whole : row_start_lem (layout_of table) u + row_length (layout_of table) ≤ length table

-- with at most 16 entries, each a place
pub record RowOf (table : List ℕ) (u : ℕ) : Type 0 where
  pub stands : HasRow table u
  pub few : entry_count table u ≤ most_next_hops
  pub places : (v : ℕ) → Memᴰ v (places_in table u) → v < most_routers

-- What is known of every accepted table, whichever ranks and rows make it right: its rows stand in it, each place that a row lists has its arc, ranks fall along
-- the rows, and the rank of a router is below N where it has a path, and else 255.
pub record TableStands (t : Topology) (table : List ℕ) : Type 0 where
  pub long : length table ≡ table_length (layout_of table) t.routers
  pub place : destination_in_lem table < t.routers
  pub rows : (u : ℕ) → u < t.routers → RowOf table u
  pub places : (u : ℕ) → places_in table u ≡ map (λ a. a.to) (entries_in (network_of t) table u)
  pub falls : TableFalls t table
  pub reached : (u : ℕ) → u < t.routers → PathTo (network_of t) (destination_in_lem table) u → rank_in_lem table u < t.routers
  pub unreached : (u : ℕ) → u < t.routers → (PathTo (network_of t) (destination_in_lem table) u → ⊥) → rank_in_lem table u ≡ 255

-- a table whose length and header were tested, the distances to its destination, and the order that its ranks form, which is accepted in free mode
pub record Started (t : Topology) (a : Arcs) (ds table order : List ℕ) : Type 0 where
  pub measured : Measured t a (destination_in_lem table) ds
  pub long : length table ≡ table_length (layout_of table) t.routers
  pub header : T (sound_header t.routers table)
  pub in_free : Accepted (network_of t) (destination_in_lem table) free (order_in t.routers table)
  pub order_is : order ≡ by_rank t.routers table
  pub bytes_are : by_rank t.routers table ≡ order_bytes t.routers (order_in t.routers table)

-- the first wrong byte, if there is one, and 0 where the ranks are not those of the order that they form
unfoldable pub first_wrong_lem : Network → ℕ → List ℕ → Option ℕ
first_wrong_lem n count table = cond (sound_ranks n count table) (first_of (wrong_bytes n count table)) (Some 0)
