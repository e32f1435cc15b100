-- What holds of a topology imported from a file of router-LSAs (02, #106): demands 2 and 3, as of every sound one.
-- Assumes nothing.
use Rattle.std.specs.Prelude.{ℕ, ◌≤◌, ◌<◌, ◌↔◌, ◌≡◌, T, length}
use mathlib.Core.List.{List, Memᴰ}
use Rattle.network.specs.Order.{shortest-path, free}
use Rattle.network.specs.Theorems.Distance.{DistanceExact}
use Rattle.network.specs.Theorems.Order.{Accepted}
use Rattle.topology_types.specs.declared.Topology.{Topology}
use Rattle.topology_types.specs.Outcome.{answer}
use Rattle.topology_types.specs.Topology.{network_of}
use Rattle.topology_sound.specs.Sound.{sound}
use Rattle.topology_sound.specs.Theorems.{SoundNetwork}
use Rattle.stream_rules.specs.Theorems.{Bytes}
use Rattle.order.specs.Calls.{checking}
use Rattle.order.specs.Theorems.{InBoth, OrderHeld, BuiltWell}
use Rattle.table_rows.specs.Layout.{narrow, table_length}
use Rattle.table.specs.Listed.{order_in}
use Rattle.table.specs.Calls.{table_checking}
use Rattle.table.specs.Theorems.{FilledWell, SomeGive}
use Rattle.forwarding_rules.specs.Theorems.{destination_byte, Reached, SoundSchedule, router_table, Reports, ShortestWalk}
use Rattle.forwarding_rules.specs.Theorems.Demand3.{Claims}
use Rattle.ospf.specs.Import.{importing}

-- demand 2: distances are exact, orders are built by 01's rule, checking answers 0 exactly for the bytes of those that it accepts, tables are filled from
-- accepted orders, checking a table answers 0 exactly where filling could give it, and a walk over a table in shortest-path mode, with all links up, costs
-- the distance of the station where it starts, if that is reached (02, #107)
pub record OrdersAndRows (t : Topology) : Type 0 where
  pub seen : SoundNetwork t
  pub distances : (d : ℕ) → d < t.routers → (u : ℕ) → DistanceExact (network_of t) d u
  pub built : (d : ℕ) → d < t.routers → InBoth (λ m meant. (buffer : List ℕ) → t.routers ≤ length buffer → BuiltWell t d m meant buffer)
  pub checked : (d : ℕ) → d < t.routers →
      InBoth (λ m meant. (bytes : List ℕ) → (checking t d m bytes ≡ answer 0 0) ↔ ((order : List ℕ) × OrderHeld t d meant bytes order))
  pub filled : (d : ℕ) → d < t.routers → (order : List ℕ) → Accepted (network_of t) d free order → (buffer : List ℕ) → table_length narrow t.routers ≤ length buffer →
      FilledWell t d order buffer
  pub proposed : (table : List ℕ) → (table_checking t table ≡ answer 0 0) ↔ SomeGive t table
  pub shortest : (table : List ℕ) → table_checking t table ≡ answer 0 0 →
      Accepted (network_of t) (destination_byte table) shortest-path (order_in t.routers table) → (u : ℕ) → u < t.routers → Reached t table u →
      (schedule : List ℕ) → SoundSchedule t schedule → ((b : ℕ) → Memᴰ b schedule → b ≡ 1) → ShortestWalk t table u schedule

-- demand 3, over every accepted table, whatever the links do: the figures reported of reached stations are the greatest hop counts, by walks and hop by hop,
-- and from one that is cut off every walk is dropped after 0 hops (02, #107); a hop goes by 01's rule, in a walk too, and a walk ends delivered, or dropped
-- where no link to a listed next hop is up
pub record HopCounts (t : Topology) (table : List ℕ) : Type 0 where
  pub reported : (buffer : List ℕ) → Reports t table buffer
  pub claims : Claims (router_table t table)

-- 02, #106: the hop_count statement covers the result, and so do the others
pub record Imported (file : List ℕ) : Type 0 where
  pub is-sound : T (sound (importing file).topology)
  pub demand_2 : OrdersAndRows (importing file).topology
  pub demand_3 : (table : List ℕ) → table_checking (importing file).topology table ≡ answer 0 0 → HopCounts (importing file).topology table

abbrev pub ImportMeets : Type 0
ImportMeets = (file : List ℕ) → Bytes file → (importing file).answer.number ≡ 0 → Imported file
