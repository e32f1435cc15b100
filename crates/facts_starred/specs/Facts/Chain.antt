-- A fact as the starred ones are: calls one after the other, each by its own definition, from the bytes of a stream on, and what the last of them is
-- expected to give.
-- Assumes nothing.
use Rattle.std.specs.Prelude.{ℕ, Bool, false, ◌&&◌, List, length}
use Rattle.network.specs.Lists.{same_numbers}
use Rattle.network.specs.Forwarding.{Walk, delivered_at, dropped_at, unfinished_at, start}
use Rattle.topology_types.specs.Outcome.{Outcome}
use Rattle.topology_types.specs.declared.Topology.{Topology}
use Rattle.stream_rules.specs.declared.Reading.{Reading}
use Rattle.stream_rules.specs.Reading.{reading}
use Rattle.order_standings.specs.declared.Mode.{Mode}
use Rattle.order.specs.Calls.{building}
use Rattle.order.specs.Facts.{answers}
use Rattle.table_rows.specs.Layout.{narrow, table_length}
use Rattle.table.specs.Listed.{places_in}
use Rattle.table.specs.Calls.{filling}
use Rattle.table.specs.Facts.{room}
use Rattle.forwarding_rules.specs.Calls.{Said, done, refused, counting_hops, walking}
use Rattle.forwarding_rules.specs.Lists.{PacketCall, after_all}
use Rattle.forwarding_rules.specs.Theorems.{router_table}
use Rattle.facts_starred.specs.Facts.Fact.{left_at}

-- Which end a walk is expected to have, at which station, after how many hops.
pub data End : Type 0 where
  delivered : ℕ → ℕ → End
  dropped : ℕ → ℕ → End

-- What is expected, of the last call or of what it wrote.
pub data Expected : Type 0 where
  -- building writes this order
  builds : List ℕ → Expected
  -- filling, for the order built, writes a table whose row of a place lists these places
  lists : ℕ → List ℕ → Expected
  -- the greatest hop counts, for the table filled, are these
  counts : List ℕ → Expected
  -- a walk, by the table filled, from a start under the bytes of a schedule
  walks : ℕ → List ℕ → End → Expected
  -- a list of calls, by the table filled, leaves the packet at a station with so many hops made; at first it is at place 0 with 0 hops made
  leaves : List (PacketCall (List ℕ)) → ℕ → ℕ → Expected

pub record Chain : Type 0 where
  pub stream : List ℕ
  pub destination : ℕ
  pub mode : Mode
  pub expected : Expected

-- 01, Refusals: the call answers number 0, and at how many bytes were written, here the whole buffer; on with these bytes
unfoldable pub wrote : Outcome → (List ℕ → Bool) → Bool
wrote o next = answers o.answer 0 (length o.buffer) && next o.buffer

unfoldable pub ends_so : End → Said (Walk ℕ) → Bool
ends_so (delivered station hops) (done (delivered_at p)) = left_at p station hops
ends_so (delivered station hops) (done (dropped_at p)) = false
ends_so (delivered station hops) (done (unfinished_at p)) = false
ends_so (delivered station hops) (refused number at) = false
ends_so (dropped station hops) (done (delivered_at p)) = false
ends_so (dropped station hops) (done (dropped_at p)) = left_at p station hops
ends_so (dropped station hops) (done (unfinished_at p)) = false
ends_so (dropped station hops) (refused number at) = false

-- on from the topology, by filling the table for an order
unfoldable pub by_table : Topology → ℕ → List ℕ → (List ℕ → Bool) → Bool
by_table t d order next = wrote (filling t d order (room (table_length narrow t.routers))) next

-- on from the order that was built
unfoldable pub by_order : Topology → ℕ → Expected → List ℕ → Bool
by_order t d (builds expected) order = same_numbers order expected
by_order t d (lists u expected) order = by_table t d order (λ table. same_numbers (places_in table u) expected)
by_order t d (counts expected) order =
    by_table t d order (λ table. wrote (counting_hops t table (room t.routers)) (λ figures. same_numbers figures expected))
by_order t d (walks u schedule expected) order = by_table t d order (λ table. ends_so expected (walking t table u schedule))
by_order t d (leaves calls station hops) order = by_table t d order (λ table. left_at (after_all (router_table t table) calls (start 0)) station hops)

-- on from what was read, which must not be refused
unfoldable pub by_reading : Reading → ℕ → Mode → Expected → Bool
by_reading r d m e =
    answers r.answer 0 0 && wrote (building r.topology d m (room r.topology.routers)) (by_order r.topology d e)

unfoldable pub follows : Chain → Bool
follows c = by_reading (reading c.stream) c.destination c.mode c.expected
