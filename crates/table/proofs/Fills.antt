-- Filling is what `given` leaves of the table's bytes, once checking the order answers 0; the bytes are a table that its order and the topology's K give.
-- The network of a topology does not depend on its K, so for each K that gives a table filling gives the same.
-- Assumes nothing.
use Prim.Native.Nat.{ℕ, ◌≤◌, ◌<◌}
use mathlib.Core.List.{List, append-nil}
use mathlib.Core.Path.{◌≡◌, refl, ap, ◌∙◌}
use native.Mathlib.Omega.{arith}
use borrow.Author.Tests.{ne_eqb, le-ltb}
use lib.Dec.{T}
use lib.ListN.{length, take}
use lib.Seq.{drop-length}
use Rattle.network.specs.Order.{free, build}
use Rattle.network.specs.Theorems.Order.{Accepted}
use Rattle.topology_types.specs.declared.Topology.{Topology}
use Rattle.topology_types.specs.Outcome.{answer, turned_away, given}
use Rattle.topology_types.specs.Topology.{padded, contents, network_in, network_of}
use Rattle.topology_types.proofs.Given.{given_exact}
use Rattle.topology_sound.specs.Sound.{sound}
use Rattle.topology_sound.proofs.Sound.{sound_exact}
use Rattle.order_standings.specs.declared.Mode.TheVariants as mode
use Rattle.order.specs.Calls.{mode_of, reached_count_lem, order_bytes, checking}
use Rattle.order.specs.Theorems.{up_to_n}
use Rattle.order.proofs.Orders.{part_is, checks}
use Rattle.order.proofs.Verdicts.{checks_each}
use Rattle.table_rows.specs.Bytes.{table_bytes}
use Rattle.table.specs.Calls.{unless_refused, filling, built_table}
use Rattle.table.specs.Theorems.{BuiltGiven, FillsWell, FillRefuses, TableIs, GivenBy, limit_set_to, GivenIsFilled}
use Rattle.table.proofs.Bytes.{bytes_exact}
use Rattle.table.proofs.Verdicts.{table_long, tables_exact}
use Rattle.table.proofs.Calling.{built_free}

module _ (t : Topology) (d : ℕ) (order : List ℕ) where
  -- the bytes that filling writes for the reached routers in their order
  abbrev its_table : List ℕ
  its_table = table_bytes (network_of t) d t.limit order

  -- they are a table, which the order and the topology's K give
  stated : T (sound t) → TableIs (network_of t) d t.limit order its_table
  stated s = (bytes_exact (network_of t) d t.limit ((sound_exact t).0 s).limit_most order its_table).0 refl

  gives : T (sound t) → d < t.routers → Accepted (network_of t) d free order → GivenBy t its_table d t.limit order
  gives s place a =
      let w = (sound_exact t).0 s in
      record {
        place = place;
        limit_least = w.limit_least;
        limit_most = w.limit_most;
        in_free = a;
        bytes = stated s;
      }

pub built_given : BuiltGiven
unfolding built_table
built_given t s d place m = gives t d (build (network_of t) d (mode_of m)) s place (built_free t s d place m)

-- once checking the order's bytes answers 0, the table of its reached ranks is given
goes_on : (t : Topology) (d : ℕ) (bytes : List ℕ) → checking t d mode.Free bytes ≡ answer 0 0 → (buffer : List ℕ) →
    filling t d bytes buffer ≡ given (its_table t d (take (reached_count_lem (network_of t) d) bytes)) buffer
unfolding filling unless_refused
goes_on t d bytes e buffer = rw e

-- where they are an accepted order and then 255, these are the order
fills : (t : Topology) → T (sound t) → (d : ℕ) → d < t.routers → (order : List ℕ) → Accepted (network_of t) d free order → (buffer : List ℕ) →
    filling t d (up_to_n t order) buffer ≡ given (its_table t d order) buffer
unfolding mode_of order_bytes padded
fills t s d place order a buffer =
    goes_on t d (up_to_n t order) (checks t s d place mode.Free order a) buffer
    ∙ ap (λ (part : List ℕ). given (its_table t d part) buffer) (part_is t s d place mode.Free order a)

pub fills_well : FillsWell
fills_well t s d place order a buffer room =
    let bytes = its_table t d order in
    let long = table_long t s (stated t d order s) in
    let left = fills t s d place order a buffer in
    let w = given_exact bytes buffer in
    let fits : length bytes ≤ length buffer = omega arith in
    let g = gives t d order s place a in
    let front = rw (← left, long) at (w.stated fits) in
    record {
      success = rw (left, ← long) (w.answer fits);
      given = rw front g;
      rest = rw (left, ← long) (w.rest fits);
      long = rw left w.long;
      accepted = rw front ((tables_exact t s bytes).1 (d, t.limit, order, g));
    }

pub fill_refuses : FillRefuses
unfolding filling unless_refused turned_away
fill_refuses t d order buffer =
    record {
      not_accepted = λ number at some e. rw (e, ne_eqb number 0 some);
      no_room = λ e short.
          let s = ((checks_each t d order 0).in_free.says_0.0 e).1.is-sound in
          let part = take (reached_count_lem (network_of t) d) order in
          let long = table_long t s (stated t d part s) in
          rw (goes_on t d order e buffer, ← long) ((given_exact (its_table t d part) buffer).short (omega arith));
    }

-- the network does not depend on K
same_network : (t : Topology) (limit : ℕ) → network_of (limit_set_to t limit) ≡ network_of t
unfolding network_of network_in contents
same_network t limit = refl

-- a K from 1 to 16 keeps a topology sound
limited_sound : (t : Topology) (limit : ℕ) → T (sound t) → 1 ≤ limit → limit ≤ 16 → T (sound (limit_set_to t limit))
unfolding network_of network_in contents
limited_sound t limit s least most =
    let w = (sound_exact t).0 s in
    (sound_exact (limit_set_to t limit)).1
    record {
      routers_least = w.routers_least;
      routers_most = w.routers_most;
      links_most = w.links_most;
      limit_least = least;
      limit_most = most;
      linked = w.linked;
      neighbours = w.neighbours;
      ids_unused = w.ids_unused;
      links_unused = w.links_unused;
      id_slots = w.id_slots;
      link_slots = w.link_slots;
      ids_fit = w.ids_fit;
    }

-- bytes given into a buffer of their length are all of it
whole : (bytes buffer : List ℕ) → length buffer ≡ length bytes → given bytes buffer ≡ record { answer = answer 0 (length bytes); buffer = bytes }
unfolding given
whole bytes buffer e = rw (le-ltb (length buffer) (length bytes) (omega arith), ← e, drop-length buffer, append-nil)

pub given_is_filled : GivenIsFilled
given_is_filled t s table d limit order g buffer e =
    let u = limit_set_to t limit in
    let n = same_network t limit in
    let a : Accepted (network_of u) d free order = rw n g.in_free in
    let bytes : table ≡ table_bytes (network_of u) d limit order = rw n ((bytes_exact (network_of t) d limit g.limit_most order table).1 g.bytes) in
    fills u (limited_sound t limit s g.limit_least g.limit_most) d g.place order a buffer
    ∙ rw (← bytes) (whole table buffer e)
