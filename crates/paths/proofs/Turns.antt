-- The rule for paths, turn by turn, over the paths gathered so far. Ranks fall along entries, and a rank in the order is below 64.
-- Assumes nothing.
use Prim.Native.Nat.{ℕ, ◌+◌, ◌≤◌, ◌<◌}
use mathlib.Core.List.{List, [], ◌∷◌, ◌++◌}
use mathlib.Core.Path.{◌≡◌, sym}
use native.Mathlib.Numerals.{add-one}
use native.Mathlib.Omega.{arith}
use lib.ListN.{length, get_or, set}
use Rattle.network.specs.Lists.{counted}
use Rattle.network.specs.Row.{rank}
use Rattle.network.specs.Theorems.Routing.{FallingRows}
use Rattle.topology_types.specs.declared.Topology.{Topology}
use Rattle.topology_types.specs.Topology.{network_of}
use Rattle.topology_sound.proofs.Sound.{sound_exact}
use Rattle.topology.specs.Written.{joined_over}
use Rattle.table.specs.Listed.{destination_in_lem, places_in, entries_in, order_in}
use Rattle.table.specs.Inner.{TableStands}
use Rattle.table.proofs.Fields.{places_long}
use Rattle.table.proofs.Falls.{by_order}
use Rattle.forwarding_rules.specs.Theorems.{rank_byte, ListsPlace}
use Rattle.forwarding_rules.proofs.Listed.{Over}
use Rattle.paths_rules.specs.Calls.{paths_of, paths_past}
use Rattle.paths_rules.specs.Theorems.{Passed, PathRule}
use Rattle.paths_rules.proofs.Listed.{o, lower}
use Rattle.paths_rules.proofs.Entries.{turn}
use Rattle.paths_rules.proofs.Rule.{paths_by_rule}
use Rattle.paths.specs.Inner.{Asked, PathsGathered}
use Rattle.paths.proofs.Behind.{onward}

module _ {t : Topology} {table : List ℕ} {u : ℕ} (on : Passed t table u) where
  rule : PathRule t table u
  rule = paths_by_rule t on.is-sound table on.accepted u on.place

  abbrev listed : Over t table
  listed = o t on.is-sound table on.accepted

  pub stands : TableStands t table
  stands = listed.stands

  pub few_entries : length (places_in table u) ≤ 16
  few_entries = omega (arith, places_long table u, (stands.rows u on.place).few)

  -- a rank by which every entry ranks lower: that in the order which the table's ranks form
  abbrev turn_of : ℕ → ℕ
  turn_of v = rank (order_in t.routers table) v

  ordered : FallingRows (network_of t) (get_or table 1 0) (entries_in (network_of t) table) turn_of
  ordered = by_order t on.is-sound table on.accepted

  pub rank_few : turn_of u < 64
  rank_few =
      omega (
        arith,
        ordered.ranks_below u (omega (arith, listed.routers_are, on.place)),
        listed.routers_are,
        ((sound_exact t).0 on.is-sound).routers_most,
      )

  module _ {route : List ℕ} {moves : ℕ} {b : List ℕ} {count r : ℕ} {b' : List ℕ} where
    -- at the destination
    pub arrives : u ≡ destination_in_lem table → PathsGathered (set route moves u) 64 b count ([] ∷ []) r b' → PathsGathered route moves b count (paths_of t table u) r b'
    unfolding counted joined_over
    arrives e g = rw (rule.at_destination e) (record { total = g.total; put = g.put })

    -- elsewhere
    pub goes_on : (u ≡ destination_in_lem table → ⊥) → PathsGathered (set route moves u) (moves + 1) b count (paths_past t table u 0) r b' →
        PathsGathered route moves b count (paths_of t table u) r b'
    goes_on off g = rw (rule.elsewhere off) (onward u g)

  -- the entry i, and those behind it
  pub record Next (i v : ℕ) : Type 0 where
    pub stands : Passed t table v
    pub lower : rank_byte table v < rank_byte table u
    pub falls : turn_of v < turn_of u
    pub inside : i < length (places_in table u)
    pub paths : paths_past t table u i ≡ paths_of t table v ++ paths_past t table u (i + 1)

  listed_next : (i v : ℕ) → ListsPlace table u i v → Next i v
  listed_next i v l =
      let f = turn t on.is-sound table on.accepted u i v l in
      let (there, less) = lower t on.is-sound table on.accepted u on.place f.arc f.among in
      record {
        stands = record { is-sound = on.is-sound; accepted = on.accepted; place = rw f.to at there };
        lower = rw f.to at less;
        falls = rw (← f.to) (ordered.falls u f.arc f.among);
        inside = l.0;
        paths = rw add-one (rule.entry i v l);
      }

  -- by whether its row has an entry i
  module _ {row : List ℕ} (is : row ≡ places_in table u) (i : ℕ) where
    pub past : length row ≤ i → paths_past t table u i ≡ []
    past h = rule.past i (rw is at h)

    pub next : (v : ℕ) → (i < length row) × ((z : ℕ) → v ≡ get_or row i z) → Next i v
    next v (h, e) = listed_next i v (rw is at h, sym (rw is at e 0))

-- What is asked of the place that an entry names; and of the same station with other paths gathered, or one fewer to come.
module _ {table : List ℕ} {u moves count : ℕ} {out : List ℕ} (a : Asked table u moves count out) where
  pub asked_next : {i v : ℕ} → Next a.on i v → Asked table v (moves + 1) count out
  asked_next n =
      record { topology = a.topology; on = n.stands; short = omega (arith, a.short, n.falls); few = a.few; room = a.room }

  pub asked_again : {now : ℕ} → now ≤ 512 → {left : List ℕ} → length left ≡ length out → Asked table u moves now left
  asked_again few long = record { topology = a.topology; on = a.on; short = a.short; few = few; room = omega (arith, a.room) }
