-- What a hop and a walk come to where their first tests pass.
-- Assumes nothing.
use Rattle.std.proofs.Common.{◌≡◌, ℕ, ◌<◌, true, List, T, length, eqb, ltb}
use borrow.Author.Tests.{lt-ltb, eq-eqb}
use Rattle.network.specs.Forwarding.{Packet, start, hop, walk}
use Rattle.topology_types.specs.declared.Topology.{Topology}
use Rattle.topology_types.specs.Outcome.{answer}
use Rattle.topology_sound.specs.Sound.{sound}
use Rattle.topology_sound.proofs.Place.{on_place_next}
use Rattle.table.specs.Calls.{table_checking}
use Rattle.forwarding_rules.specs.Schedule.{rows_in, sound_length, wrong_states}
use Rattle.forwarding_rules.specs.Calls.{done, by, tested, tested_by, tested_over, hopping, walking}

module _ (t : Topology) (table : List ℕ) (good : T (sound t)) where
  module _ (states : List ℕ) (p : Packet ℕ) (place : p.station < t.routers) where
    pub hop_placed : hopping t table states p
        ≡ tested (ltb p.hops t.routers) 15 p.hops
        (tested_by (table_checking t table)
        (tested (eqb (length states) t.links) 22 (length states) (tested_over (wrong_states states) 23 (done (hop (by t table) states p)))))
    unfolding hopping
    hop_placed = on_place_next _ t p.station _ good place

    module _ (few : p.hops < t.routers) where
      pub hop_made : hopping t table states p
          ≡ tested_by (table_checking t table)
          (tested (eqb (length states) t.links) 22 (length states) (tested_over (wrong_states states) 23 (done (hop (by t table) states p))))
      unfolding tested
      hop_made = rw hop_placed (rw (lt-ltb p.hops t.routers few))

      module _ (accepted : table_checking t table ≡ answer 0 0) where
        pub hop_listed : hopping t table states p
            ≡ tested (eqb (length states) t.links) 22 (length states) (tested_over (wrong_states states) 23 (done (hop (by t table) states p)))
        unfolding tested tested_by
        hop_listed = rw (hop_made, accepted)

        pub hop_stated : length states ≡ t.links → hopping t table states p ≡ tested_over (wrong_states states) 23 (done (hop (by t table) states p))
        unfolding tested
        hop_stated long = rw hop_listed (rw (eq-eqb (length states) t.links long))

  module _ (u : ℕ) (schedule : List ℕ) (place : u < t.routers) where
    pub walk_placed : walking t table u schedule
        ≡ tested_by (table_checking t table)
        (tested (sound_length t.routers t.links (length schedule)) 22 (length schedule)
        (tested_over (wrong_states schedule) 23 (done (walk (by t table) (rows_in t.routers t.links schedule) (start u)))))
    unfolding walking
    walk_placed = on_place_next _ t u _ good place

    module _ (accepted : table_checking t table ≡ answer 0 0) where
      pub walk_listed : walking t table u schedule
          ≡ tested (sound_length t.routers t.links (length schedule)) 22 (length schedule)
          (tested_over (wrong_states schedule) 23 (done (walk (by t table) (rows_in t.routers t.links schedule) (start u))))
      unfolding tested tested_by
      walk_listed = rw (walk_placed, accepted)

      pub walk_stated : sound_length t.routers t.links (length schedule) ≡ true →
          walking t table u schedule ≡ tested_over (wrong_states schedule) 23 (done (walk (by t table) (rows_in t.routers t.links schedule) (start u)))
      unfolding tested
      walk_stated whole = rw walk_listed (rw whole)
