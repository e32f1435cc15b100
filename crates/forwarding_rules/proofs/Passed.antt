-- A hop or a walk over an accepted table answers what forwarding by the table does where its tests pass, and answers it only there.
-- Assumes nothing.
use Prim.Native.Nat.{ℕ, ◌<◌}
use mathlib.Core.List.{List}
use mathlib.Core.Path.{◌≡◌, refl, sym}
use lib.Dec.{T}
use Rattle.network.specs.Forwarding.{Packet, Walk, hop, walk, start}
use Rattle.topology_types.specs.declared.Topology.{Topology}
use Rattle.topology_types.specs.Outcome.{answer}
use Rattle.topology_sound.specs.Sound.{sound}
use Rattle.table.specs.Calls.{table_checking}
use Rattle.forwarding_rules.specs.Schedule.{rows_in}
use Rattle.forwarding_rules.specs.Calls.{done, by, hopping, walking}
use Rattle.forwarding_rules.specs.Theorems.{SoundSchedule, PacketStands, SoundStates}
use Rattle.forwarding_rules.proofs.Answers.{hops_done, walks_done}

module _ (t : Topology) (table : List ℕ) (right : table_checking t table ≡ answer 0 0) where
  pub hops_when : (states : List ℕ) (p : Packet ℕ) → PacketStands t p → SoundStates t states →
      hopping t table states p ≡ done (hop (by t table) states p)
  hops_when states p stands s = (hops_done t table states p _).1 (stands, (right, (s.long, (s.states_are, refl))))

  module _ (u : ℕ) (schedule : List ℕ) where
    -- the walk that the table's rows make under the schedule's
    abbrev pub walked : Walk ℕ
    walked = walk (by t table) (rows_in t.routers t.links schedule) (start u)

    pub walks_when : T (sound t) → u < t.routers → SoundSchedule t schedule → walking t table u schedule ≡ done walked
    walks_when good place s = (walks_done t table u schedule _).1 (good, (place, (right, (s.whole_rows, (s.states_are, refl)))))

    pub walks_only : (w : Walk ℕ) → walking t table u schedule ≡ done w → (u < t.routers) × SoundSchedule t schedule × (w ≡ walked)
    walks_only w e =
        let (good, (place, (checked, (whole, (small, is))))) = (walks_done t table u schedule w).0 e in
        (place, record { whole_rows = whole; states_are = small }, sym is)
