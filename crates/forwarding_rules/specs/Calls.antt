-- What the greatest hop counts, a setting, a hop and a walk answer, whole (01, Packet, hop and schedule; Refusals, 14, 15 and 21 to 24).
-- Assumes nothing.
use Rattle.std.specs.Prelude.{ℕ, Bool, cond, List, [], ◌∷◌, map, eqb, ltb, length, Result, Ok, Err}
use Rattle.network.specs.Lists.{below}
use Rattle.network.specs.Forwarding as network
use Rattle.network.specs.Forwarding.{Forwarding, start, hop, walk, longest}
use Rattle.topology_types.specs.declared.Refusal.{Refusal}
use Rattle.topology_types.specs.declared.Topology.{Topology}
use Rattle.topology_types.specs.declared.Answer.{Answer}
use Rattle.topology_types.specs.Outcome.{answer, number_of, Outcome, given}
use Rattle.topology_types.specs.Topology.{network_of}
use Rattle.topology_sound.specs.Place.{on_place}
use Rattle.table.specs.Listed.{rank_in_lem, listed, forwarding_by}
use Rattle.table.specs.Calls.{unless_refused, table_checking}
use Rattle.forwarding_rules.specs.declared.Packet.{Packet}
use Rattle.forwarding_rules.specs.declared.Hop.{Hop}
use Rattle.forwarding_rules.specs.declared.Hop.TheVariants as hopped
use Rattle.forwarding_rules.specs.declared.Walk.{Walk}
use Rattle.forwarding_rules.specs.declared.Walk.TheVariants as walked
use Rattle.forwarding_rules.specs.Schedule.{rows_in, sound_length, wrong_states}

-- 01, Refusals: a call answers number 0 and a value, or a refusal with its number and its at
pub data Said (A : Type 0) : Type 0 where
  done : A → Said A
  refused : ℕ → ℕ → Said A

-- 01, Refusals: the number and the at that it answers
unfoldable pub said : {A : Type 0} → Said A → Answer
said (done x) = answer 0 0
said (refused number at) = answer number at

-- a packet with its place as a number
unfoldable pub packet_in : Packet → network.Packet ℕ
packet_in p = record { station = p.station.0; hops = p.hops }

-- a hop, and a walk, of the code with its places as numbers
unfoldable pub hop_in : Hop → network.Hop ℕ
hop_in hopped.Delivered = network.delivered
hop_in (hopped.Moved p) = network.moved (packet_in p)
hop_in hopped.Dropped = network.dropped

unfoldable pub walk_in : Walk → network.Walk ℕ
walk_in (walked.Delivered p) = network.delivered_at (packet_in p)
walk_in (walked.Dropped p) = network.dropped_at (packet_in p)

-- 01's number and values for each case of what a call returns
unfoldable pub says : {A B : Type 0} → (A → B) → Result A Refusal → Said B
says seen (Ok x) = done (seen x)
says seen (Err r) = refused (number_of r.fault) r.at

-- of a setting
abbrev pub setting_says : Result Packet Refusal → Said (network.Packet ℕ)
setting_says = says packet_in

-- of a hop
abbrev pub hop_says : Result Hop Refusal → Said (network.Hop ℕ)
hop_says = says hop_in

-- of a walk
abbrev pub walk_says : Result Walk Refusal → Said (network.Walk ℕ)
walk_says = says walk_in

-- 01, Packet, hop and schedule: routers that forward by what the table lists
abbrev pub by : Topology → List ℕ → Forwarding
by t table = forwarding_by (listed (network_of t) table)

-- a test by itself; the next follows where it passes
unfoldable pub tested : {A : Type 0} → Bool → ℕ → ℕ → Said A → Said A
tested passes number at next = cond passes next (refused number at)

-- the test of a table, 14 among it
unfoldable pub tested_by : {A : Type 0} → Answer → Said A → Said A
tested_by a next = tested (eqb a.number 0) a.number a.at next

-- a test over all bytes: it points at the first that fails it
unfoldable pub tested_over : {A : Type 0} → List ℕ → ℕ → Said A → Said A
tested_over [] number next = next
tested_over (i ∷ is) number next = refused number i

-- 01, Packet, hop and schedule: the greatest hop count of u over a table, as it is computed
unfoldable pub figure : Topology → List ℕ → ℕ → ℕ
figure t table u = longest (by t table) t.routers u

-- 02, #107: the byte that is reported for it, 255 where the table gives the router no rank
unfoldable pub figure_byte : Topology → List ℕ → ℕ → ℕ
figure_byte t table u = cond (eqb (rank_in_lem table u) 255) 255 (figure t table u)

-- 01, Packet, hop and schedule: for all places it is N bytes
unfoldable pub figures : Topology → List ℕ → List ℕ
figures t table = map (figure_byte t table) (below t.routers)

-- 14, 21, then 24 at N; else the figures, the rest of a longer buffer staying
unfoldable pub counting_hops : Topology → List ℕ → List ℕ → Outcome
counting_hops t table buffer = unless_refused (table_checking t table) buffer (given (figures t table) buffer)

-- 14, then 15 for the start; else the packet at the start with 0 hops made
unfoldable pub setting_at : Topology → ℕ → Said (network.Packet ℕ)
setting_at t u = on_place refused t u (done (start u))

-- 14; 15 for the packet's station, then its hops made; 21; 22; 23; else the hop
unfoldable pub hopping : Topology → List ℕ → List ℕ → network.Packet ℕ → Said (network.Hop ℕ)
hopping t table states p =
    on_place refused t p.station
    (tested (ltb p.hops t.routers) 15 p.hops
    (tested_by (table_checking t table)
    (tested (eqb (length states) t.links) 22 (length states)
    (tested_over (wrong_states states) 23
    (done (hop (by t table) states p))))))

-- 14; 15 for the start; 21; 22; 23; else the walk from the start with 0 hops made
unfoldable pub walking : Topology → List ℕ → ℕ → List ℕ → Said (network.Walk ℕ)
walking t table u schedule =
    on_place refused t u
    (tested_by (table_checking t table)
    (tested (sound_length t.routers t.links (length schedule)) 22 (length schedule)
    (tested_over (wrong_states schedule) 23
    (done (walk (by t table) (rows_in t.routers t.links schedule) (start u))))))
