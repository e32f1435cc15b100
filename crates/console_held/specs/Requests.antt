-- The requests that change what is held: what each answers, by what it asks, and what is held from then on.
-- Assumes nothing.
use Rattle.std.specs.Prelude.{ℕ, List, [], ◌∷◌}
use Rattle.network.specs.Forwarding.{Packet, Hop, delivered, moved, dropped}
use Rattle.stream_rules.specs.declared.Reading.{Reading}
use Rattle.topology_types.specs.declared.Topology.{Topology}
use Rattle.stream_rules.specs.Reading.{reading}
use Rattle.ospf.specs.Import.{importing}
use Rattle.topology_types.specs.declared.Answer.{Answer}
use Rattle.forwarding_rules.specs.Calls as said
use Rattle.forwarding_rules.specs.Calls.{Said}
use Rattle.forwarding_rules.specs.Lent.{Left, setting_packet, hopping_packet}
use Rattle.text.specs.Lines.{error_line, refused_word, answer_line, word_line}
use Rattle.console_held.specs.Questions.{Question}

-- What is held: a topology, the bytes of a table and a packet, both untested.
pub record Held : Type 0 where
  pub topology : Topology
  pub table : List ℕ
  pub packet : Packet ℕ

-- What a request leaves: what is held from then on, and the line that answers.
pub record Answered : Type 0 where
  pub held : Held
  pub text : List ℕ

-- nothing changes
unfoldable pub unchanged : Held → List ℕ → Answered
unchanged h text = record { held = h; text = text }

-- a line that is no request answers `error` and changes nothing
unfoldable pub no_request : Held → Answered
no_request h = unchanged h error_line

-- what is held, with this packet
unfoldable pub carrying : Held → Packet ℕ → Held
carrying h p = record { topology = h.topology; table = h.table; packet = p }

-- NUMBER AT
unfoldable pub answer_of : Answer → List ℕ
answer_of a = answer_line a.number a.at

-- `set`
unfoldable pub set_word : List ℕ
set_word = 115 ∷ 101 ∷ 116 ∷ []

-- `delivered`
unfoldable pub delivered_word : List ℕ
delivered_word = 100 ∷ 101 ∷ 108 ∷ 105 ∷ 118 ∷ 101 ∷ 114 ∷ 101 ∷ 100 ∷ []

-- `moved`
unfoldable pub moved_word : List ℕ
moved_word = 109 ∷ 111 ∷ 118 ∷ 101 ∷ 100 ∷ []

-- `dropped`
unfoldable pub dropped_word : List ℕ
dropped_word = 100 ∷ 114 ∷ 111 ∷ 112 ∷ 112 ∷ 101 ∷ 100 ∷ []

-- a word, then STATION HOPS
unfoldable pub packet_line : List ℕ → Packet ℕ → List ℕ
packet_line word p = word_line word p.station p.hops

-- what a setting says, with the packet as it is then
unfoldable pub set_text : Said (Packet ℕ) → Packet ℕ → List ℕ
set_text (said.done q) p = packet_line set_word p
set_text (said.refused number at) p = word_line refused_word number at

-- what a hop says, with the packet as it is then
unfoldable pub hop_text : Said (Hop ℕ) → Packet ℕ → List ℕ
hop_text (said.done delivered) p = packet_line delivered_word p
hop_text (said.done (moved q)) p = packet_line moved_word p
hop_text (said.done dropped) p = packet_line dropped_word p
hop_text (said.refused number at) p = word_line refused_word number at

-- the packet as a setting left it is held from then on
unfoldable pub set_answer : Held → Left ℕ (Packet ℕ) → Answered
set_answer h l = record { held = carrying h l.packet; text = set_text l.answer l.packet }

-- as a hop left it
unfoldable pub hop_answer : Held → Left ℕ (Hop ℕ) → Answered
hop_answer h l = record { held = carrying h l.packet; text = hop_text l.answer l.packet }

-- what a call returned is held from then on, beside the table and the packet
unfoldable pub taken_answer : Held → Reading → Answered
taken_answer h r = record { held = record { topology = r.topology; table = h.table; packet = h.packet }; text = answer_of r.answer }

-- `topology STREAM`
unfoldable pub read_by : Held → Question → Answered
read_by h q = taken_answer h (reading q.bytes)

-- `import FILE` (02, #106)
unfoldable pub import_by : Held → Question → Answered
import_by h q = taken_answer h (importing q.bytes)

-- `load-table TABLE`: the bytes are held from then on, beside the topology and the packet
unfoldable pub load_by : Held → Question → Answered
load_by h q = record { held = record { topology = h.topology; table = q.bytes; packet = h.packet }; text = answer_line 0 0 }

-- `load-packet STATION HOPS`: it is held from then on
unfoldable pub load_packet_by : Held → Question → Answered
load_packet_by h q = record { held = carrying h (record { station = q.place; hops = q.hops }); text = answer_line 0 0 }

-- `set START`
unfoldable pub setting_by : Held → Question → Answered
setting_by h q = set_answer h (setting_packet h.topology q.place h.packet)

-- `hop STATES`
unfoldable pub hop_by_lem : Held → Question → Answered
hop_by_lem h q = hop_answer h (hopping_packet h.topology h.table q.bytes h.packet)
