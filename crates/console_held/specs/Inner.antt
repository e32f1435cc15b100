-- What the code's structs stand for, and what its functions leave.
-- Assumes nothing.
use Rattle.std.specs.Prelude.{ℕ, ◌≤◌, List, [], ◌∷◌, ◌++◌, ◌≡◌, length, take, map, Option, Some, Result}
use Rattle.topology_types.specs.declared.Refusal.{Refusal}
use Rattle.topology_types.specs.Outcome as outcome
use Rattle.topology_types.specs.Outcome.{refused, tested}
use Rattle.text.specs.Hex.{byte_count, bytes}
use Rattle.text.specs.Lines.{newline, refused_word, error_line, word_line, buffer_line}
use Rattle.forwarding_rules.specs.Calls.{packet_in}
use Rattle.console_held.specs.declared.unchecked.changes.Change.{Change}
use Rattle.console_held.specs.declared.unchecked.changes.Change.TheVariants as change
use Rattle.console_held.specs.declared.unchecked.kind.Kind.{Kind}
use Rattle.console_held.specs.declared.unchecked.holding.Holding.{Holding}
use Rattle.console_held.specs.declared.unchecked.query.Query.{Query}
use Rattle.console_held.specs.declared.unchecked.reply.Fate.{Fate}
use Rattle.console_held.specs.declared.unchecked.reply.Fate.TheVariants as fate
use Rattle.console_held.specs.declared.unchecked.reply.Reply.{Reply}
use Rattle.console_held.specs.declared.unchecked.reply.Reply.TheVariants.{Error, Says, Leaves, Line, Finds, Refused}
use Rattle.console_held.specs.Kinds.{letter}
use Rattle.console_held.specs.Questions.{most_table, most_room, Question}
use Rattle.console_held.specs.Requests.{Held, Answered, set_word, delivered_word, moved_word, dropped_word, answer_of, packet_line, read_by, import_by, load_by, load_packet_by, setting_by, hop_by_lem}

unfoldable pub letters : List Kind → List ℕ
letters ks = map letter ks

-- The bytes of a field were put at the start of a buffer, and are no more than a table can be.
pub record Decoded (s : List ℕ) (r : Option ℕ) (buffer : List ℕ) : Type 0 where
  pub counted : r ≡ byte_count s
  pub start : (n : ℕ) → byte_count s ≡ Some n → (take n buffer ≡ bytes s) × (n ≤ length buffer) × (n ≤ most_table)

-- what is asked
unfoldable pub question_in : Query → Question
question_in q = record { place = q.place.0; hops = q.hops; mode = q.mode; room = q.room; bytes = q.bytes.now }

-- What is asked keeps to the limits.
pub record InLimits (q : Question) : Type 0 where
  pub few : length q.bytes ≤ most_table
  pub room : q.room ≤ most_room

-- what is held: the table is the start of its buffer
unfoldable pub held_in : Holding → Held
held_in h = record { topology = h.topology; table = take h.held.0 h.held.1; packet = packet_in h.packet }

-- the word for what became of a packet
unfoldable pub fate_word : Fate → List ℕ
fate_word fate.Set = set_word
fate_word fate.Delivered = delivered_word
fate_word fate.Moved = moved_word
fate_word fate.Dropped = dropped_word

-- the line that a reply stands for
unfoldable pub reply_text : Reply → List ℕ
reply_text Error = error_line
reply_text (Says a) = answer_of a
reply_text (Leaves a buffer) = buffer_line a.number a.at buffer.now
reply_text (Line text) = text.now ++ (newline ∷ [])
reply_text (Finds f p) = packet_line (fate_word f) (packet_in p)
reply_text (Refused a) = word_line refused_word a.number a.at

-- how many bytes it has of a buffer
unfoldable pub room_of : Reply → ℕ
room_of Error = 0
room_of (Says a) = 0
room_of (Leaves a buffer) = length buffer.now
room_of (Line text) = length text.now
room_of (Finds f p) = 0
room_of (Refused a) = 0

-- The answer in a reply is that of a result, a success's or a refusal's; in one that refuses it is a refusal's.
unfoldable pub FromResult : Reply → Type 0
FromResult Error = Unit {0}
FromResult (Says a) = (r : Result (Unit {0}) Refusal) × (a ≡ tested r)
FromResult (Leaves a buffer) = (r : Result ℕ Refusal) × (a ≡ outcome.answer_of r)
FromResult (Line text) = Unit {0}
FromResult (Finds f p) = Unit {0}
FromResult (Refused a) = (r : Refusal) × (a ≡ refused r)

-- A reply stands for this line, and has no more bytes of a buffer than ROOM can be.
pub record Replies (text : List ℕ) (r : Reply) : Type 0 where
  pub says : reply_text r ≡ text
  pub room : room_of r ≤ most_room

-- A request was served: what it leaves is held, and the reply stands for its line.
pub record StepServed (a : Answered) (h : Held) (r : Reply) : Type 0 where
  pub held : h ≡ a.held
  pub replies : Replies a.text r

-- what each request answers
unfoldable pub change_to : Change → Held → Question → Answered
change_to change.Topology = read_by
change_to change.Import = import_by
change_to change.LoadTable = load_by
change_to change.LoadPacket = load_packet_by
change_to change.Set = setting_by
change_to change.Hop = hop_by_lem
