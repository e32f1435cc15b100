-- What is proved of writing, and of reading what was written, over all topology values; and of the helper for old streams (02, #101): what it leaves of a lent
-- buffer, whatever the stream is, and what reading returns of what it made: what reading the stream returns with K 16 before its first record.
-- Assumes nothing.
use Rattle.std.specs.Prelude.{ℕ, ◌+◌, ◌*◌, ◌/◌, ◌%◌, ◌≤◌, ◌<◌, false, cond, not, ◌↔◌, ◌≢◌, ◌≡◌, T, eqb, length, take, drop}
use mathlib.Core.List.{List, [], ◌∷◌, ◌++◌, Memᴰ}
use Rattle.network.specs.Lists.{keep}
use Rattle.topology_types.specs.declared.Topology.{Topology}
use Rattle.topology_types.specs.Outcome.{turned_away, given, answer}
use Rattle.topology_sound.specs.Sound.{sound}
use Rattle.stream_rules.specs.Reading.{reading, in_turn}
use Rattle.stream_rules.specs.Theorems.{Bytes, success, refused, four_bytes, two_bytes, half_of}
use Rattle.topology.specs.Written.{joined_over, written, writing}
use Rattle.stream_rules.specs.declared.Reading.{Reading}
use Rattle.stream_rules.specs.Record as record_of
use Rattle.stream_rules.specs.Stream.{records}
use Rattle.topology.specs.OldLimit.{with_old_limit_lem}

-- 01, Topology stream: reading what was written returns the same topology.
abbrev pub WrittenRead : Type 0
WrittenRead = (t : Topology) → T (sound t) → reading (written t) ≡ success t

-- 01, Refusals, 14: a topology is sound if and only if some stream reads as it.
abbrev pub SoundIsRead : Type 0
SoundIsRead = (t : Topology) → T (sound t) ↔ ((s : List ℕ) × (Bytes s × (reading s ≡ success t)))

-- 01, Topology stream, and 02, #101 and #105: what is written is bytes, 2 for K, 5 for each router and each link, 5 more for each link whose costs
-- differ, and 1; at most 2,883. Record 8 stands first, whatever K is; then kind 1 and the ID of each router, by place; then the links, by number, and the
-- end. A link whose costs agree is kind 2, its places as read and the cost. Any other is two halves: kind 4, its first place, its second and the cost
-- that way, then kind 4, its second place, its first and the cost back.
pub record StreamWritten (t : Topology) : Type 0 where
  pub stream : written t
      ≡ 8 ∷ t.limit ∷ (joined_over (λ id. 1 ∷ id / 16777216 % 256 ∷ id / 65536 % 256 ∷ id / 256 % 256 ∷ id % 256 ∷ []) (take t.routers t.id)
      ++ (joined_over
      (λ l.
      cond (eqb l.cost l.back) (2 ∷ l.first.0 ∷ l.second.0 ∷ l.cost / 256 % 256 ∷ l.cost % 256 ∷ [])
      (4 ∷ l.first.0 ∷ l.second.0 ∷ l.cost / 256 % 256 ∷ l.cost % 256 ∷ 4 ∷ l.second.0 ∷ l.first.0 ∷ l.back / 256 % 256 ∷ l.back % 256 ∷ []))
      (take t.links t.link)
      ++ (3 ∷ [])))
  pub bytes : Bytes (written t)
  pub long : length (written t)
      ≡ 2 + 5 * t.routers + 5 * t.links + 5 * length (keep (λ l. not (eqb l.cost l.back)) (take t.links t.link)) + 1
  pub most : length (written t) ≤ 2883

abbrev pub WrittenLong : Type 0
WrittenLong = (t : Topology) → T (sound t) → StreamWritten t

-- 01, Refusals, 14 and 24: a topology that is not sound is refused with 14 at 0, and the buffer stays as it was; of any other the bytes of its stream
-- are given, as `GivenExact` of `topology_types` says.
pub record Writing (t : Topology) (buffer : List ℕ) : Type 0 where
  pub unsound : sound t ≡ false → writing t buffer ≡ turned_away 14 0 buffer
  pub of_sound : T (sound t) → writing t buffer ≡ given (written t) buffer

abbrev pub WritingExact : Type 0
WritingExact = (t : Topology) (buffer : List ℕ) → Writing t buffer

-- Where there is no room for the stream and two bytes more, 24 at that length, and the buffer stays; else 8 and 16, then the stream, then what stood
-- there, and at says how many bytes were written.
pub record Helped (stream buffer : List ℕ) : Type 0 where
  pub no_room : length buffer < length stream + 2 → with_old_limit_lem stream buffer ≡ record { answer = answer 24 (length stream + 2); buffer = buffer }
  pub success : length stream + 2 ≤ length buffer →
      with_old_limit_lem stream buffer
      ≡ record { answer = answer 0 (length stream + 2); buffer = 8 ∷ 16 ∷ (stream ++ drop (length stream + 2) buffer) }
  -- the bytes written are what is read below
  pub made : length stream + 2 ≤ length buffer → take (length stream + 2) (with_old_limit_lem stream buffer).buffer ≡ 8 ∷ 16 ∷ stream

abbrev pub HelpExact : Type 0
HelpExact = (stream buffer : List ℕ) → Helped stream buffer

-- The records of a stream, by its bytes: a whole record and those after it; where the kind is unknown or the body is cut short, a refusal in its place.
pub record Cut : Type 0 where
  pub none : records 0 [] ≡ []
  pub router : (a b e f : ℕ) (rest : List ℕ) → records 0 (1 ∷ a ∷ b ∷ e ∷ f ∷ rest) ≡ record_of.Router (four_bytes a b e f) ∷ records 0 rest
  pub link : (u v e f : ℕ) (rest : List ℕ) →
      records 0 (2 ∷ u ∷ v ∷ e ∷ f ∷ rest) ≡ record_of.Link (half_of u v (two_bytes e f)) ∷ records 0 rest
  pub half : (u v e f : ℕ) (rest : List ℕ) →
      records 0 (4 ∷ u ∷ v ∷ e ∷ f ∷ rest) ≡ record_of.Half (half_of u v (two_bytes e f)) ∷ records 0 rest
  pub limit : (k : ℕ) (rest : List ℕ) → records 0 (8 ∷ k ∷ rest) ≡ record_of.Limit k ∷ records 0 rest
  pub end : (rest : List ℕ) → records 0 (3 ∷ rest) ≡ record_of.End ∷ records 0 rest
  pub router_cut : (body : List ℕ) → length body < 4 → records 0 (1 ∷ body) ≡ record_of.Refused 1 ∷ []
  pub link_cut : (body : List ℕ) → length body < 4 → records 0 (2 ∷ body) ≡ record_of.Refused 1 ∷ []
  pub half_cut : (body : List ℕ) → length body < 4 → records 0 (4 ∷ body) ≡ record_of.Refused 1 ∷ []
  pub limit_cut : records 0 (8 ∷ []) ≡ record_of.Refused 1 ∷ []
  pub unknown : (kind : ℕ) → kind ≢ 1 → kind ≢ 2 → kind ≢ 3 → kind ≢ 4 → kind ≢ 8 → (rest : List ℕ) →
      records 0 (kind ∷ rest) ≡ record_of.Refused 2 ∷ records 0 rest

-- the stream has a record 8
abbrev pub HasLimit : List ℕ → Type 0
HasLimit stream = (k : ℕ) × Memᴰ (record_of.Limit k) (records 0 stream)

-- the same routers and links, K 16
abbrev pub sixteen : Topology → Topology
sixteen t = record { routers = t.routers; links = t.links; limit = 16; id = t.id; link = t.link }

-- What is read of `08 10` and the stream behind it. A stream without record 8 has K 16; of one that has a record 8 its own last K stands; what is
-- refused is refused with its number, at moved by 2.
pub record OldRead (stream : List ℕ) : Type 0 where
  pub unlimited : (HasLimit stream → ⊥) → (t : Topology) → reading stream ≡ success t → reading (8 ∷ 16 ∷ stream) ≡ success (sixteen t)
  pub limited : HasLimit stream → (t : Topology) → reading stream ≡ success t → reading (8 ∷ 16 ∷ stream) ≡ success t
  pub refusals : (number at : ℕ) → number ≢ 0 → reading stream ≡ refused number at → reading (8 ∷ 16 ∷ stream) ≡ refused number (at + 2)

-- reading, but with K 16 before the first record, as K was before 02, #101
unfoldable pub read_before : List ℕ → Reading
read_before stream = in_turn 0 (record { contents = record { ids = []; links = []; limit = 16 }; lone = [] }) (records 0 stream)

-- What is read of `08 10` and the stream behind it is what is so read of the stream, refusals at moved as above. Only K is as it was: before
-- 02, #105, a record 4 was refused with 2, and before #107 parts apart were refused, and here both are read as now.
pub record ReadAsBefore (stream : List ℕ) : Type 0 where
  pub topology : (reading (8 ∷ 16 ∷ stream)).topology ≡ (read_before stream).topology
  pub number : (reading (8 ∷ 16 ∷ stream)).answer.number ≡ (read_before stream).answer.number
  pub returned : (t : Topology) → read_before stream ≡ success t → reading (8 ∷ 16 ∷ stream) ≡ success t
  pub refusals : (number at : ℕ) → number ≢ 0 → read_before stream ≡ refused number at → reading (8 ∷ 16 ∷ stream) ≡ refused number (at + 2)

abbrev pub OldStreamsRead : Type 0
OldStreamsRead = Cut × ((stream : List ℕ) → OldRead stream × ReadAsBefore stream)
