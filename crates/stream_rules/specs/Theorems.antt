-- What is proved of reading, over all bytes.
-- Assumes nothing.
use Rattle.std.specs.Prelude.{ℕ, suc, ◌+◌, ◌-◌, ◌*◌, ◌≤◌, ◌<◌, Bool, true, false, ◌↔◌, ◌≢◌, ◌⊎◌, ◌≡◌, T, eqb, length, get_or, replicate}
use mathlib.Core.List.{List, [], ◌∷◌, ◌++◌, Memᴰ}
use Rattle.network.specs.Lists.{keep}
use Rattle.topology_types.specs.declared.Answer.{Answer}
use Rattle.topology_types.specs.declared.Half.{Half}
use Rattle.topology_types.specs.declared.Link.{Link}
use Rattle.topology_types.specs.declared.Topology.{Topology}
use Rattle.topology_types.specs.Outcome.{answer}
use Rattle.topology_types.specs.Topology.{Contents}
use Rattle.topology_sound.specs.Sound.{sound}
use Rattle.stream_rules.specs.declared.Reading.{Reading}
use Rattle.stream_rules.specs.Record.{Record}
use Rattle.stream_rules.specs.Record as record_of
use Rattle.stream_rules.specs.Halves.{StreamListing}
use Rattle.stream_rules.specs.Reading.{fault, ended, reading}

-- every element is a byte
abbrev pub Bytes : List ℕ → Type 0
Bytes s = (b : ℕ) → Memᴰ b s → b < 256

-- 01, Refusals: what a reading that is not refused returns
abbrev pub success : Topology → Reading
success t = record { answer = answer 0 0; topology = t }

-- 01, Refusals: the topology of all zeros
abbrev pub all_zeros : Topology
all_zeros = record {
  routers = 0;
  links = 0;
  limit = 0;
  id = replicate 64 0;
  link = replicate 256 (record { first = record { 0 = 0 }; second = record { 0 = 0 }; cost = 0; back = 0 });
}

-- 01, Topology stream: the topology of what is listed, routers by place and links by number; slots that are not used are zero
abbrev pub listed_in : Contents → Topology
listed_in c = record {
  routers = length c.ids;
  links = length c.links;
  limit = c.limit;
  id = c.ids ++ replicate (64 - length c.ids) 0;
  link = c.links ++ replicate (256 - length c.links) (record { first = record { 0 = 0 }; second = record { 0 = 0 }; cost = 0; back = 0 });
}

-- A reading with number 0 has at 0 and a sound topology; any other has the topology of all zeros.
pub record Read (r : Reading) : Type 0 where
  pub at_none : r.answer.number ≡ 0 → r.answer.at ≡ 0
  pub is-sound : r.answer.number ≡ 0 → T (sound r.topology)
  pub zeros : r.answer.number ≢ 0 → r.topology ≡ all_zeros

abbrev pub ReadsSound : Type 0
ReadsSound = (s : List ℕ) → Bytes s → Read (reading s)

-- 01, Refusals, and 02, #107: no other number is met by a stream; 13 is not, as nothing is asked of paths
abbrev pub ReadNumbers : Type 0
ReadNumbers = (s : List ℕ) → Memᴰ (reading s).answer.number (0 ∷ 1 ∷ 2 ∷ 3 ∷ 4 ∷ 5 ∷ 6 ∷ 7 ∷ 8 ∷ 9 ∷ 10 ∷ 11 ∷ 12 ∷ 16 ∷ [])

-- 01, Refusals, 3 and 4: what each number of a router's record says, after what is listed; the tests before it pass.
pub record RouterFaults (p : StreamListing) (id : ℕ) : Type 0 where
  pub says_3 : (fault p (record_of.Router id) ≡ 3) ↔ Memᴰ id p.contents.ids
  pub says_4 : (fault p (record_of.Router id) ≡ 4) ↔ ((Memᴰ id p.contents.ids → ⊥) × (64 ≤ length p.contents.ids))
  pub says_0 : (fault p (record_of.Router id) ≡ 0) ↔ ((Memᴰ id p.contents.ids → ⊥) × (length p.contents.ids < 64))

-- 02, #105, 8: the half from u to v is listed: as a link's, in the direction from its first place to its second or the other way round, or as a lone one
pub data HalfListed (p : StreamListing) (u v : ℕ) : Type 0 where
  going : (l : Link) → Memᴰ l p.contents.links → l.first.0 ≡ u → l.second.0 ≡ v → HalfListed p u v
  coming : (l : Link) → Memᴰ l p.contents.links → l.second.0 ≡ u → l.first.0 ≡ v → HalfListed p u v
  alone : (k : Half) → Memᴰ k p.lone → k.from.0 ≡ u → k.to.0 ≡ v → HalfListed p u v

-- 02, #105, 9: how many halves are listed: two of each link, and the lone ones
abbrev pub halves_listed : StreamListing → ℕ
halves_listed p = 2 * length p.contents.links + length p.lone

-- 02, #105, 10: how many of them leave u: of links that have it as their first place or as their second, and lone ones from it
abbrev pub halves_leaving : StreamListing → ℕ → ℕ
halves_leaving p u =
    length (keep (λ l. eqb l.first.0 u) p.contents.links) + length (keep (λ l. eqb l.second.0 u) p.contents.links)
    + length (keep (λ k. eqb k.from.0 u) p.lone)

-- the tests that records 2 and 4 share pass, in their order: 5; then 6; then 7
abbrev pub BothListed : StreamListing → Half → Type 0
BothListed p h = (h.from.0 < length p.contents.ids) × (h.to.0 < length p.contents.ids)

abbrev pub Differing : StreamListing → Half → Type 0
Differing p h = BothListed p h × (h.from.0 ≢ h.to.0)

abbrev pub Costing : StreamListing → Half → Type 0
Costing p h = Differing p h × (h.cost ≢ 0)

-- then 8 and 9 of a record 4: one half
abbrev pub NewHalf : StreamListing → Half → Type 0
NewHalf p h = Costing p h × (HalfListed p h.from.0 h.to.0 → ⊥)

abbrev pub RoomForOne : StreamListing → Half → Type 0
RoomForOne p h = NewHalf p h × (halves_listed p + 1 ≤ 512)

-- 01, Refusals, 5 to 10, and 02, #105: what each number of a record 4 says, after what is listed; the tests before it pass. The same half is refused,
-- not the opposite one, and only the router that sends is crowded.
pub record HalfFaults (p : StreamListing) (h : Half) : Type 0 where
  pub says_5 : (fault p (record_of.Half h) ≡ 5) ↔ ((length p.contents.ids ≤ h.from.0) ⊎ (length p.contents.ids ≤ h.to.0))
  pub says_6 : (fault p (record_of.Half h) ≡ 6) ↔ (BothListed p h × (h.from.0 ≡ h.to.0))
  pub says_7 : (fault p (record_of.Half h) ≡ 7) ↔ (Differing p h × (h.cost ≡ 0))
  pub says_8 : (fault p (record_of.Half h) ≡ 8) ↔ (Costing p h × HalfListed p h.from.0 h.to.0)
  pub says_9 : (fault p (record_of.Half h) ≡ 9) ↔ (NewHalf p h × (512 < halves_listed p + 1))
  pub says_10 : (fault p (record_of.Half h) ≡ 10) ↔ (RoomForOne p h × (16 ≤ halves_leaving p h.from.0))
  pub says_0 : (fault p (record_of.Half h) ≡ 0) ↔ (RoomForOne p h × (halves_leaving p h.from.0 < 16))

-- the same of a record 2: both halves, one from each of its places
abbrev pub EitherListed : StreamListing → Half → Type 0
EitherListed p h = HalfListed p h.from.0 h.to.0 ⊎ HalfListed p h.to.0 h.from.0

abbrev pub NewLink : StreamListing → Half → Type 0
NewLink p h = Costing p h × ((HalfListed p h.from.0 h.to.0 → ⊥) × (HalfListed p h.to.0 h.from.0 → ⊥))

abbrev pub RoomForTwo : StreamListing → Half → Type 0
RoomForTwo p h = NewLink p h × (halves_listed p + 2 ≤ 512)

pub record LinkFaults (p : StreamListing) (h : Half) : Type 0 where
  pub says_5 : (fault p (record_of.Link h) ≡ 5) ↔ ((length p.contents.ids ≤ h.from.0) ⊎ (length p.contents.ids ≤ h.to.0))
  pub says_6 : (fault p (record_of.Link h) ≡ 6) ↔ (BothListed p h × (h.from.0 ≡ h.to.0))
  pub says_7 : (fault p (record_of.Link h) ≡ 7) ↔ (Differing p h × (h.cost ≡ 0))
  pub says_8 : (fault p (record_of.Link h) ≡ 8) ↔ (Costing p h × EitherListed p h)
  pub says_9 : (fault p (record_of.Link h) ≡ 9) ↔ (NewLink p h × (512 < halves_listed p + 2))
  pub says_10 : (fault p (record_of.Link h) ≡ 10)
      ↔ (RoomForTwo p h × ((16 ≤ halves_leaving p h.from.0) ⊎ (16 ≤ halves_leaving p h.to.0)))
  pub says_0 : (fault p (record_of.Link h) ≡ 0)
      ↔ (RoomForTwo p h × ((halves_leaving p h.from.0 < 16) × (halves_leaving p h.to.0 < 16)))

-- 01, Refusals, 16: what each number of a limit's record says
pub record LimitFaults (p : StreamListing) (k : ℕ) : Type 0 where
  pub says_16 : (fault p (record_of.Limit k) ≡ 16) ↔ ((k ≡ 0) ⊎ (16 < k))
  pub says_0 : (fault p (record_of.Limit k) ≡ 0) ↔ ((1 ≤ k) × (k ≤ 16))

-- 01, Refusals, 11 and 12: what each answer at the end record says, by whether a byte follows it and where it stands; the tests before it pass.
-- Nothing is asked of paths: topologies whose parts are apart are read (02, #107).
pub record EndFaults (c : Contents) (follows : Bool) (at points : ℕ) (a : Answer) : Type 0 where
  pub says_11 : (a ≡ answer 11 points) ↔ ((points ≡ at + 1) × (follows ≡ true))
  pub says_12 : (a ≡ answer 12 points) ↔ ((points ≡ at) × (follows ≡ false) × (length c.ids ≡ 0))
  pub says_0 : (a ≡ answer 0 points) ↔ ((points ≡ 0) × (follows ≡ false) × (0 < length c.ids))

-- 01, Refusals, the table and the order of the tests: what each number says, record by record, whatever is listed before it.
pub record Faults (p : StreamListing) : Type 0 where
  pub routers : (id : ℕ) → RouterFaults p id
  pub links : (h : Half) → LinkFaults p h
  pub halves : (h : Half) → HalfFaults p h
  pub limits : (k : ℕ) → LimitFaults p k
  pub refused : (number : ℕ) → fault p (record_of.Refused number) ≡ number
  pub end : fault p record_of.End ≡ 0
  pub at_end : (follows : Bool) (at points : ℕ) → EndFaults p.contents follows at points (ended follows at p.contents).answer
  -- a reading that is not refused returns what is listed without the lone halves, the slots behind it zero
  pub returns : (follows : Bool) (at : ℕ) → (ended follows at p.contents).answer.number ≡ 0 →
      (ended follows at p.contents).topology ≡ listed_in p.contents
  -- and one that is refused there the topology of all zeros
  pub zeros : (follows : Bool) (at : ℕ) → (ended follows at p.contents).answer.number ≢ 0 → (ended follows at p.contents).topology ≡ all_zeros

abbrev pub FaultsEach : Type 0
FaultsEach = (p : StreamListing) → Faults p

-- 01, Topology stream: numbers are big-endian, here of 4 bytes and of 2; a half from u to v at a cost
abbrev pub four_bytes : ℕ → ℕ → ℕ → ℕ → ℕ
four_bytes a b e f = ((a * 256 + b) * 256 + e) * 256 + f

abbrev pub half_of : ℕ → ℕ → ℕ → Half
half_of u v cost = record { from = record { 0 = u }; to = record { 0 = v }; cost = cost }

abbrev pub two_bytes : ℕ → ℕ → ℕ
two_bytes e f = e * 256 + f

-- the number in the two bytes, or four, from an offset on
abbrev pub two_at : List ℕ → ℕ → ℕ
two_at s at = get_or s at 0 * 256 + get_or s (at + 1) 0

abbrev pub four_at : List ℕ → ℕ → ℕ
four_at s at = ((get_or s at 0 * 256 + get_or s (at + 1) 0) * 256 + get_or s (at + 2) 0) * 256 + get_or s (at + 3) 0

-- a link from u to v that costs so much that way, and so much the way back
abbrev pub link_at : ℕ → ℕ → ℕ → ℕ → Link
link_at u v cost back = record { first = record { 0 = u }; second = record { 0 = v }; cost = cost; back = back }

-- 01, Topology stream: record after record these bytes list these contents and lone halves, and none has a fault. A router is kind 1 and its ID, a link
-- kind 2, its places and its cost, which it has both ways; a limit kind 8 and K; routers get places and links numbers by turn, the last K stands, and
-- K is 3 if there is none (02, #101). A half is kind 4, its sender, where it sends to and its cost (02, #105). If its opposite is not among the lone
-- halves, it is lone; if it is, that one is lone no more, and both make a link, which gets its number then: its first place is the sender of the half
-- that was there, and each end has the cost of its own half.
pub data BytesList : List ℕ → StreamListing → Type 0 where
  nothing : BytesList [] (record { contents = record { ids = []; links = []; limit = 3 }; lone = [] })
  router : {s : List ℕ} {p : StreamListing} (a b e f : ℕ) → fault p (record_of.Router (four_bytes a b e f)) ≡ 0 → BytesList s p →
      BytesList (s ++ (1 ∷ a ∷ b ∷ e ∷ f ∷ []))
      (record {
        contents = record { ids = p.contents.ids ++ (four_bytes a b e f ∷ []); links = p.contents.links; limit = p.contents.limit };
        lone = p.lone;
      })
  link : {s : List ℕ} {p : StreamListing} (u v e f : ℕ) → fault p (record_of.Link (half_of u v (two_bytes e f))) ≡ 0 → BytesList s p →
      BytesList (s ++ (2 ∷ u ∷ v ∷ e ∷ f ∷ []))
      (record {
        contents =
            record {
              ids = p.contents.ids;
              links = p.contents.links ++ (link_at u v (two_bytes e f) (two_bytes e f) ∷ []);
              limit = p.contents.limit;
            };
        lone = p.lone;
      })
  first-half : {s : List ℕ} {p : StreamListing} (u v e f : ℕ) → fault p (record_of.Half (half_of u v (two_bytes e f))) ≡ 0 →
      ((cost : ℕ) → Memᴰ (half_of v u cost) p.lone → ⊥) → BytesList s p →
      BytesList (s ++ (4 ∷ u ∷ v ∷ e ∷ f ∷ [])) (record { contents = p.contents; lone = p.lone ++ (half_of u v (two_bytes e f) ∷ []) })
  second-half : {s : List ℕ} {p : StreamListing} (u v e f : ℕ) → fault p (record_of.Half (half_of u v (two_bytes e f))) ≡ 0 →
      (before : List Half) (cost : ℕ) (after : List Half) → p.lone ≡ before ++ (half_of v u cost ∷ after) → BytesList s p →
      BytesList (s ++ (4 ∷ u ∷ v ∷ e ∷ f ∷ []))
      (record {
        contents =
            record {
              ids = p.contents.ids;
              links = p.contents.links ++ (link_at v u cost (two_bytes e f) ∷ []);
              limit = p.contents.limit;
            };
        lone = before ++ after;
      })
  limit : {s : List ℕ} {p : StreamListing} (k : ℕ) → fault p (record_of.Limit k) ≡ 0 → BytesList s p →
      BytesList (s ++ (8 ∷ k ∷ []))
      (record { contents = record { ids = p.contents.ids; links = p.contents.links; limit = k }; lone = p.lone })

-- 01, Refusals: what a refused reading returns
abbrev pub refused : ℕ → ℕ → Reading
refused number at = record { answer = answer number at; topology = all_zeros }

-- 01, Topology stream: the bytes of one record of kind 1, 2, 4 or 8, its whole body among them, and what they say
pub data RecordBytes : List ℕ → Record → Type 0 where
  router : (a b e f : ℕ) → RecordBytes (1 ∷ a ∷ b ∷ e ∷ f ∷ []) (record_of.Router (four_bytes a b e f))
  link : (u v e f : ℕ) → RecordBytes (2 ∷ u ∷ v ∷ e ∷ f ∷ []) (record_of.Link (half_of u v (two_bytes e f)))
  half : (u v e f : ℕ) → RecordBytes (4 ∷ u ∷ v ∷ e ∷ f ∷ []) (record_of.Half (half_of u v (two_bytes e f)))
  limit : (k : ℕ) → RecordBytes (8 ∷ k ∷ []) (record_of.Limit k)

-- 01, Refusals, 1: how a stream goes on that ends without an end record: not at all, or with a kind and a part of its body
pub data CutShort : List ℕ → Type 0 where
  no_record : CutShort []
  router : (body : List ℕ) → length body < 4 → CutShort (1 ∷ body)
  link : (body : List ℕ) → length body < 4 → CutShort (2 ∷ body)
  half : (body : List ℕ) → length body < 4 → CutShort (4 ∷ body)
  limit : CutShort (8 ∷ [])

-- 01, Refusals, 2: a kind that no record has
abbrev pub UnknownKind : ℕ → Type 0
UnknownKind kind = (kind ≢ 1) × (kind ≢ 2) × (kind ≢ 3) × (kind ≢ 4) × (kind ≢ 8)

-- 01, Refusals: records are taken in turn and the first fault ends the reading, at its record. Bytes that list so go on in one of these ways:
-- they end or the next record is cut short (1), or it is of an unknown kind (2), has a fault, or is the end record.
pub record NextRecord (s : List ℕ) (p : StreamListing) : Type 0 where
  pub cut-short : (rest : List ℕ) → CutShort rest → reading (s ++ rest) ≡ refused 1 (length s)
  pub unknown : (kind : ℕ) → UnknownKind kind → (rest : List ℕ) → reading (s ++ (kind ∷ rest)) ≡ refused 2 (length s)
  pub faulty : (bytes : List ℕ) (r : Record) → RecordBytes bytes r → (number : ℕ) → fault p r ≡ suc number → (rest : List ℕ) →
      reading (s ++ (bytes ++ rest)) ≡ refused (suc number) (length s)
  -- the lone halves are dropped
  pub end : reading (s ++ (3 ∷ [])) ≡ ended false (length s) p.contents
  pub end_followed : (byte : ℕ) (rest : List ℕ) → reading (s ++ (3 ∷ byte ∷ rest)) ≡ ended true (length s) p.contents

abbrev pub ReadsInTurn : Type 0
ReadsInTurn = (s : List ℕ) (p : StreamListing) → BytesList s p → NextRecord s p

-- 01, Refusals, the table: what each answer of a reading means and where it points, if and only if. The stream begins with bytes s that list p without a
-- fault. Behind them it ends, or ends inside a body (1); or the next record has an unknown kind (2), or a fault, whose numbers `FaultsEach` spells out; or the
-- end record comes: a byte follows it (11), or none does and no router is listed (12), or one is: then the topology of p is returned, without lone halves.
pub record ReadSays (stream : List ℕ) (at : ℕ) : Type 0 where
  pub says_0 : (t : Topology) → (reading stream ≡ record { answer = answer 0 at; topology = t }) ↔
      ((at ≡ 0) × ((s : List ℕ) × (p : StreamListing) ×
      BytesList s p × (stream ≡ s ++ (3 ∷ [])) × (0 < length p.contents.ids) × (t ≡ listed_in p.contents)))
  pub says_1 : (reading stream ≡ refused 1 at) ↔
      ((s : List ℕ) × (p : StreamListing) × (rest : List ℕ) × BytesList s p × (stream ≡ s ++ rest) × (at ≡ length s) × CutShort rest)
  pub says_2 : (reading stream ≡ refused 2 at) ↔
      ((s : List ℕ) × (p : StreamListing) × (kind : ℕ) × (rest : List ℕ) × BytesList s p × (stream ≡ s ++ (kind ∷ rest)) × (at ≡ length s) × UnknownKind kind)
  pub says_fault : (number : ℕ) → Memᴰ number (3 ∷ 4 ∷ 5 ∷ 6 ∷ 7 ∷ 8 ∷ 9 ∷ 10 ∷ 16 ∷ []) → (reading stream ≡ refused number at) ↔
      ((s : List ℕ) × (p : StreamListing) × (bytes : List ℕ) × (r : Record) × (rest : List ℕ) ×
      BytesList s p × (stream ≡ s ++ (bytes ++ rest)) × (at ≡ length s) × RecordBytes bytes r × (fault p r ≡ number))
  pub says_11 : (reading stream ≡ refused 11 at) ↔
      ((s : List ℕ) × (p : StreamListing) × (byte : ℕ) × (rest : List ℕ) × BytesList s p × (stream ≡ s ++ (3 ∷ byte ∷ rest)) × (at ≡ length s + 1))
  pub says_12 : (reading stream ≡ refused 12 at) ↔
      ((s : List ℕ) × (p : StreamListing) × BytesList s p × (stream ≡ s ++ (3 ∷ [])) × (at ≡ length s) × (length p.contents.ids ≡ 0))

abbrev pub ReadAnswers : Type 0
ReadAnswers = (stream : List ℕ) (at : ℕ) → ReadSays stream at
