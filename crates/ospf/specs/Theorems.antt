-- What is proved of importing, over all bytes (02, #106).
-- Assumes nothing.
use Rattle.std.specs.Prelude.{ℕ, ◌+◌, ◌≤◌, ◌<◌, false, ◌↔◌, ◌≡◌, length}
use mathlib.Core.List.{List, [], ◌∷◌, ◌++◌, map, Memᴰ}
use Rattle.topology_types.specs.declared.Half.{Half}
use Rattle.topology_types.specs.Outcome.{answer}
use Rattle.stream_rules.specs.Record as record_of
use Rattle.stream_rules.specs.Halves.{StreamListing}
use Rattle.stream_rules.specs.Reading.{fault, added, reading}
use Rattle.stream_rules.specs.Theorems.{Bytes, Read, listed_in, four_at}
use Rattle.topology.specs.Written.{joined_over, router_bytes, half_bytes}
use Rattle.ospf_lsas.specs.Lsa.{advertising_router, links, malformed, wrong_sum, Lsa, lsas}
use Rattle.ospf_halves.specs.Neighbours.{all_of, halves_of}
use Rattle.ospf.specs.Import.{Placed, placed_in, importing}
use Rattle.ospf_lsas.specs.Theorems.{FirstFault}

-- 02, #106: these routers and halves, taken in turn, list so much, and none has a fault. Before the first nothing is listed, and K is 3. What each adds is the
-- definition `added` of `stream_rules`, which `BytesList` there spells out for the records of a stream.
pub data Taken : List Placed → StreamListing → Type 0 where
  nothing : Taken [] (record { contents = record { ids = []; links = []; limit = 3 }; lone = [] })
  one_more : {rs : List Placed} {p : StreamListing} (r : Placed) → Taken rs p → fault p r.found ≡ 0 → Taken (rs ++ (r ∷ [])) (added p r.found)

-- no LSA is malformed; and none has a wrong sum
abbrev pub AllWhole : List ℕ → Type 0
AllWhole file = (l : Lsa) → Memᴰ l (lsas file) → malformed l.bytes ≡ false

abbrev pub SumsRight : List ℕ → Type 0
SumsRight file = AllWhole file × ((l : Lsa) → Memᴰ l (lsas file) → wrong_sum l.bytes ≡ false)

-- 02, #106: LSA by LSA from a place on, the halves that each gives by its place and the Advertising Routers of the file, in the order of `FirstListed` of
-- `ospf_halves`; each points at the LSA's first byte
pub data HalvesInTurn (ids : List ℕ) : ℕ → List Lsa → List Placed → Type 0 where
  no_lsa : {place : ℕ} → HalvesInTurn ids place [] []
  next_lsa : {place : ℕ} {ls : List Lsa} {rs : List Placed} (l : Lsa) → HalvesInTurn ids (place + 1) ls rs →
      HalvesInTurn ids place (l ∷ ls) (map (λ h. record { at = l.at; found = record_of.Half h }) (halves_of ids place (all_of (links l.bytes))) ++ rs)

-- 02, #106: what is taken of a file without malformed LSAs: the routers LSA by LSA, each ID the Advertising Router, bytes 8 to 11, and then the halves
pub record RoutersThenHalves (file : List ℕ) : Type 0 where
  pub halves : List Placed
  pub routers_first : placed_in (lsas file) ≡ map (λ l. record { at = l.at; found = record_of.Router (four_at l.bytes 8) }) (lsas file) ++ halves
  pub then_halves : HalvesInTurn (map (λ l. four_at l.bytes 8) (lsas file)) 0 (lsas file) halves

abbrev pub PlacedInTurn : Type 0
PlacedInTurn = (file : List ℕ) → AllWhole file → RoutersThenHalves file

-- the first fault of what is taken in turn: its number, and the LSA's first byte
pub record FaultAt (rs : List Placed) (number at : ℕ) : Type 0 where
  pub before : List Placed
  pub r : Placed
  pub after : List Placed
  pub turn : rs ≡ before ++ (r ∷ after)
  pub listing : StreamListing
  pub taken : Taken before listing
  pub fails : fault listing r.found ≡ number
  pub there : r.at ≡ at

-- all is taken, and there is a router
pub record AllTaken (file : List ℕ) (p : StreamListing) : Type 0 where
  pub right : SumsRight file
  pub taken : Taken (placed_in (lsas file)) p
  pub some_router : 0 < length p.contents.ids

-- 02, #106: what each answer means and where it points, if and only if; the tests before it pass. 26 and 27 are of the first such LSA, as `LsasFormed` and
-- `RightSum` of `ospf_lsas` say; the fault of a router or a half is what `FaultsEach` of `stream_rules` says, and points at the LSA's first byte; of the numbers to 10
-- those that are none of `ImportNumbers` are never met. Nothing is asked of paths: files of routers whose parts are apart are imported (02, #107).
pub record ImportSays (file : List ℕ) (at : ℕ) : Type 0 where
  pub says_26 : ((importing file).answer ≡ answer 26 at) ↔ ((at < length file) × FirstFault malformed (length file) (lsas file) at)
  pub says_27 : ((importing file).answer ≡ answer 27 at) ↔ (AllWhole file × (at < length file) × FirstFault wrong_sum (length file) (lsas file) at)
  pub says_fault : (number : ℕ) → 1 ≤ number → number ≤ 10 → ((importing file).answer ≡ answer number at) ↔ (SumsRight file × FaultAt (placed_in (lsas file)) number at)
  pub says_12 : ((importing file).answer ≡ answer 12 at) ↔ ((at ≡ 0) × (file ≡ []))
  pub says_0 : ((importing file).answer ≡ answer 0 at) ↔ ((at ≡ 0) × ((p : StreamListing) × AllTaken file p))

abbrev pub ImportAnswers : Type 0
ImportAnswers = (file : List ℕ) (at : ℕ) → Bytes file → ImportSays file at

-- 02, #106: no other number is met; of a half, not 5 and not 8
abbrev pub ImportNumbers : Type 0
ImportNumbers = (file : List ℕ) → Bytes file →
    Memᴰ (importing file).answer.number (0 ∷ 3 ∷ 4 ∷ 6 ∷ 7 ∷ 9 ∷ 10 ∷ 12 ∷ 26 ∷ 27 ∷ [])

-- 02, #106: an import that is not refused returns what is listed in the end, without the lone halves: the Advertising Routers in file order, and K 3
pub record Returned (file : List ℕ) (p : StreamListing) : Type 0 where
  pub topology : (importing file).topology ≡ listed_in p.contents
  pub ids : p.contents.ids ≡ map (λ l. advertising_router l.bytes) (lsas file)
  pub limit : p.contents.limit ≡ 3

abbrev pub ImportReturns : Type 0
ImportReturns = (file : List ℕ) → Bytes file → (importing file).answer.number ≡ 0 →
    (p : StreamListing) × Taken (placed_in (lsas file)) p × Returned file p

-- 01, Refusals: an import with number 0 has at 0 and a sound topology; any other has the topology of all zeros
abbrev pub ImportSound : Type 0
ImportSound = (file : List ℕ) → Bytes file → Read (importing file)

-- the halves of the LSAs, in file order, the first of which is at a place
unfoldable pub all_halves : List ℕ → ℕ → List Lsa → List Half
all_halves ids place [] = []
all_halves ids place (l ∷ ls) = halves_of ids place (all_of (links l.bytes)) ++ all_halves ids (place + 1) ls

-- the stream of the routers and halves of a file: record 8 with K 3, record 1 for each router, record 4 for each half, and the end
unfoldable pub stream_of : List Lsa → List ℕ
stream_of ls =
    let ids = map (λ l. advertising_router l.bytes) ls in
    8 ∷ 3 ∷ (joined_over router_bytes ids ++ (joined_over half_bytes (all_halves ids 0 ls) ++ (3 ∷ [])))

-- 02, #106: an import with number 0 returns what reading that stream returns
abbrev pub ImportReads : Type 0
ImportReads = (file : List ℕ) → Bytes file → (importing file).answer.number ≡ 0 → importing file ≡ reading (stream_of (lsas file))
