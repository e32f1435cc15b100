-- The routers and halves of a file, written as records of a stream, are read as they are taken, so that an import with number 0 is a reading.
-- Assumes nothing.
use Prim.Native.Nat.{ℕ, ◌+◌}
use mathlib.Core.Bool.{Bool, true, false, cond}
use mathlib.Core.List.Memᴰ
use mathlib.Core.List.{List, [], ◌∷◌, ◌++◌, map, map-append, append_assoc}
use mathlib.Core.Path.{◌≡◌, refl, sym, ap, ap₂, ◌∙◌}
use native.Mathlib.Omega.{arith}
use lib.Dec.{eqb}
use lib.ListN.{length}
use Rattle.topology_types.specs.declared.Half.{Half}
use Rattle.topology_types.specs.Topology.{Contents}
use Rattle.topology_sound.specs.Sound.{within}
use Rattle.stream_rules.specs.declared.Reading.{Reading}
use Rattle.stream_rules.specs.Record.{Record}
use Rattle.stream_rules.specs.Record as record_of
use Rattle.stream_rules.specs.Halves.{StreamListing}
use Rattle.stream_rules.specs.Stream.{records}
use Rattle.stream_rules.specs.Reading.{refusal, accepted_reading, fault, with_limit, added, width, is_end, ended, unless, any_record?, in_turn, nothing_listed, reading}
use Rattle.stream_rules.proofs.InTurn.{next_limit, next_end, goes_on}
use Rattle.topology.specs.Written.{joined_over, router_bytes, half_bytes}
use Rattle.topology.proofs.Joined.{joined_behind}
use Rattle.topology.proofs.Rewritten.{router_record, half-bytes, each_record}
use Rattle.ospf_lsas.specs.Lsa.{Lsa, lsas}
use Rattle.ospf.specs.Import.{Placed, router_of, router_in, half_placed, halves_at, halves_in, placed_in}
use Rattle.ospf.specs.Theorems.{Taken, nothing, one_more, all_halves, stream_of, ImportReads}
use Rattle.ospf.proofs.Plain.{Plain, router, half, no_end}
use Rattle.ospf.proofs.Listed.{AllPlain}
use Rattle.ospf.proofs.Verdict.{ended_so}

-- the bytes of a router's record, or a half's
unfoldable bytes_of : Record → List ℕ
bytes_of (record_of.Router id) = router_bytes id
bytes_of (record_of.Link h) = []
bytes_of (record_of.Half h) = half_bytes h
bytes_of (record_of.Limit k) = []
bytes_of record_of.End = []
bytes_of (record_of.Refused number) = []

abbrev placed_bytes : Placed → List ℕ
placed_bytes r = bytes_of r.found

router-bytes : (ls : List Lsa) → joined_over placed_bytes (map router_in ls) ≡ joined_over router_bytes (map router_of ls)
unfolding joined_over router_in bytes_of
router-bytes [] = refl
router-bytes (l ∷ ls) = ap (λ (s : List ℕ). router_bytes (router_of l) ++ s) (router-bytes ls)

halves_bytes : (l : Lsa) (hs : List Half) → joined_over placed_bytes (map (half_placed l) hs) ≡ joined_over half_bytes hs
unfolding joined_over half_placed bytes_of
halves_bytes l [] = refl
halves_bytes l (h ∷ hs) = ap (λ (s : List ℕ). half_bytes h ++ s) (halves_bytes l hs)

all_bytes : (ids : List ℕ) (place : ℕ) (ls : List Lsa) → joined_over placed_bytes (halves_in ids place ls) ≡ joined_over half_bytes (all_halves ids place ls)
unfolding joined_over halves_in all_halves halves_at
all_bytes ids place [] = refl
all_bytes ids place (l ∷ ls) =
    joined_behind placed_bytes (map (half_placed l) (halves_at ids place l)) (halves_in ids (place + 1) ls)
    ∙ ap₂ (λ (x y : List ℕ). x ++ y) (halves_bytes l (halves_at ids place l)) (all_bytes ids (place + 1) ls)
    ∙ sym (joined_behind half_bytes (halves_at ids place l) (all_halves ids (place + 1) ls))

stream_is : (ls : List Lsa) → stream_of ls ≡ 8 ∷ 3 ∷ (joined_over placed_bytes (placed_in ls) ++ (3 ∷ []))
unfolding stream_of placed_in router_of
stream_is ls =
    let routers = map router_in ls in
    let halves = halves_in (map router_of ls) 0 ls in
    ap (λ (s : List ℕ). 8 ∷ 3 ∷ s)
    (sym (append_assoc (joined_over router_bytes (map router_of ls)) (joined_over half_bytes (all_halves (map router_of ls) 0 ls)) (3 ∷ []))
    ∙ ap (λ (s : List ℕ). s ++ (3 ∷ []))
    (sym (joined_behind placed_bytes routers halves ∙ ap₂ (λ (x y : List ℕ). x ++ y) (router-bytes ls) (all_bytes (map router_of ls) 0 ls))))

-- the records of those bytes
founds : List Placed → List Record
founds rs = map (λ r. r.found) rs

placed_record : {r : Record} → Plain r → (after : List ℕ) → records 0 (bytes_of r ++ after) ≡ r ∷ records 0 after
unfolding bytes_of
placed_record (router id f) after = router_record id after f
placed_record (half h f) after = half-bytes h after f

singles : (rs : List Placed) → joined_over (λ r. r.found ∷ []) rs ≡ founds rs
unfolding joined_over founds
singles [] = refl
singles (r ∷ rs) = ap (λ (l : List Record). r.found ∷ l) (singles rs)

stream_records : (ls : List Lsa) → AllPlain (placed_in ls) → records 0 (stream_of ls) ≡ record_of.Limit 3 ∷ (founds (placed_in ls) ++ (record_of.End ∷ []))
unfolding records
stream_records ls plain =
    ap (records 0) (stream_is ls)
    ∙ next_limit 3 (joined_over placed_bytes (placed_in ls) ++ (3 ∷ []))
    ∙ ap (λ (rs : List Record). record_of.Limit 3 ∷ rs)
    (each_record placed_bytes (λ r. r.found ∷ []) (placed_in ls) (3 ∷ []) (λ r m after. placed_record (plain r m) after)
    ∙ ap₂ (λ (x y : List Record). x ++ y) (singles (placed_in ls)) (next_end []))

-- they are taken in turn as they are here
run : {rs : List Placed} {p : StreamListing} → Taken rs p → AllPlain rs → (at : ℕ) (rest : List Record) →
    (at' : ℕ) × (in_turn at nothing_listed (founds rs ++ rest) ≡ in_turn at' p rest)
unfolding founds nothing_listed
run nothing plain at rest = (at, refl)
run (one_more {rs} {p} r t e) plain at rest =
    let (at', so) = run t (λ q m. plain q (Memᴰ.append_left (r ∷ []) m)) at (r.found ∷ rest) in (
      at' + width r.found,
      ap (in_turn at nothing_listed) (ap (λ (l : List Record). l ++ rest) (map-append (λ q. q.found) rs (r ∷ [])) ∙ append_assoc (founds rs) (r.found ∷ []) rest)
          ∙ so ∙ goes_on at' p r.found rest e (no_end (plain r (Memᴰ.append_right rs (Memᴰ.head refl)))),
    )

-- where no test of the end refuses, it does not matter where it stands
same_end : (c : Contents) (at : ℕ) → (ended false 0 c).answer.number ≡ 0 → ended false 0 c ≡ ended false at c
unfolding ended refusal
same_end c at = cases (eqb (length c.ids) 0)
  where
    cases : (b : Bool) → (cond b (refusal 12 0) (accepted_reading c)).answer.number ≡ 0 → cond b (refusal 12 0) (accepted_reading c) ≡ cond b (refusal 12 at) (accepted_reading c)
    cases true e = absurd (omega (arith, e))
    cases false e = refl

-- record 8 with K 3 changes nothing
limit_first : (rs : List Record) → in_turn 0 nothing_listed (record_of.Limit 3 ∷ rs) ≡ in_turn 2 nothing_listed rs
unfolding in_turn unless fault is_end added with_limit nothing_listed width within
limit_first rs = refl

pub import_reads : ImportReads
unfolding reading in_turn unless fault is_end any_record?
import_reads file bytes z =
    let (p, plain, t, is) = ended_so file bytes z in
    let (at, so) = run t plain 2 (record_of.End ∷ []) in
    is
    ∙ same_end p.contents at (sym (ap (λ (x : Reading). x.answer.number) is) ∙ z)
    ∙ sym (ap (in_turn 0 nothing_listed) (stream_records (lsas file) plain) ∙ limit_first (founds (placed_in (lsas file)) ++ (record_of.End ∷ [])) ∙ so)
