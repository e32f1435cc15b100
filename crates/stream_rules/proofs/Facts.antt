-- The prover computes every fact from the definitions. The routers and links that the streams of `at_limits` begin with are read once, by `BytesList`.
-- Assumes nothing.
use Prim.Native.Nat.{ℕ, suc, ◌+◌, ◌/◌, ◌%◌}
use mathlib.Core.Bool.{Bool, true, ◌&&◌}
use mathlib.Core.List.{List, [], ◌∷◌, ◌++◌, append-nil, append_assoc}
use mathlib.Core.List.Memᴰ
use mathlib.Core.List.{Memᴰ}
use mathlib.Core.Path.{◌≡◌, refl, ap}
use native.Mathlib.Omega.{arith}
use lib.Dec.{T, eqb, eqb→eq}
use lib.ListN.{take}
use Rattle.network.specs.Lists.{numbers_from, below, every, member, same_numbers}
use Rattle.network.proofs.Tests.{both}
use Rattle.topology_types.specs.declared.Half.{Half}
use Rattle.topology_types.specs.Topology.{no_link, padded, contents, held, zeros}
use Rattle.topology_sound.specs.Sound.{within}
use Rattle.stream_rules.specs.Record.{Record}
use Rattle.stream_rules.specs.Record as record_of
use Rattle.stream_rules.specs.Halves.{StreamListing, first_half, second_half, link_halves, halves, same_half, leaves, opposite, link_of}
use Rattle.stream_rules.specs.Stream.{big_endian_on, big_endian, body_length, half_in, decoded, record_in, records}
use Rattle.stream_rules.specs.Reading.{refusal, accepted_reading, router_fault_lem, repeated, crowded, halves_fault_lem, fault, with_router, with_link, with_limit}
use Rattle.stream_rules.specs.Reading.{arrived, added, width, is_end, ended, unless, any_record?}
use Rattle.stream_rules.specs.Reading.{in_turn, nothing_listed, reading}
use Rattle.stream_rules.specs.Facts.{same_links, answers, holding, claim_holds, holds, reads, one, two, three, T-stream, in_sequence, routers}
use Rattle.stream_rules.specs.Facts.{hub, sent, received, exchanged, ring, at_limits, facts, FactsHold}
use Rattle.stream_rules.specs.Theorems.{four_bytes, two_bytes, half_of, BytesList, refused, RecordBytes}
use Rattle.stream_rules.proofs.InTurn.{reads_in_turn}

-- records, one after the other, none with a fault: what they add, and that they are listed
module _ (r : ℕ → Record) where
  unfoldable clean : StreamListing → List ℕ → Bool
  clean c [] = true
  clean c (x ∷ xs) = eqb (fault c (r x)) 0 && clean (added c (r x)) xs

  unfoldable after : StreamListing → List ℕ → StreamListing
  after c [] = c
  after c (x ∷ xs) = after (added c (r x)) xs

  module _
      (bytes : ℕ → List ℕ)
      (one : (x : ℕ) (s : List ℕ) (c : StreamListing) → fault c (r x) ≡ 0 → BytesList s c → BytesList (s ++ bytes x) (added c (r x)))
    where
      listed : (xs s : List ℕ) (c : StreamListing) → T (clean c xs) → BytesList s c → BytesList (s ++ in_sequence bytes xs) (after c xs)
      unfolding clean after in_sequence
      listed [] s c t l = rw append-nil l
      listed (x ∷ xs) s c t l =
          let (here, rest) = both (eqb (fault c (r x)) 0) (clean (added c (r x)) xs) t in
          rw (← append_assoc s (bytes x) (in_sequence bytes xs)) (listed xs (s ++ bytes x) (added c (r x)) rest (one x s c (eqb→eq _ _ here) l))

-- the routers of `at_limits`, by ID, and its links, by number: eight from each place
abbrev router_at : ℕ → Record
router_at id = record_of.Router (four_bytes 0 0 0 id)

abbrev link_record : ℕ → Record
link_record k = record_of.Link (half_of (k / 8) ((k / 8 + (k % 8 + 1)) % 64) 1)

-- all but the last of them
unfoldable almost : StreamListing
almost = after link_record (after router_at nothing_listed (below 64)) (below 255)

-- each of them is tested once
routers_listed : BytesList (in_sequence (λ id. 1 ∷ 0 ∷ 0 ∷ 0 ∷ id ∷ []) (below 64)) (after router_at nothing_listed (below 64))
unfolding numbers_from below member router_fault_lem fault with_router added nothing_listed clean after
routers_listed = listed router_at _ (λ id s c ok l. BytesList.router 0 0 0 id ok l) (below 64) [] nothing_listed tt BytesList.nothing

abbrev bytes : List ℕ
bytes = in_sequence (λ id. 1 ∷ 0 ∷ 0 ∷ 0 ∷ id ∷ []) (below 64) ++ in_sequence (λ k. 2 ∷ k / 8 ∷ (k / 8 + (k % 8 + 1)) % 64 ∷ 0 ∷ 1 ∷ []) (below 255)

almost_listed : BytesList bytes almost
unfolding numbers_from below member link_halves first_half second_half halves same_half leaves opposite link_of
    router_fault_lem repeated crowded halves_fault_lem fault with_router with_link added nothing_listed clean after almost
almost_listed = listed link_record _ (λ k s c ok l. BytesList.link _ _ 0 1 ok l) (below 255) _ _ tt routers_listed

-- the 256th link, or a half in its place and another
full_listed : BytesList (bytes ++ (2 ∷ 31 ∷ 39 ∷ 0 ∷ 1 ∷ [])) (added almost (record_of.Link (half_of 31 39 1)))
unfolding numbers_from below member link_halves first_half second_half halves same_half leaves opposite link_of
    router_fault_lem repeated crowded halves_fault_lem fault with_router with_link added nothing_listed after almost
full_listed = BytesList.link 31 39 0 1 refl almost_listed

half_listed : BytesList (bytes ++ (4 ∷ 31 ∷ 39 ∷ 0 ∷ 1 ∷ [])) (added almost (record_of.Half (half_of 31 39 1)))
unfolding numbers_from below member link_halves first_half second_half halves same_half leaves opposite link_of
    router_fault_lem repeated crowded halves_fault_lem fault with_router with_link arrived added nothing_listed after almost
half_listed = BytesList.first-half 31 39 0 1 refl (λ cost m. Memᴰ.not-nil m) almost_listed

-- one record more is refused with its fault's number
module _ (u v e f number : ℕ) where
  full_refuses_link : fault (added almost (record_of.Link (half_of 31 39 1))) (record_of.Link (half_of u v (two_bytes e f))) ≡ suc number →
      reading (routers 64 ++ (take 1280 ring ++ (2 ∷ u ∷ v ∷ e ∷ f ∷ []))) ≡ refused (suc number) 1600
  unfolding numbers_from below in_sequence routers ring
  full_refuses_link h = (reads_in_turn _ _ full_listed).faulty _ _ (RecordBytes.link u v e f) number h []

  full_refuses_half : fault (added almost (record_of.Link (half_of 31 39 1))) (record_of.Half (half_of u v (two_bytes e f))) ≡ suc number →
      reading (routers 64 ++ (take 1280 ring ++ (4 ∷ u ∷ v ∷ e ∷ f ∷ []))) ≡ refused (suc number) 1600
  unfolding numbers_from below in_sequence routers ring
  full_refuses_half h = (reads_in_turn _ _ full_listed).faulty _ _ (RecordBytes.half u v e f) number h []

  half_refuses_link : fault (added almost (record_of.Half (half_of 31 39 1))) (record_of.Link (half_of u v (two_bytes e f))) ≡ suc number →
      reading (routers 64 ++ (take 1275 ring ++ (4 ∷ 31 ∷ 39 ∷ 0 ∷ 1 ∷ 2 ∷ u ∷ v ∷ e ∷ f ∷ []))) ≡ refused (suc number) 1600
  unfolding numbers_from below in_sequence routers ring
  half_refuses_link h = (reads_in_turn _ _ half_listed).faulty _ _ (RecordBytes.link u v e f) number h []

other : (cost : ℕ) → Memᴰ (half_of 60 50 cost) (half_of 31 39 1 ∷ []) → ⊥
other cost m = let same = ap (λ (h : Half). h.from.0) (Memᴰ.eq_of_singleton m) in omega (arith, same)

-- the 512th half, and one more
halves-listed : BytesList ((bytes ++ (4 ∷ 31 ∷ 39 ∷ 0 ∷ 1 ∷ [])) ++ (4 ∷ 50 ∷ 60 ∷ 0 ∷ 1 ∷ []))
    (added (added almost (record_of.Half (half_of 31 39 1))) (record_of.Half (half_of 50 60 1)))
unfolding numbers_from below member link_halves first_half second_half halves same_half leaves opposite link_of
    router_fault_lem repeated crowded halves_fault_lem fault with_router with_link arrived added nothing_listed after almost
halves-listed = BytesList.first-half 50 60 0 1 refl other half_listed

half_513 : reading (routers 64 ++ (take 1275 ring ++ (4 ∷ 31 ∷ 39 ∷ 0 ∷ 1 ∷ 4 ∷ 50 ∷ 60 ∷ 0 ∷ 1 ∷ 4 ∷ 60 ∷ 50 ∷ 0 ∷ 1 ∷ []))) ≡ refused 9 1605
unfolding numbers_from below member link_halves first_half second_half halves same_half leaves opposite link_of
    router_fault_lem repeated crowded halves_fault_lem fault with_router with_link arrived added nothing_listed after almost in_sequence routers ring
half_513 = (reads_in_turn _ _ halves-listed).faulty _ _ (RecordBytes.half 60 50 0 1) 8 refl []

-- the 257th link of the ring
ring_cut : reading (routers 64 ++ take 1285 ring) ≡ refused 9 1600
unfolding numbers_from below member link_halves first_half second_half halves same_half leaves opposite link_of
    router_fault_lem repeated crowded halves_fault_lem fault with_router with_link added nothing_listed after almost in_sequence ring
ring_cut = full_refuses_link 32 33 0 1 8 refl

facts_computed : T (every holds facts)
unfolding numbers_from below member no_link padded contents held zeros within
    big_endian_on big_endian body_length half_in decoded record_in records
    link_halves first_half second_half halves same_half leaves opposite link_of
    refusal accepted_reading router_fault_lem repeated crowded halves_fault_lem fault with_router with_link with_limit arrived added
    width is_end ended unless any_record? in_turn nothing_listed reading
    same_numbers same_links answers holding claim_holds holds reads one two three T-stream in_sequence routers hub sent received exchanged ring facts
facts_computed = tt

pub facts_hold : FactsHold
unfolding numbers_from below member link_halves first_half second_half halves same_half leaves opposite link_of
    router_fault_lem repeated crowded halves_fault_lem fault with_router with_link arrived added nothing_listed after almost
    at_limits holds claim_holds reads answers
facts_hold =
    rw (
      full_refuses_link 31 50 0 0 6 refl,
      full_refuses_link 0 1 0 1 7 refl,
      ring_cut,
      full_refuses_link 31 50 0 1 8 refl,
      full_refuses_half 31 50 0 0 6 refl,
      full_refuses_half 1 0 0 1 7 refl,
      full_refuses_half 31 50 0 1 8 refl,
      half_refuses_link 50 60 0 1 8 refl,
      half_513,
    ) facts_computed
