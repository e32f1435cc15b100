-- Bytes that list contents leave the reading at their end with those contents, record by record; what comes next is then one step of it.
-- Assumes nothing.
use Prim.Native.Nat.{ℕ, suc, ◌+◌, ◌<◌}
use mathlib.Core.Bool.{false}
use mathlib.Core.List.{List, [], ◌∷◌, ◌++◌, append_assoc}
use mathlib.Core.Logic.{◌≢◌}
use mathlib.Core.Path.{◌≡◌, refl, ap, ◌∙◌, subst}
use native.Mathlib.Nat.{zero-add}
use native.Mathlib.Omega.{arith}
use borrow.Author.Tests.{lt-ltb, le-ltb, ne_eqb}
use lib.ListN.{length, length-append}
use Rattle.topology_types.specs.declared.Half.{Half}
use Rattle.topology_types.specs.Topology.{no_link, padded, held, zeros}
use Rattle.stream_rules.specs.Record.{Record}
use Rattle.stream_rules.specs.Record as record_of
use Rattle.stream_rules.specs.Halves.{StreamListing, link_halves, halves, opposite, link_of}
use Rattle.stream_rules.specs.Stream.{big_endian_on, big_endian, body_length, half_in, decoded, record_in, records}
use Rattle.stream_rules.specs.Reading.{refusal, fault, with_router, with_link, with_limit, added, width, is_end, ended, unless, any_record?, in_turn, nothing_listed, reading}
use Rattle.stream_rules.specs.Theorems.{four_bytes, two_bytes, half_of, BytesList, refused, RecordBytes, CutShort, ReadsInTurn}
use Rattle.stream_rules.specs.Inner.{total}
use Rattle.stream_rules.proofs.Opposite.{Once}
use Rattle.stream_rules.proofs.Lone.{once_added, first_added, second_added}

-- the next record, by its bytes
pub next_router : (a b e f : ℕ) (rest : List ℕ) → records 0 (1 ∷ a ∷ b ∷ e ∷ f ∷ rest) ≡ record_of.Router (four_bytes a b e f) ∷ records 0 rest
unfolding records record_in decoded body_length big_endian big_endian_on
next_router a b e f rest =
    rw (le-ltb (length (a ∷ b ∷ e ∷ f ∷ rest)) 4 (omega arith))
    (ap (λ (x : ℕ). record_of.Router (four_bytes x b e f) ∷ records 0 rest) (zero-add a))

-- a body of four bytes as a half
half_is : (u v e f : ℕ) → half_in (u ∷ v ∷ e ∷ f ∷ []) ≡ half_of u v (two_bytes e f)
unfolding half_in big_endian big_endian_on
half_is u v e f = ap (λ (x : ℕ). half_of u v (two_bytes x f)) (zero-add e)

pub next_link : (u v e f : ℕ) (rest : List ℕ) →
    records 0 (2 ∷ u ∷ v ∷ e ∷ f ∷ rest) ≡ record_of.Link (half_of u v (two_bytes e f)) ∷ records 0 rest
unfolding records record_in decoded body_length
next_link u v e f rest =
    rw (le-ltb (length (u ∷ v ∷ e ∷ f ∷ rest)) 4 (omega arith)) (ap (λ (h : Half). record_of.Link h ∷ records 0 rest) (half_is u v e f))

pub next_half : (u v e f : ℕ) (rest : List ℕ) →
    records 0 (4 ∷ u ∷ v ∷ e ∷ f ∷ rest) ≡ record_of.Half (half_of u v (two_bytes e f)) ∷ records 0 rest
unfolding records record_in decoded body_length
next_half u v e f rest =
    rw (le-ltb (length (u ∷ v ∷ e ∷ f ∷ rest)) 4 (omega arith)) (ap (λ (h : Half). record_of.Half h ∷ records 0 rest) (half_is u v e f))

pub next_limit : (k : ℕ) (rest : List ℕ) → records 0 (8 ∷ k ∷ rest) ≡ record_of.Limit k ∷ records 0 rest
unfolding records record_in decoded body_length
next_limit k rest = rw (le-ltb (length (k ∷ rest)) 1 (omega arith)) refl

next-record : {bytes : List ℕ} {r : Record} → RecordBytes bytes r → (rest : List ℕ) → records 0 (bytes ++ rest) ≡ r ∷ records 0 rest
next-record (RecordBytes.router a b e f) = next_router a b e f
next-record (RecordBytes.link u v e f) = next_link u v e f
next-record (RecordBytes.half u v e f) = next_half u v e f
next-record (RecordBytes.limit k) = next_limit k

pub next_unknown : (kind : ℕ) → kind ≢ 1 → kind ≢ 2 → kind ≢ 3 → kind ≢ 4 → kind ≢ 8 → (rest : List ℕ) →
    records 0 (kind ∷ rest) ≡ record_of.Refused 2 ∷ records 0 rest
unfolding records record_in decoded body_length
next_unknown kind n1 n2 n3 n4 n8 rest =
    rw (ne_eqb kind 1 n1, ne_eqb kind 2 n2, ne_eqb kind 4 n4, ne_eqb kind 8 n8, ne_eqb kind 3 n3, le-ltb (length rest) 0 (omega arith))

pub next_cut : (kind : ℕ) (body : List ℕ) → length body < body_length kind → records 0 (kind ∷ body) ≡ record_of.Refused 1 ∷ records (body_length kind) body
unfolding records record_in
next_cut kind body h = rw (lt-ltb (length body) (body_length kind) h)

pub next_end : (rest : List ℕ) → records 0 (3 ∷ rest) ≡ record_of.End ∷ records 0 rest
unfolding records record_in decoded body_length
next_end rest = rw (le-ltb (length rest) 0 (omega arith))

-- it is taken, or it ends the reading
pub goes_on : (at : ℕ) (p : StreamListing) (r : Record) (rs : List Record) → fault p r ≡ 0 → is_end r ≡ false →
    in_turn at p (r ∷ rs) ≡ in_turn (at + width r) (added p r) rs
unfolding in_turn unless
goes_on at p r rs e f = rw (e, f)

stops : (at : ℕ) (p : StreamListing) (r : Record) (rs : List Record) (number : ℕ) → fault p r ≡ suc number → in_turn at p (r ∷ rs) ≡ refused (suc number) at
unfolding in_turn unless refusal zeros no_link held padded
stops at p r rs number e = rw e

ends : (at : ℕ) (p : StreamListing) (rs : List Record) → in_turn at p (record_of.End ∷ rs) ≡ ended (any_record? rs) at p.contents
unfolding in_turn unless fault is_end
ends at p rs = refl

module _ (s : List ℕ) (p : StreamListing) where
  -- after s the reading stands at its end with p
  abbrev Stands : Type 0
  Stands = (rest : List ℕ) → reading (s ++ rest) ≡ in_turn (length s) p (records 0 rest)

  one_more : (bytes : List ℕ) (r : Record) → ((rest : List ℕ) → records 0 (bytes ++ rest) ≡ r ∷ records 0 rest) → length bytes ≡ width r →
      fault p r ≡ 0 → is_end r ≡ false → {q : StreamListing} → added p r ≡ q → Stands → (rest : List ℕ) →
      reading ((s ++ bytes) ++ rest) ≡ in_turn (length (s ++ bytes)) q (records 0 rest)
  one_more bytes r is long ok more then stands rest =
      rw (append_assoc s bytes rest, stands (bytes ++ rest), is rest, goes_on (length s) p r (records 0 rest) ok more, then, length-append s bytes, long)

lists_once : {s : List ℕ} {p : StreamListing} → BytesList s p → Once (halves p)
unfolding added with_router with_link with_limit link_of opposite
lists_once BytesList.nothing = λ g. unfold halves link_halves total in omega arith
lists_once (BytesList.router {p = p} a b e f ok l) = once_added p (lists_once l) (record_of.Router (four_bytes a b e f)) ok
lists_once (BytesList.link {p = p} u v e f ok l) = once_added p (lists_once l) (record_of.Link (half_of u v (two_bytes e f))) ok
lists_once (BytesList.first-half {p = p} u v e f ok out l) =
    subst (λ (q : StreamListing). Once (halves q)) (first_added p u v (two_bytes e f) out) (once_added p (lists_once l) (record_of.Half (half_of u v (two_bytes e f))) ok)
lists_once (BytesList.second-half {p = p} u v e f ok before c after stands l) =
    let once = lists_once l in
    subst (λ (q : StreamListing). Once (halves q)) (second_added p u v (two_bytes e f) once before c after stands)
    (once_added p once (record_of.Half (half_of u v (two_bytes e f))) ok)
lists_once (BytesList.limit {p = p} k ok l) = once_added p (lists_once l) (record_of.Limit k) ok

stands : {s : List ℕ} {p : StreamListing} → BytesList s p → (rest : List ℕ) → reading (s ++ rest) ≡ in_turn (length s) p (records 0 rest)
unfolding reading nothing_listed added with_router with_link with_limit link_of opposite is_end width
stands BytesList.nothing rest = refl
stands (BytesList.router {s} {p} a b e f ok l) rest =
    one_more s p (1 ∷ a ∷ b ∷ e ∷ f ∷ []) (record_of.Router (four_bytes a b e f)) (next_router a b e f) refl ok refl refl (λ more. stands l more) rest
stands (BytesList.link {s} {p} u v e f ok l) rest =
    one_more s p (2 ∷ u ∷ v ∷ e ∷ f ∷ []) (record_of.Link (half_of u v (two_bytes e f))) (next_link u v e f) refl ok refl refl (λ more. stands l more) rest
stands (BytesList.first-half {s} {p} u v e f ok out l) rest =
    one_more s p (4 ∷ u ∷ v ∷ e ∷ f ∷ []) (record_of.Half (half_of u v (two_bytes e f))) (next_half u v e f) refl ok refl
    (first_added p u v (two_bytes e f) out) (λ more. stands l more) rest
stands (BytesList.second-half {s} {p} u v e f ok before c after is l) rest =
    one_more s p (4 ∷ u ∷ v ∷ e ∷ f ∷ []) (record_of.Half (half_of u v (two_bytes e f))) (next_half u v e f) refl ok refl
    (second_added p u v (two_bytes e f) (lists_once l) before c after is) (λ more. stands l more) rest
stands (BytesList.limit {s} {p} k ok l) rest = one_more s p (8 ∷ k ∷ []) (record_of.Limit k) (next_limit k) refl ok refl refl (λ more. stands l more) rest

module _ (s : List ℕ) (p : StreamListing) (l : BytesList s p) where
  -- the next record ends the reading there
  refuses : (bytes : List ℕ) (r : Record) (rs : List Record) (number : ℕ) → records 0 bytes ≡ r ∷ rs → fault p r ≡ suc number →
      reading (s ++ bytes) ≡ refused (suc number) (length s)
  refuses bytes r rs number is e = stands l bytes ∙ rw is (stops (length s) p r rs number e)

  end_here : (rest : List ℕ) → reading (s ++ (3 ∷ rest)) ≡ ended (any_record? (records 0 rest)) (length s) p.contents
  end_here rest = stands l (3 ∷ rest) ∙ rw (next_end rest) (ends (length s) p (records 0 rest))

  cut-short : (rest : List ℕ) → CutShort rest → reading (s ++ rest) ≡ refused 1 (length s)
  unfolding in_turn records refusal zeros no_link held padded fault body_length
  cut-short bytes CutShort.no_record = stands l []
  cut-short bytes (CutShort.router body h) = refuses _ _ _ 0 (next_cut 1 body h) refl
  cut-short bytes (CutShort.link body h) = refuses _ _ _ 0 (next_cut 2 body h) refl
  cut-short bytes (CutShort.half body h) = refuses _ _ _ 0 (next_cut 4 body h) refl
  cut-short bytes CutShort.limit = refuses _ _ _ 0 (next_cut 8 [] (omega arith)) refl

pub reads_in_turn : ReadsInTurn
unfolding fault any_record? records
reads_in_turn s p l = record {
  cut-short = cut-short s p l;
  unknown = λ kind (n1, n2, n3, n4, n8) rest. refuses s p l _ _ _ 1 (next_unknown kind n1 n2 n3 n4 n8 rest) refl;
  faulty = λ bytes r b number e rest. refuses s p l _ _ _ number (next-record b rest) e;
  end = end_here s p l [];
  end_followed = λ byte rest. end_here s p l (byte ∷ rest);
}
