-- Every stream begins with bytes that list something without a fault and goes on in one of six ways: record after record is listed, until one is cut short,
-- has an unknown kind or a fault, or is the end record.
-- Assumes nothing.
use Prim.Native.Nat.{ℕ, zero, suc, ◌+◌, ◌≤◌, ◌<◌}
use mathlib.Core.List.{List, [], ◌∷◌, ◌++◌, append_assoc}
use mathlib.Core.Logic.{inl, inr}
use mathlib.Core.Path.{◌≡◌, refl, sym, subst, ◌∙◌}
use native.Mathlib.Decide.{ℕ_discrete}
use native.Mathlib.Omega.{arith}
use lib.Dec.{T}
use lib.ListN.{length, length-append}
use Rattle.network.specs.Lists.{member}
use Rattle.stream_rules.specs.Record.{Record}
use Rattle.stream_rules.specs.Halves.{StreamListing}
use Rattle.stream_rules.specs.Reading.{fault}
use Rattle.stream_rules.specs.Theorems.{two_bytes, BytesList, RecordBytes, CutShort, UnknownKind}
use Rattle.stream_rules.proofs.Lone.{either_way}
use Rattle.stream_rules.proofs.Numbers.{faults, Met, met}

-- the way in which the stream goes on, by the number of its answer
pub data Way (stream : List ℕ) (at : ℕ) : ℕ → Type 0 where
  accepted : {s : List ℕ} {p : StreamListing} → at ≡ 0 → BytesList s p → stream ≡ s ++ (3 ∷ []) → 0 < length p.contents.ids → Way stream at 0
  cut : {s : List ℕ} {p : StreamListing} {rest : List ℕ} → BytesList s p → stream ≡ s ++ rest → at ≡ length s → CutShort rest → Way stream at 1
  unknown : {s : List ℕ} {p : StreamListing} (kind : ℕ) (rest : List ℕ) → BytesList s p → stream ≡ s ++ (kind ∷ rest) → at ≡ length s → UnknownKind kind →
      Way stream at 2
  faulty : {s : List ℕ} {p : StreamListing} {bytes : List ℕ} {r : Record} {number : ℕ} (rest : List ℕ) → BytesList s p → stream ≡ s ++ (bytes ++ rest) →
      at ≡ length s → RecordBytes bytes r → fault p r ≡ number → T (member number faults) → Way stream at number
  followed : {s : List ℕ} {p : StreamListing} (byte : ℕ) (rest : List ℕ) → BytesList s p → stream ≡ s ++ (3 ∷ byte ∷ rest) → at ≡ length s + 1 →
      Way stream at 11
  no_router : {s : List ℕ} {p : StreamListing} → BytesList s p → stream ≡ s ++ (3 ∷ []) → at ≡ length s → length p.contents.ids ≡ 0 → Way stream at 12

-- how bytes go on: by the kind of the next record and how much there is of its body
data Next : List ℕ → Type 0 where
  cut-short : {rest : List ℕ} → CutShort rest → Next rest
  no_kind : (kind : ℕ) (rest : List ℕ) → UnknownKind kind → Next (kind ∷ rest)
  whole : {bytes : List ℕ} {r : Record} (rest : List ℕ) → RecordBytes bytes r → Next (bytes ++ rest)
  the_end : (rest : List ℕ) → Next (3 ∷ rest)

by_four : (kind : ℕ) → ((body : List ℕ) → length body < 4 → CutShort (kind ∷ body)) → (make : ℕ → ℕ → ℕ → ℕ → Record) →
    ((a b e f : ℕ) → RecordBytes (kind ∷ a ∷ b ∷ e ∷ f ∷ []) (make a b e f)) → (body : List ℕ) → Next (kind ∷ body)
by_four kind short make full [] = cut-short (short [] (omega arith))
by_four kind short make full (a ∷ []) = cut-short (short (a ∷ []) (omega arith))
by_four kind short make full (a ∷ b ∷ []) = cut-short (short (a ∷ b ∷ []) (omega arith))
by_four kind short make full (a ∷ b ∷ e ∷ []) = cut-short (short (a ∷ b ∷ e ∷ []) (omega arith))
by_four kind short make full (a ∷ b ∷ e ∷ f ∷ rest) = whole rest (full a b e f)

next : (rest : List ℕ) → Next rest
next [] = cut-short CutShort.no_record
next (kind ∷ body) =
    elim (ℕ_discrete kind 1) [
      | yes e ↦ rw e (by_four 1 CutShort.router _ RecordBytes.router body)
      | no n1 ↦ elim (ℕ_discrete kind 2) [
        | yes e ↦ rw e (by_four 2 CutShort.link _ RecordBytes.link body)
        | no n2 ↦ elim (ℕ_discrete kind 3) [
          | yes e ↦ rw e (the_end body)
          | no n3 ↦ elim (ℕ_discrete kind 4) [
            | yes e ↦ rw e (by_four 4 CutShort.half _ RecordBytes.half body)
            | no n4 ↦ elim (ℕ_discrete kind 8) [
              | yes e ↦ rw e (by_one body)
              | no n8 ↦ no_kind kind body (n1, n2, n3, n4, n8)
            ]
          ]
        ]
      ]
    ]
  where
    by_one : (body : List ℕ) → Next (8 ∷ body)
    by_one [] = cut-short CutShort.limit
    by_one (k ∷ rest) = whole rest (RecordBytes.limit k)

-- a record without a fault lists something more
lists_more : {s : List ℕ} {p : StreamListing} {bytes : List ℕ} {r : Record} → BytesList s p → RecordBytes bytes r → fault p r ≡ 0 →
    (q : StreamListing) × BytesList (s ++ bytes) q
lists_more l (RecordBytes.router a b e f) ok = (_, BytesList.router a b e f ok l)
lists_more l (RecordBytes.link u v e f) ok = (_, BytesList.link u v e f ok l)
lists_more {p = p} l (RecordBytes.half u v e f) ok = elim (either_way p u v (two_bytes e f)) [
  | inl out ↦ (_, BytesList.first-half u v e f ok out l)
  | inr (before, c, after, is) ↦ (_, BytesList.second-half u v e f ok before c after is l)
]
lists_more l (RecordBytes.limit k) ok = (_, BytesList.limit k ok l)

some_bytes : {bytes : List ℕ} {r : Record} → RecordBytes bytes r → 0 < length bytes
some_bytes (RecordBytes.router a b e f) = omega arith
some_bytes (RecordBytes.link u v e f) = omega arith
some_bytes (RecordBytes.half u v e f) = omega arith
some_bytes (RecordBytes.limit k) = omega arith

module _ (stream : List ℕ) where
  abbrev Ways : Type 0
  Ways = (number : ℕ) × (at : ℕ) × Way stream at number

  -- it goes one of the ways here, or one record on
  step : {s : List ℕ} {p : StreamListing} {rest : List ℕ} → Next rest → BytesList s p → stream ≡ s ++ rest →
      ((s' : List ℕ) (q : StreamListing) (rest' : List ℕ) → length rest' < length rest → BytesList s' q → stream ≡ s' ++ rest' → Ways) → Ways
  step (cut-short c) l is on = (_, _, cut l is refl c)
  step (no_kind kind rest u) l is on = (_, _, unknown kind rest l is refl u)
  step {s} {p} (whole {bytes} {r} rest b) l is on = cases (fault p r) refl
    where
      cases : (number : ℕ) → fault p r ≡ number → Ways
      cases zero ok =
          let (q, more) = lists_more l b ok in
          on (s ++ bytes) q rest (omega (arith, length-append bytes rest, some_bytes b)) more (is ∙ sym (append_assoc s bytes rest))
      cases (suc number) e = (_, _, faulty rest l is refl b e (unfold Met in subst Met e (met p b)))
  step {p = p} (the_end []) l is on = elim (ℕ_discrete (length p.contents.ids) 0) [
    | yes none ↦ (_, _, no_router l is refl none)
    | no some ↦ (_, _, accepted refl l is (omega arith))
  ]
  step (the_end (byte ∷ rest)) l is on = (_, _, followed byte rest l is refl)

  ways : (most : ℕ) {s : List ℕ} {p : StreamListing} (rest : List ℕ) → length rest ≤ most → BytesList s p → stream ≡ s ++ rest → Ways
  ways zero rest few l is = step (next rest) l is (λ s q r h. absurd (omega arith))
  ways (suc most) rest few l is = step (next rest) l is (λ s q r h more then. ways most r (omega arith) more then)

pub way : (stream : List ℕ) → (number : ℕ) × (at : ℕ) × Way stream at number
way stream = ways stream (length stream) stream (omega arith) BytesList.nothing refl
