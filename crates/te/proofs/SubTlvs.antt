-- What the bytes from a sub-TLV's first byte on say, by the tests that they pass; and where its fields lie.
-- Assumes nothing.
use Prim.Native.Nat.{ℕ, ◌+◌, ◌*◌, ◌/◌, ◌≤◌, ◌<◌}
use mathlib.Core.List.{List}
use mathlib.Core.Logic.{◌≢◌}
use mathlib.Core.Path.{◌≡◌, refl}
use native.Mathlib.Omega.{arith}
use borrow.Author.Tests.{eq-eqb, ne_eqb, le-leb, lt-leb, le-ltb, lt-ltb}
use lib.ListN.{length, get_or, take, drop}
use Rattle.stream_rules.specs.Stream.{big_endian}
use Rattle.te.specs.SubTlvs.{Refused, Skipped}
use Rattle.te.specs.SubTlvs.{type_of, length_of, span_of, cut_short, number_in, case_of, judged, sub_in}
use Rattle.stream_rules.proofs.Stream.{two-at}

-- the number in the two bytes from an offset on
abbrev pub two : List ℕ → ℕ → ℕ
two s at = get_or s at 0 * 256 + get_or s (at + 1) 0

module _ (s : List ℕ) where
  module _ (h : 4 ≤ length s) where
    pub type_at : type_of s ≡ two s 0
    unfolding type_of
    type_at = two-at s 0 (omega arith)

    pub length_at : length_of s ≡ two s 2
    unfolding length_of
    length_at = two-at s 2 h

    pub span-at : span_of s ≡ 4 + (two s 2 + 3) / 4 * 4
    unfolding span_of
    span-at = rw length_at refl

  pub number-at : number_in s ≡ big_endian (take 4 (drop 4 s))
  unfolding number_in
  number-at = refl

module _ (s : List ℕ) where
  pub header_cut : length s < 4 → Refused 29 ≡ sub_in s
  unfolding sub_in cut_short
  header_cut h = rw (lt-ltb (length s) 4 h) refl

  module _ (header : 4 ≤ length s) where
    pub value_cut : length s < span_of s → Refused 29 ≡ sub_in s
    unfolding sub_in cut_short
    value_cut h = rw (le-ltb (length s) 4 header, lt-ltb (length s) (span_of s) h) refl

    module _ (whole : span_of s ≤ length s) where
      pub low : type_of s < 5 → Skipped ≡ sub_in s
      unfolding sub_in cut_short
      low h = rw (le-ltb (length s) 4 header, le-ltb (length s) (span_of s) whole, lt-leb 5 (type_of s) h) refl

      module _ (from : 5 ≤ type_of s) where
        pub high : 7 < type_of s → Skipped ≡ sub_in s
        unfolding sub_in cut_short
        high h = rw (le-ltb (length s) 4 header, le-ltb (length s) (span_of s) whole, le-leb 5 (type_of s) from, lt-leb (type_of s) 7 h) refl

        module _ (to : type_of s ≤ 7) where
          pub wrong_length : length_of s ≢ 4 → Refused 29 ≡ sub_in s
          unfolding sub_in cut_short
          wrong_length h =
              rw (le-ltb (length s) 4 header, le-ltb (length s) (span_of s) whole, le-leb 5 (type_of s) from, le-leb (type_of s) 7 to, ne_eqb (length_of s) 4 h)
              refl

          pub right_length : length_of s ≡ 4 → judged (case_of (type_of s) (number_in s)) ≡ sub_in s
          unfolding sub_in cut_short
          right_length h =
              rw (le-ltb (length s) 4 header, le-ltb (length s) (span_of s) whole, le-leb 5 (type_of s) from, le-leb (type_of s) 7 to, eq-eqb (length_of s) 4 h)
              refl

    -- a whole one of type 5, 6 or 7 and of length 4, by its type and its number
    pub in_all : {kind number : ℕ} → type_of s ≡ kind → number_in s ≡ number → span_of s ≤ length s → 5 ≤ kind → kind ≤ 7 → length_of s ≡ 4 →
        judged (case_of kind number) ≡ sub_in s
    in_all k n whole from to l = rw (← k, ← n) (right_length whole (omega arith) (omega arith) l)
