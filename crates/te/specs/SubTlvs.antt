-- The sub-TLVs of a Link TLV's value, one after another (02, #108): what the bytes from one's first byte on say (RFC 3630, 2.3.2, 2.4.2 and 2.5).
-- Assumes nothing.
use Rattle.std.specs.Prelude.{ℕ, ◌+◌, ◌*◌, ◌/◌, Bool, true, false, cond, ◌&&◌, ◌||◌, List, eqb, leb, ltb, length, take, drop, Float}
use Rattle.std.specs.Float.{nan, inf, fin, binary32}
use Rattle.std.specs.Float.Ieee.{up, down, of_bits}
use Rattle.std.specs.Prelude.{Option, Some, None, Result, Ok, Err}
use Rattle.stream_rules.specs.Stream.{big_endian}
use Rattle.topology_types.specs.declared.Fault.{Fault}
use Rattle.topology_types.specs.Outcome.{number_of}
use Rattle.te.specs.declared.SubTlv.{SubTlv}
use Rattle.te.specs.declared.SubTlv.TheVariants.{TeMetric, MaxBandwidth, Reservable}

-- what a sub-TLV is: refused by a number, of another type and skipped, or one of the three cases
pub data Found : Type 0 where
  Refused : ℕ → Found
  Skipped : Found
  Is : SubTlv → Found

-- the same, by what the code makes of it
abbrev pub found_as : Result (Option SubTlv) Fault → Found
found_as (Ok (Some s)) = Is s
found_as (Ok None) = Skipped
found_as (Err f) = Refused (number_of f)

abbrev pub judged_as : Result SubTlv Fault → Found
judged_as (Ok s) = Is s
judged_as (Err f) = Refused (number_of f)

-- 2.3.2: type (2), length (2), then the value. Each definition takes the bytes from the sub-TLV's first byte on.

-- 2.3.2, type: 5 is the TE metric, 6 the maximum bandwidth, 7 the maximum reservable bandwidth (2.5.5 to 2.5.7)
unfoldable pub type_of : List ℕ → ℕ
type_of s = big_endian (take 2 s)

-- 2.3.2, length: that of the value, without padding
unfoldable pub length_of : List ℕ → ℕ
length_of s = big_endian (take 2 (drop 2 s))

-- 2.3.2: how many bytes it has in all, the header's 4 included and the value padded to a multiple of 4
unfoldable pub span_of : List ℕ → ℕ
span_of s = 4 + (length_of s + 3) / 4 * 4

-- 02, #108: cut short, in its header, its value or its padding
unfoldable pub cut_short : List ℕ → Bool
cut_short s = ltb (length s) 4 || ltb (length s) (span_of s)

-- the number in its first four bytes of value, big-endian
unfoldable pub number_in : List ℕ → ℕ
number_in s = big_endian (take 4 (drop 4 s))

-- 02, #108: a bandwidth is finite and not below 1. Where it is finite it is m times 2 to the e, and 2 to the e is up e over down e.
unfoldable pub usable : Float → Bool
usable nan = false
usable (inf s) = false
usable (fin true m e) = false
usable (fin false m e) = leb (down e) (m * up e)

-- 02, #108: one of the three cases that a sub-TLV is read as, by its type, 5, 6 or 7, and its number
unfoldable pub case_of : ℕ → ℕ → SubTlv
case_of kind number =
    cond (eqb kind 5) (TeMetric number) (cond (eqb kind 6) (MaxBandwidth (of_bits binary32 number)) (Reservable (of_bits binary32 number)))

-- 02, #108, 28: a bandwidth that is not finite, or below 1
unfoldable pub judged : SubTlv → Found
judged (TeMetric n) = Is (TeMetric n)
judged (MaxBandwidth x) = cond (usable x) (Is (MaxBandwidth x)) (Refused 28)
judged (Reservable x) = cond (usable x) (Is (Reservable x)) (Refused 28)

-- 02, #108: what the bytes begin with: 29 where it is cut short; 5, 6 and 7 have length 4, or 29; the others are skipped
unfoldable pub sub_in : List ℕ → Found
sub_in s =
    cond (cut_short s) (Refused 29)
    (cond (leb 5 (type_of s) && leb (type_of s) 7) (cond (eqb (length_of s) 4) (judged (case_of (type_of s) (number_in s))) (Refused 29)) Skipped)
