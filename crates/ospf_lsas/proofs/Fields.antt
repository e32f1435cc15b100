-- A field of an LSA or a link is the number that the bytes at its offset say.
-- Assumes nothing.
use Prim.Native.Nat.{ℕ, ◌≤◌}
use mathlib.Core.List.{List}
use mathlib.Core.Path.{◌≡◌, refl}
use native.Mathlib.Omega.{arith}
use lib.ListN.{length, get_or, take}
use Rattle.stream_rules.specs.Stream.{big_endian}
use Rattle.stream_rules.proofs.Stream.{two-at, four-at}
use Rattle.ospf_lsas.specs.Lsa.{ls_type, advertising_router, checksum, length_field, link_count, link_in}
use Rattle.stream_rules.specs.Theorems.{two_at, four_at}
use Rattle.ospf_lsas.specs.Theorems.{FieldsEach}

pub fields_each : FieldsEach
unfolding ls_type advertising_router checksum length_field link_count
fields_each s h =
    record {
      ls-type = refl;
      advertising-router = four-at s 8 (omega arith);
      ls_checksum = two-at s 16 (omega arith);
      ls_length = two-at s 18 (omega arith);
      link-count = two-at s 22 (omega arith);
    }

pub link_is : (s : List ℕ) → 12 ≤ length s → link_in s ≡ record { id = four_at s 0; kind = get_or s 8 0; metric = two_at s 10 }
unfolding link_in
link_is s h = rw (four-at s 0 (omega arith), two-at s 10 (omega arith))

-- the same with the Link ID as its bytes are read
pub link_reads : (s : List ℕ) → 12 ≤ length s → link_in s ≡ record { id = big_endian (take 4 s); kind = get_or s 8 0; metric = two_at s 10 }
unfolding link_in
link_reads s h = rw (two-at s 10 (omega arith)) refl
