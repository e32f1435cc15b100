-- Router-LSAs, one after another in a file (02, #106): their fields (RFC 2328, A.4.1 and A.4.2) and their checksums (12.1.7).
-- Assumes nothing.
use Rattle.std.specs.Prelude.{ℕ, zero, suc, ◌+◌, ◌-◌, ◌*◌, ◌%◌, Bool, true, false, cond, not, ◌&&◌, ◌||◌, List, [], ◌∷◌, eqb, leb, ltb, length, get_or, take, drop}
use Rattle.std.proofs.Math.Option.{Option, none, some}
use Rattle.stream_rules.specs.Stream.{big_endian}

-- A.4.1, the header's 20 bytes: LS age (2), options (1), LS type (1), Link State ID (4), Advertising Router (4), LS sequence number (4),
-- LS checksum (2), length (2). Each definition takes the bytes from the LSA's first byte on; other fields are untested (02, #106).

-- A.4.1, LS type: 1 is a router-LSA
unfoldable pub ls_type : List ℕ → ℕ
ls_type lsa = get_or lsa 3 0

-- A.4.1, Advertising Router: the Router ID of the router that the LSA comes from
unfoldable pub advertising_router : List ℕ → ℕ
advertising_router lsa = big_endian (take 4 (drop 8 lsa))

-- A.4.1, LS checksum
unfoldable pub checksum : List ℕ → ℕ
checksum lsa = big_endian (take 2 (drop 16 lsa))

-- A.4.1, length: that of the whole LSA, its header included
unfoldable pub length_field : List ℕ → ℕ
length_field lsa = big_endian (take 2 (drop 18 lsa))

-- A.4.2, after the header: flags (1), 0 (1), the number of links (2)
unfoldable pub link_count : List ℕ → ℕ
link_count lsa = big_endian (take 2 (drop 22 lsa))

-- A.4.2, a link: Link ID (4), Link Data (4), type (1), number of TOS (1), metric (2), then the TOS entries, of 4 bytes each. `kind` is its type: 1 to
-- another router, 2 to a transit network, 3 to a stub network, 4 a virtual link.
pub record RouterLink : Type 0 where
  pub id : ℕ
  pub kind : ℕ
  pub metric : ℕ

-- A.4.2: the link that the bytes begin with
unfoldable pub link_in : List ℕ → RouterLink
link_in bytes = record { id = big_endian (take 4 bytes); kind = get_or bytes 8 0; metric = big_endian (take 2 (drop 10 bytes)) }

-- A.4.2: how many bytes it has, TOS entries included
unfoldable pub link_length_lem : List ℕ → ℕ
link_length_lem bytes = 12 + 4 * get_or bytes 9 0

-- 02, #106: it is whole, and its type is from 1 to 4
unfoldable pub whole_link : List ℕ → Bool
whole_link bytes = leb (link_length_lem bytes) (length bytes) && leb 1 (get_or bytes 8 0) && leb (get_or bytes 8 0) 4

-- a link in front of others, if those are links
unfoldable pub link_before : RouterLink → Option (List RouterLink) → Option (List RouterLink)
link_before l none = none
link_before l (some ls) = some (l ∷ ls)

-- A.4.2: the links of bytes that are so many links and nothing else, each of a type from 1 to 4
unfoldable pub links_in : ℕ → List ℕ → Option (List RouterLink)
links_in zero [] = some []
links_in zero (b ∷ bytes) = none
links_in (suc n) bytes = cond (whole_link bytes) (link_before (link_in bytes) (links_in n (drop (link_length_lem bytes) bytes))) none

-- whether there is one
unfoldable pub some? : {A : Type 0} → Option A → Bool
some? none = false
some? (some a) = true

-- A.4.2: the links of the LSA that the bytes begin with, from byte 24 to its length
unfoldable pub links : List ℕ → Option (List RouterLink)
links lsa = links_in (link_count lsa) (drop 24 (take (length_field lsa) lsa))

-- the links that bytes were read as, none if they were not
unfoldable pub all_of : Option (List RouterLink) → List RouterLink
all_of none = []
all_of (some ls) = ls

-- 02, #106, 26, of the bytes from an LSA's first byte on: cut short, an LS type other than 1, a link type outside 1 to 4, or a length that does not
-- match the links
unfoldable pub malformed : List ℕ → Bool
malformed lsa =
    ltb (length lsa) 24 || ltb (length lsa) (length_field lsa) || ltb (length_field lsa) 24 || not (eqb (ls_type lsa) 1) || not (some? (links lsa))

-- 12.1.7, by RFC 905, Annex B: C0 is the sum of the octets, and C1 the sum of what C0 is after each octet, so that an octet counts in C1 once for
-- itself and once for each octet after it
unfoldable pub c0 : List ℕ → ℕ
c0 [] = 0
c0 (octet ∷ octets) = octet + c0 octets

unfoldable pub c1 : List ℕ → ℕ
c1 [] = 0
c1 (octet ∷ octets) = octet * (1 + length octets) + c1 octets

-- 02, #106, 27: a checksum of zero, or either sum over the LSA without its LS age not 0 modulo 255
unfoldable pub wrong_sum : List ℕ → Bool
wrong_sum lsa = eqb (checksum lsa) 0 || not (eqb (c0 (drop 2 lsa) % 255) 0) || not (eqb (c1 (drop 2 lsa) % 255) 0)

-- an LSA of a file: the offset of its first byte, and its bytes
pub record Lsa : Type 0 where
  pub at : ℕ
  pub bytes : List ℕ

-- the LSAs of the bytes from an offset of the file on, the first `skipped` of which still belong to the LSA before. A malformed one has no known end: it
-- is the last, with all bytes from its first on.
unfoldable pub lsas_from : ℕ → ℕ → List ℕ → List Lsa
lsas_from at skipped [] = []
lsas_from at zero (byte ∷ rest) =
    cond (malformed (byte ∷ rest)) (record { at = at; bytes = byte ∷ rest } ∷ [])
    (record { at = at; bytes = take (length_field (byte ∷ rest)) (byte ∷ rest) } ∷ lsas_from (at + 1) (length_field (byte ∷ rest) - 1) rest)
lsas_from at (suc skipped) (byte ∷ rest) = lsas_from (at + 1) skipped rest

unfoldable pub lsas : List ℕ → List Lsa
lsas file = lsas_from 0 0 file

-- where the first LSA begins whose bytes pass a test, or `end` if there is none
unfoldable pub first_at : (List ℕ → Bool) → ℕ → List Lsa → ℕ
first_at test end [] = end
first_at test end (lsa ∷ rest) = cond (test lsa.bytes) lsa.at (first_at test end rest)

-- 02, #106: where 26 and 27 point, or the length of the file if no LSA has the fault
unfoldable pub first_malformed_lem : List ℕ → ℕ
first_malformed_lem file = first_at malformed (length file) (lsas file)

unfoldable pub first_wrong_sum_lem : List ℕ → ℕ
first_wrong_sum_lem file = first_at wrong_sum (length file) (lsas file)
