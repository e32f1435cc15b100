-- What is proved of router-LSAs, over all bytes.
-- Assumes nothing.
use Rattle.std.specs.Prelude.{ℕ, suc, ◌+◌, ◌*◌, ◌%◌, ◌≤◌, ◌<◌, Bool, true, false, ◌↔◌, ◌≢◌, ◌≡◌, length, get_or, take, drop}
use mathlib.Core.List.{List, [], ◌∷◌, ◌++◌, Memᴰ}
use Rattle.std.proofs.Math.Option.{some}
use Rattle.stream_rules.specs.Theorems.{two_at, four_at}
use Rattle.ospf_lsas.specs.Lsa.{ls_type, advertising_router, checksum, length_field, link_count, RouterLink, links_in, links, malformed, c0, c1, wrong_sum}
use Rattle.ospf_lsas.specs.Lsa.{Lsa, lsas, first_malformed_lem, first_wrong_sum_lem}

-- RFC 2328, A.4.1 and A.4.2: the fields of an LSA by the offsets of their bytes
pub record Fields (s : List ℕ) : Type 0 where
  pub ls-type : ls_type s ≡ get_or s 3 0
  pub advertising-router : advertising_router s ≡ four_at s 8
  pub ls_checksum : checksum s ≡ two_at s 16
  pub ls_length : length_field s ≡ two_at s 18
  pub link-count : link_count s ≡ two_at s 22

abbrev pub FieldsEach : Type 0
FieldsEach = (s : List ℕ) → 24 ≤ length s → Fields s

-- RFC 2328, A.4.2: these bytes are so many links, and these. The first has 12 bytes, of which the first 4 are its Link ID, byte 8 its type, byte 9 its
-- number of TOS and the last 2 its metric, and after them 4 bytes for each TOS; the other links follow.
pub data Links : ℕ → List ℕ → List RouterLink → Type 0 where
  no-link : Links 0 [] []
  link : {n : ℕ} {ls : List RouterLink} (s : List ℕ) → 12 + 4 * get_or s 9 0 ≤ length s → 1 ≤ get_or s 8 0 → get_or s 8 0 ≤ 4 →
      Links n (drop (12 + 4 * get_or s 9 0) s) ls →
      Links (suc n) s (record { id = four_at s 0; kind = get_or s 8 0; metric = two_at s 10 } ∷ ls)

abbrev pub LinksListed : Type 0
LinksListed = (n : ℕ) (s : List ℕ) (ls : List RouterLink) → (links_in n s ≡ some ls) ↔ Links n s ls

-- RFC 2328, A.4.2: the metric of a link that was read from bytes is below 65,536
abbrev pub Metrics : Type 0
Metrics = (n : ℕ) (s : List ℕ) → ((i : ℕ) → get_or s i 0 < 256) → (ls : List RouterLink) → links_in n s ≡ some ls →
    (l : RouterLink) → Memᴰ l ls → l.metric < 65536

-- 02, #106, 26: an LSA is not malformed if and only if its length is at least 24, as many bytes are there, its LS type is 1, and from byte 24 to its length
-- it is as many links as bytes 22 and 23 say
pub record RouterLsa (s : List ℕ) (ls : List RouterLink) : Type 0 where
  pub begun : 24 ≤ two_at s 18
  pub whole : two_at s 18 ≤ length s
  pub router : get_or s 3 0 ≡ 1
  pub matching : Links (two_at s 22) (drop 24 (take (two_at s 18) s)) ls

abbrev pub LsasFormed : Type 0
LsasFormed = (s : List ℕ) → (malformed s ≡ false) ↔ ((ls : List RouterLink) × RouterLsa s ls)

-- the links of an LSA that is not malformed
abbrev pub LinksOf : Type 0
LinksOf = (s : List ℕ) (ls : List RouterLink) → RouterLsa s ls → links s ≡ some ls

-- RFC 905, Annex B: both sums begin at 0; each octet is added to C0, and then C0 to C1
pub record Sums : Type 0 where
  pub c0_none : c0 [] ≡ 0
  pub c1_none : c1 [] ≡ 0
  pub c0_next : (octets : List ℕ) (octet : ℕ) → c0 (octets ++ (octet ∷ [])) ≡ c0 octets + octet
  pub c1_next : (octets : List ℕ) (octet : ℕ) → c1 (octets ++ (octet ∷ [])) ≡ c1 octets + c0 (octets ++ (octet ∷ []))

-- 02, #106, 27: the sums of an LSA are right if and only if the checksum, bytes 16 and 17, is not zero, and both sums are 0 modulo 255 without the first two bytes, the
-- LS age
abbrev pub RightSum : Type 0
RightSum = (s : List ℕ) → 24 ≤ length s →
    (wrong_sum s ≡ false) ↔ ((two_at s 16 ≢ 0) × (c0 (drop 2 s) % 255 ≡ 0) × (c1 (drop 2 s) % 255 ≡ 0))

-- 02, #106: from an offset on the bytes are LSAs one after another, and these. Each begins where the one before it ends, as its bytes 18 and 19 say; a
-- malformed one is the last, with all bytes that are left.
pub data Consecutive : ℕ → List ℕ → List Lsa → Type 0 where
  end : {at : ℕ} → Consecutive at [] []
  faulty : {at : ℕ} (s : List ℕ) → 1 ≤ length s → malformed s ≡ true → Consecutive at s (record { at = at; bytes = s } ∷ [])
  next : {at : ℕ} {rest : List Lsa} (s : List ℕ) → malformed s ≡ false → Consecutive (at + two_at s 18) (drop (two_at s 18) s) rest →
      Consecutive at s (record { at = at; bytes = take (two_at s 18) s } ∷ rest)

abbrev pub LsasConsecutive : Type 0
LsasConsecutive = (file : List ℕ) → Consecutive 0 file (lsas file)

-- 02, #106: each of 26 and 27 points at the first byte of the first such LSA: LSAs without the fault, and then one with it
pub data FirstFault (test : List ℕ → Bool) (length-of-file : ℕ) : List Lsa → ℕ → Type 0 where
  no_fault : FirstFault test length-of-file [] length-of-file
  here : {rest : List Lsa} (l : Lsa) → test l.bytes ≡ true → FirstFault test length-of-file (l ∷ rest) l.at
  later : {rest : List Lsa} {at : ℕ} (l : Lsa) → test l.bytes ≡ false → FirstFault test length-of-file rest at →
      FirstFault test length-of-file (l ∷ rest) at

abbrev pub PointsAtFirst : Type 0
PointsAtFirst = (file : List ℕ) →
    FirstFault malformed (length file) (lsas file) (first_malformed_lem file) × FirstFault wrong_sum (length file) (lsas file) (first_wrong_sum_lem file)

-- 02, #106: each points at the end of the file if and only if no LSA has its fault
pub record PointsAtEnd (file : List ℕ) : Type 0 where
  pub none_malformed : (first_malformed_lem file ≡ length file) ↔ ((l : Lsa) → Memᴰ l (lsas file) → malformed l.bytes ≡ false)
  pub no_wrong_sum : (first_wrong_sum_lem file ≡ length file) ↔ ((l : Lsa) → Memᴰ l (lsas file) → wrong_sum l.bytes ≡ false)
  pub within_26 : first_malformed_lem file ≤ length file
  pub within_27 : first_wrong_sum_lem file ≤ length file

abbrev pub PointsWithin : Type 0
PointsWithin = (file : List ℕ) → PointsAtEnd file
