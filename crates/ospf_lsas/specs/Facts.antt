-- Four router-LSAs worked by hand from RFC 2328, and files made of them, as lists: the file and where 26 or 27 points, or an LSA and its sums or links
-- (02, #106). A new fact is one line.
-- Assumes nothing.
use Rattle.std.specs.Prelude.{ℕ, Bool, false, ◌&&◌, List, [], ◌∷◌, ◌++◌, T, eqb, set, take, drop}
use Rattle.std.proofs.Math.Option.{Option, none, some}
use Rattle.network.specs.Lists.{every, same_numbers}
use Rattle.ospf_lsas.specs.Lsa.{advertising_router, RouterLink, links, c0, c1, first_malformed_lem, first_wrong_sum_lem}

pub data Fact : Type 0 where
  -- 26 points at an offset of a file: at its length if no LSA is malformed
  points_26 : List ℕ → ℕ → Fact
  -- 27 the same
  points_27 : List ℕ → ℕ → Fact
  -- an LSA has this Advertising Router, and C0 and C1 without its LS age are these
  adds_up : List ℕ → ℕ → ℕ → ℕ → Fact
  -- an LSA has these links: the Link ID, type and metric of each, one after another
  lists : List ℕ → List ℕ → Fact

unfoldable pub flat : List RouterLink → List ℕ
flat [] = []
flat (l ∷ ls) = l.id ∷ l.kind ∷ l.metric ∷ flat ls

unfoldable pub lists_so : Option (List RouterLink) → List ℕ → Bool
lists_so none numbers = false
lists_so (some ls) numbers = same_numbers (flat ls) numbers

unfoldable pub holds : Fact → Bool
holds (points_26 file at) = eqb (first_malformed_lem file) at
holds (points_27 file at) = eqb (first_wrong_sum_lem file) at
holds (adds_up lsa router sum_0 sum_1) = eqb (advertising_router lsa) router && eqb (c0 (drop 2 lsa)) sum_0 && eqb (c1 (drop 2 lsa)) sum_1
holds (lists lsa numbers) = lists_so (links lsa) numbers

-- router 1.1.1.1: a link of type 1 to 2.2.2.2 at 10, and a stub network, type 3, at 10
unfoldable pub lsa_1 : List ℕ
lsa_1 =
    0 ∷ 1 ∷ 2 ∷ 1 ∷ 1 ∷ 1 ∷ 1 ∷ 1 ∷ 1 ∷ 1 ∷ 1 ∷ 1 ∷ 128 ∷ 0 ∷ 0 ∷ 1 ∷ 70 ∷ 196 ∷ 0 ∷ 48
    ∷ 0 ∷ 0 ∷ 0 ∷ 2
    ∷ 2 ∷ 2 ∷ 2 ∷ 2 ∷ 10 ∷ 0 ∷ 0 ∷ 1 ∷ 1 ∷ 0 ∷ 0 ∷ 10
    ∷ 10 ∷ 0 ∷ 1 ∷ 0 ∷ 255 ∷ 255 ∷ 255 ∷ 0 ∷ 3 ∷ 0 ∷ 0 ∷ 10 ∷ []

-- router 2.2.2.2: links of type 1 to 1.1.1.1 at 12 and to 3.3.3.3 at 500, the second with a TOS entry, and a virtual link, type 4, at 7
unfoldable pub lsa_2 : List ℕ
lsa_2 =
    1 ∷ 44 ∷ 2 ∷ 1 ∷ 2 ∷ 2 ∷ 2 ∷ 2 ∷ 2 ∷ 2 ∷ 2 ∷ 2 ∷ 128 ∷ 0 ∷ 0 ∷ 7 ∷ 236 ∷ 205 ∷ 0 ∷ 64
    ∷ 4 ∷ 0 ∷ 0 ∷ 3
    ∷ 1 ∷ 1 ∷ 1 ∷ 1 ∷ 10 ∷ 0 ∷ 0 ∷ 2 ∷ 1 ∷ 0 ∷ 0 ∷ 12
    ∷ 3 ∷ 3 ∷ 3 ∷ 3 ∷ 10 ∷ 0 ∷ 0 ∷ 5 ∷ 1 ∷ 1 ∷ 1 ∷ 244 ∷ 8 ∷ 0 ∷ 0 ∷ 5
    ∷ 3 ∷ 3 ∷ 3 ∷ 3 ∷ 10 ∷ 0 ∷ 0 ∷ 5 ∷ 4 ∷ 0 ∷ 0 ∷ 7 ∷ []

-- router 3.3.3.3: a link of type 1 to 2.2.2.2 at 20, and a transit network, type 2, at 1
unfoldable pub lsa_3 : List ℕ
lsa_3 =
    0 ∷ 2 ∷ 2 ∷ 1 ∷ 3 ∷ 3 ∷ 3 ∷ 3 ∷ 3 ∷ 3 ∷ 3 ∷ 3 ∷ 128 ∷ 0 ∷ 0 ∷ 1 ∷ 61 ∷ 165 ∷ 0 ∷ 48
    ∷ 0 ∷ 0 ∷ 0 ∷ 2
    ∷ 2 ∷ 2 ∷ 2 ∷ 2 ∷ 10 ∷ 0 ∷ 0 ∷ 6 ∷ 1 ∷ 0 ∷ 0 ∷ 20
    ∷ 10 ∷ 0 ∷ 2 ∷ 3 ∷ 10 ∷ 0 ∷ 2 ∷ 3 ∷ 2 ∷ 0 ∷ 0 ∷ 1 ∷ []

-- router 4.4.4.4: links of type 1 to 1.1.1.1 at 7, to 9.9.9.9 at 4, to 2.2.2.2 at 30, to 1.1.1.1 again at 5 and to itself at 8; behind the first a stub
-- network at 3, and last a transit network whose Link ID is 3.3.3.3, at 1, and a virtual link to 2.2.2.2 at 2
unfoldable pub lsa_4 : List ℕ
lsa_4 =
    0 ∷ 3 ∷ 2 ∷ 1 ∷ 4 ∷ 4 ∷ 4 ∷ 4 ∷ 4 ∷ 4 ∷ 4 ∷ 4 ∷ 128 ∷ 0 ∷ 0 ∷ 2 ∷ 3 ∷ 108 ∷ 0 ∷ 120
    ∷ 4 ∷ 0 ∷ 0 ∷ 8
    ∷ 1 ∷ 1 ∷ 1 ∷ 1 ∷ 10 ∷ 0 ∷ 0 ∷ 9 ∷ 1 ∷ 0 ∷ 0 ∷ 7
    ∷ 10 ∷ 0 ∷ 4 ∷ 0 ∷ 255 ∷ 255 ∷ 255 ∷ 0 ∷ 3 ∷ 0 ∷ 0 ∷ 3
    ∷ 9 ∷ 9 ∷ 9 ∷ 9 ∷ 10 ∷ 0 ∷ 0 ∷ 13 ∷ 1 ∷ 0 ∷ 0 ∷ 4
    ∷ 2 ∷ 2 ∷ 2 ∷ 2 ∷ 10 ∷ 0 ∷ 0 ∷ 17 ∷ 1 ∷ 0 ∷ 0 ∷ 30
    ∷ 1 ∷ 1 ∷ 1 ∷ 1 ∷ 10 ∷ 0 ∷ 0 ∷ 21 ∷ 1 ∷ 0 ∷ 0 ∷ 5
    ∷ 4 ∷ 4 ∷ 4 ∷ 4 ∷ 10 ∷ 0 ∷ 0 ∷ 25 ∷ 1 ∷ 0 ∷ 0 ∷ 8
    ∷ 3 ∷ 3 ∷ 3 ∷ 3 ∷ 10 ∷ 0 ∷ 5 ∷ 4 ∷ 2 ∷ 0 ∷ 0 ∷ 1
    ∷ 2 ∷ 2 ∷ 2 ∷ 2 ∷ 10 ∷ 0 ∷ 0 ∷ 17 ∷ 4 ∷ 0 ∷ 0 ∷ 2 ∷ []

-- the first three, at 0, 48 and 112; the file has 160 bytes
unfoldable pub three : List ℕ
three = lsa_1 ++ lsa_2 ++ lsa_3

-- an LSA of a header and no links, of a length and a number of links
unfoldable pub bare : ℕ → ℕ → List ℕ
bare long many = take 16 lsa_1 ++ (1 ∷ 1 ∷ 0 ∷ long ∷ 0 ∷ 0 ∷ 0 ∷ many ∷ [])

unfoldable pub read_so : List Fact
read_so =
    adds_up lsa_1 0x01010101 1275 20910
    ∷ adds_up lsa_2 0x02020202 1020 38505
    ∷ adds_up lsa_3 0x03030303 510 15300
    ∷ adds_up lsa_4 0x04040404 1530 119850
    ∷ lists lsa_1 (0x02020202 ∷ 1 ∷ 10 ∷ 0x0a000100 ∷ 3 ∷ 10 ∷ [])
    ∷ lists lsa_2 (0x01010101 ∷ 1 ∷ 12 ∷ 0x03030303 ∷ 1 ∷ 500 ∷ 0x03030303 ∷ 4 ∷ 7 ∷ [])
    ∷ lists lsa_3 (0x02020202 ∷ 1 ∷ 20 ∷ 0x0a000203 ∷ 2 ∷ 1 ∷ [])
    ∷ lists (bare 24 0) []
    ∷ []

unfoldable pub pointed_26 : List Fact
pointed_26 =
    points_26 [] 0
    ∷ points_26 three 160
    ∷ points_26 (three ++ lsa_4) 280
    ∷ points_26 (bare 24 0) 24
    -- cut short: in the last link, in the header, behind the last LSA, and by a length past the end
    ∷ points_26 (take 159 three) 112
    ∷ points_26 (take 122 three) 112
    ∷ points_26 (three ++ (0 ∷ [])) 160
    ∷ points_26 (set three 131 49) 112
    -- an LS type other than 1, also where a later LSA is cut short
    ∷ points_26 (set three 51 2) 48
    ∷ points_26 (take 159 (set three 51 0)) 48
    -- a link type of 0 or 5, in a link behind a TOS entry, in one that has it, in the last link and in the first
    ∷ points_26 (set three 108 0) 48
    ∷ points_26 (set three 108 5) 48
    ∷ points_26 (set three 92 5) 48
    ∷ points_26 (set three 156 0) 112
    ∷ points_26 (set three 32 5) 0
    -- a length too short or too long for the links, and one below 24
    ∷ points_26 (set three 19 47) 0
    ∷ points_26 (set three 19 49) 0
    ∷ points_26 (bare 23 0) 0
    ∷ points_26 (bare 20 0) 0
    -- by the first byte of a length and of a number of links
    ∷ points_26 (set three 18 1) 0
    ∷ points_26 (set three 70 1) 48
    -- cut between the header and the links, and where an earlier LSA has a wrong sum
    ∷ points_26 (take 133 three) 112
    ∷ points_26 (take 159 (set three 47 11)) 112
    ∷ points_26 (bare 0 0) 0
    -- a number of links, or of TOS, too low or too high
    ∷ points_26 (set three 71 2) 48
    ∷ points_26 (set three 71 4) 48
    ∷ points_26 (bare 24 1) 0
    ∷ points_26 (set three 93 0) 48
    ∷ points_26 (set three 93 2) 48
    ∷ []

unfoldable pub pointed_27 : List Fact
pointed_27 =
    points_27 [] 0
    ∷ points_27 three 160
    ∷ points_27 (three ++ lsa_4) 280
    -- a byte changed: a metric of the first LSA, an octet of the checksum of the second, an unused byte of the third
    ∷ points_27 (set three 47 11) 0
    ∷ points_27 (set three 65 206) 48
    ∷ points_27 (set three 133 1) 112
    -- two LSAs with wrong sums
    ∷ points_27 (set (set three 133 1) 65 206) 48
    -- two octets exchanged: C1 alone is wrong
    ∷ points_27 (set (set three 28 0) 29 10) 0
    -- C0 alone is wrong
    ∷ points_27 (set (set three 28 18) 29 5) 0
    -- a checksum of zero, though both sums are right
    ∷ points_27 (set (set (set (set three 128 0) 129 0) 140 233) 141 3) 112
    -- the LS age is not summed, and 255 counts as 0
    ∷ points_27 (set (set three 0 7) 49 200) 160
    ∷ points_27 (set three 141 255) 160
    ∷ []

abbrev pub FactsHold : Type 0
FactsHold = T (every holds read_so) × T (every holds pointed_26) × T (every holds pointed_27)
