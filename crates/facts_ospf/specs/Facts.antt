-- Files of router-LSAs and what importing each answers or holds (02, #106), as a list: a new fact is one line.
-- Assumes nothing.
use Rattle.std.specs.Prelude.{ℕ, zero, suc, ◌+◌, ◌-◌, ◌*◌, ◌/◌, ◌%◌, Bool, ◌&&◌, List, [], ◌∷◌, ◌++◌, map, T, eqb, length, set, take, drop}
use Rattle.network.specs.Lists.{every, same_numbers}
use Rattle.topology_types.specs.declared.Answer.{Answer}
use Rattle.topology_types.specs.declared.Link.{Link}
use Rattle.topology_types.specs.declared.Topology.{Topology}
use Rattle.topology_types.specs.Topology.{contents}
use Rattle.ospf_lsas.specs.Lsa.{c0, c1}
use Rattle.ospf.specs.Import.{importing}
use Rattle.ospf_lsas.specs.Facts.{lsa_1, lsa_2, lsa_3, lsa_4, three}

pub data Fact : Type 0 where
  -- importing a file answers this number and at
  answers : List ℕ → ℕ → ℕ → Fact
  -- importing a file answers 0, and these are the IDs, by place, and the links: first, second, cost and back of each, one after another; K is 3
  imports : List ℕ → List ℕ → List ℕ → Fact

unfoldable pub flat_links : List Link → List ℕ
flat_links [] = []
flat_links (l ∷ ls) = l.first.0 ∷ l.second.0 ∷ l.cost ∷ l.back ∷ flat_links ls

unfoldable pub answers_so : Answer → ℕ → ℕ → Bool
answers_so a number at = eqb a.number number && eqb a.at at

unfoldable pub holds_so : Topology → List ℕ → List ℕ → Bool
holds_so t ids links = same_numbers (contents t).ids ids && same_numbers (flat_links (contents t).links) links && eqb t.limit 3

unfoldable pub holds : Fact → Bool
holds (answers file number at) = answers_so (importing file).answer number at
holds (imports file ids links) = let r = importing file in answers_so r.answer 0 0 && holds_so r.topology ids links

-- RFC 905, Annex B: the LSA with the checksum, its octets 15 and 16 after the LS age, that makes both sums 0 modulo 255; they are 0 in what is given
unfoldable pub sealed : List ℕ → List ℕ
sealed lsa =
    let s = drop 2 lsa in
    set (set lsa 16 (((length s - 15) * c0 s + 254 * c1 s) % 255)) 17 ((c1 s + 254 * (length s - 14) * c0 s) % 255)

-- links of type 1 from 0.0.0.i to each 0.0.0.j, at 16 i + j
unfoldable pub links_to : ℕ → List ℕ → List ℕ
links_to i [] = []
links_to i (j ∷ js) = 0 ∷ 0 ∷ 0 ∷ j ∷ 10 ∷ 0 ∷ 0 ∷ 1 ∷ 1 ∷ 0 ∷ ((16 * i + j) / 256) ∷ ((16 * i + j) % 256) ∷ links_to i js

-- the LSA of the router 0.0.0.i with those links, of 24 bytes and 12 for each; its Link State ID is 9.9.9.9
unfoldable pub made : ℕ → List ℕ → List ℕ
made i js =
    sealed
    (0 ∷ 1 ∷ 2 ∷ 1 ∷ 9 ∷ 9 ∷ 9 ∷ 9 ∷ 0 ∷ 0 ∷ 0 ∷ i ∷ 128 ∷ 0 ∷ 0 ∷ 1 ∷ 0 ∷ 0 ∷ 0 ∷ (24 + 12 * length js)
    ∷ 0 ∷ 0 ∷ 0 ∷ length js ∷ links_to i js)

-- so many numbers from one on
unfoldable pub counted : ℕ → ℕ → List ℕ
counted i zero = []
counted i (suc n) = i ∷ counted (i + 1) n

-- so many LSAs from that of 0.0.0.i on, without links
unfoldable pub alone : ℕ → ℕ → List ℕ
alone i zero = []
alone i (suc n) = made i [] ++ alone (i + 1) n

-- n routers in a ring, each with links to the 16 after it: LSAs of 216 bytes, so many of them from that of 0.0.0.(i + 1) on
unfoldable pub ring : ℕ → ℕ → ℕ → List ℕ
ring n i zero = []
ring n i (suc k) = made (i + 1) (map (λ j. j % n + 1) (counted (i + 1) 16)) ++ ring n (i + 1) k

-- by the rules of 01 and 02, #105 to #107, by hand
unfoldable pub facts : List Fact
facts =
    imports three (0x01010101 ∷ 0x02020202 ∷ 0x03030303 ∷ []) (0 ∷ 1 ∷ 10 ∷ 12 ∷ 1 ∷ 2 ∷ 500 ∷ 20 ∷ [])
    -- 3.3.3.3 has no LSA, and gives nothing; places are in file order
    ∷ imports (lsa_1 ++ lsa_2) (0x01010101 ∷ 0x02020202 ∷ []) (0 ∷ 1 ∷ 10 ∷ 12 ∷ [])
    ∷ imports (lsa_2 ++ lsa_1) (0x02020202 ∷ 0x01010101 ∷ []) (0 ∷ 1 ∷ 12 ∷ 10 ∷ [])
    -- the half from the second router to the third is lone
    ∷ imports (made 1 (2 ∷ 3 ∷ []) ++ made 2 (1 ∷ 3 ∷ []) ++ made 3 (1 ∷ [])) (1 ∷ 2 ∷ 3 ∷ []) (0 ∷ 1 ∷ 18 ∷ 33 ∷ 0 ∷ 2 ∷ 19 ∷ 49 ∷ [])
    ∷ imports (made 7 []) (7 ∷ []) []
    -- the third router lists the second before the first, so that their link is numbered first
    ∷ imports (made 1 (3 ∷ []) ++ made 2 (3 ∷ []) ++ made 3 (2 ∷ 1 ∷ [])) (1 ∷ 2 ∷ 3 ∷ []) (1 ∷ 2 ∷ 35 ∷ 50 ∷ 0 ∷ 2 ∷ 19 ∷ 49 ∷ [])
    -- 26 of a later LSA comes before 27 of an earlier one, and 27 before 3, 3 before 6
    ∷ answers (take 159 three) 26 112
    ∷ answers (take 159 (set three 47 11)) 26 112
    ∷ answers (set three 65 206) 27 48
    ∷ answers (lsa_1 ++ set lsa_1 47 11) 27 48
    ∷ answers (lsa_1 ++ lsa_1) 3 48
    ∷ answers (lsa_4 ++ lsa_4) 3 120
    -- 65 routers; 64 are not too many, and have no links
    ∷ answers (alone 1 65) 4 1536
    ∷ imports (alone 1 64) (counted 1 64) []
    -- a half to itself; one that costs nothing, the sums right by the bytes 4 before and 4 after it
    ∷ answers (three ++ lsa_4) 6 160
    ∷ answers (set (set (set three 31 6) 35 0) 39 5) 7 0
    -- half by half: 7 of the first LSA comes before 6 of the last, 6 of the first before 7 of a later one, and 7 before 6 of one LSA, by its links' order
    ∷ answers (set (set (set three 31 6) 35 0) 39 5 ++ lsa_4) 7 0
    ∷ answers (lsa_4 ++ set (set (set three 31 6) 35 0) 39 5) 6 0
    ∷ answers (three ++ set (set (set lsa_4 66 15) 71 0) 76 25) 7 160
    -- LSA by LSA: 4 of the 65th comes before 3 of the next; of one LSA 3 comes before 4
    ∷ answers (alone 1 65 ++ made 1 []) 4 1536
    ∷ answers (alone 1 64 ++ made 1 []) 3 1536
    -- the 513th half; 512 are not too many, and all but 32 of them are lone
    ∷ answers (ring 33 0 33) 9 6912
    ∷ answers (ring 32 0 32) 0 0
    -- 17 neighbours of the second router; 16, of which none lists it
    ∷ answers (made 2 [] ++ made 1 (counted 2 17) ++ alone 3 16) 10 24
    ∷ imports (made 2 [] ++ made 1 (counted 2 16) ++ alone 3 15) (2 ∷ 1 ∷ counted 3 15) []
    ∷ answers [] 12 0
    -- two routers that no link joins; two parts of two routers each
    ∷ imports (lsa_1 ++ lsa_3) (0x01010101 ∷ 0x03030303 ∷ []) []
    ∷ imports (made 1 (3 ∷ []) ++ made 2 (4 ∷ []) ++ made 3 (1 ∷ []) ++ made 4 (2 ∷ [])) (1 ∷ 2 ∷ 3 ∷ 4 ∷ []) (0 ∷ 2 ∷ 19 ∷ 49 ∷ 1 ∷ 3 ∷ 36 ∷ 66 ∷ [])
    ∷ []

abbrev pub FactsHold : Type 0
FactsHold = T (every holds facts)
