-- The halves that the LSAs of Facts in `ospf_lsas` give, and LSAs made of them, worked by hand, as a list: an LSA and its halves (02, #106). A new fact is one line.
-- Assumes nothing.
use Rattle.std.specs.Prelude.{ℕ, Bool, ◌&&◌, List, [], ◌∷◌, T, eqb, get_or, set}
use Rattle.network.specs.Lists.{every, same_numbers}
use Rattle.topology_types.specs.declared.Half.{Half}
use Rattle.ospf_lsas.specs.Lsa.{advertising_router, links}
use Rattle.ospf_lsas.specs.Facts.{lsa_1, lsa_2, lsa_3, lsa_4, bare}
use Rattle.ospf_halves.specs.Neighbours.{all_of, halves_of}

pub data Fact : Type 0 where
  -- by the IDs of a file and its own place, where its Advertising Router stands, an LSA gives these halves: from, to and cost of each, one after another
  gives : List ℕ → ℕ → List ℕ → List ℕ → Fact

unfoldable pub flat_halves : List Half → List ℕ
flat_halves [] = []
flat_halves (h ∷ hs) = h.from.0 ∷ h.to.0 ∷ h.cost ∷ flat_halves hs

unfoldable pub holds : Fact → Bool
holds (gives ids place lsa numbers) =
    eqb (get_or ids place 0) (advertising_router lsa) && same_numbers (flat_halves (halves_of ids place (all_of (links lsa)))) numbers

-- the Advertising Routers of the four, in order
unfoldable pub four_ids : List ℕ
four_ids = 0x01010101 ∷ 0x02020202 ∷ 0x03030303 ∷ 0x04040404 ∷ []

unfoldable pub given_so : List Fact
given_so =
    gives four_ids 0 lsa_1 (0 ∷ 1 ∷ 10 ∷ [])
    ∷ gives four_ids 1 lsa_2 (1 ∷ 0 ∷ 12 ∷ 1 ∷ 2 ∷ 500 ∷ [])
    ∷ gives four_ids 2 lsa_3 (2 ∷ 1 ∷ 20 ∷ [])
    -- the lower of parallel links, where the first stands; no half to 9.9.9.9, none by the links of types 2 to 4, and one to itself
    ∷ gives four_ids 3 lsa_4 (3 ∷ 0 ∷ 5 ∷ 3 ∷ 1 ∷ 30 ∷ 3 ∷ 3 ∷ 8 ∷ [])
    -- the lower metric first, and two that are equal
    ∷ gives four_ids 3 (set (set lsa_4 35 5) 83 7) (3 ∷ 0 ∷ 5 ∷ 3 ∷ 1 ∷ 30 ∷ 3 ∷ 3 ∷ 8 ∷ [])
    ∷ gives four_ids 3 (set lsa_4 83 7) (3 ∷ 0 ∷ 7 ∷ 3 ∷ 1 ∷ 30 ∷ 3 ∷ 3 ∷ 8 ∷ [])
    -- a metric of 0 counts as the lowest: refusal 7 comes later
    ∷ gives four_ids 3 (set lsa_4 83 0) (3 ∷ 0 ∷ 0 ∷ 3 ∷ 1 ∷ 30 ∷ 3 ∷ 3 ∷ 8 ∷ [])
    -- the stub network's Link ID is a router's of the file, yet no neighbour
    ∷ gives (0x0a000400 ∷ four_ids) 4 lsa_4 (4 ∷ 1 ∷ 5 ∷ 4 ∷ 2 ∷ 30 ∷ 4 ∷ 4 ∷ 8 ∷ [])
    -- a metric of two bytes, 261, is not lower than 7
    ∷ gives four_ids 3 (set lsa_4 82 1) (3 ∷ 0 ∷ 7 ∷ 3 ∷ 1 ∷ 30 ∷ 3 ∷ 3 ∷ 8 ∷ [])
    -- the virtual link as one of type 1, and the stub network as one to a router of the file
    ∷ gives four_ids 3 (set lsa_4 116 1) (3 ∷ 0 ∷ 5 ∷ 3 ∷ 1 ∷ 2 ∷ 3 ∷ 3 ∷ 8 ∷ [])
    ∷ gives (0x0a000400 ∷ four_ids) 4 (set lsa_4 44 1) (4 ∷ 1 ∷ 5 ∷ 4 ∷ 0 ∷ 3 ∷ 4 ∷ 2 ∷ 30 ∷ 4 ∷ 4 ∷ 8 ∷ [])
    -- places are those of the file, whatever the order of the IDs, and halves keep the order of the links
    ∷ gives (0x03030303 ∷ 0x02020202 ∷ 0x01010101 ∷ []) 1 lsa_2 (1 ∷ 2 ∷ 12 ∷ 1 ∷ 0 ∷ 500 ∷ [])
    ∷ gives (0x02020202 ∷ []) 0 lsa_2 []
    ∷ gives four_ids 0 (bare 24 0) []
    ∷ []

abbrev pub FactsHold : Type 0
FactsHold = T (every holds given_so)
