-- What importing a file of router-LSAs returns (02, #106): its tests over the whole file, and then its routers and halves, taken in turn as the records of
-- a stream are.
-- Assumes nothing.
use Rattle.std.specs.Prelude.{ℕ, ◌+◌, false, cond, List, [], ◌∷◌, ◌++◌, map, ltb, length}
use Rattle.topology_types.specs.declared.Half.{Half}
use Rattle.stream_rules.specs.declared.Reading.{Reading}
use Rattle.stream_rules.specs.Record.{Record}
use Rattle.stream_rules.specs.Record as record_of
use Rattle.stream_rules.specs.Halves.{StreamListing}
use Rattle.stream_rules.specs.Reading.{refusal, fault, added, ended, unless, nothing_listed}
use Rattle.ospf_lsas.specs.Lsa.{advertising_router, links, Lsa, lsas, first_malformed_lem, first_wrong_sum_lem}
use Rattle.ospf_halves.specs.Neighbours.{all_of, halves_of}

-- a router or a half, and the first byte of the LSA that it comes from
pub record Placed : Type 0 where
  pub at : ℕ
  pub found : Record

-- 02, #106: IDs are the Advertising Routers
unfoldable pub router_of : Lsa → ℕ
router_of l = advertising_router l.bytes

unfoldable pub router_in : Lsa → Placed
router_in l = record { at = l.at; found = record_of.Router (router_of l) }

-- a half that an LSA gives
unfoldable pub half_placed : Lsa → Half → Placed
half_placed l h = record { at = l.at; found = record_of.Half h }

-- the halves of the LSA at a place, by the IDs of the whole file
unfoldable pub halves_at : List ℕ → ℕ → Lsa → List Half
halves_at ids place l = halves_of ids place (all_of (links l.bytes))

-- 02, #106: places are in file order; the halves of the LSAs from a place on
unfoldable pub halves_in : List ℕ → ℕ → List Lsa → List Placed
halves_in ids place [] = []
halves_in ids place (l ∷ ls) = map (half_placed l) (halves_at ids place l) ++ halves_in ids (place + 1) ls

-- 02, #106: the routers LSA by LSA, then the halves, LSA by LSA
unfoldable pub placed_in : List Lsa → List Placed
placed_in ls = map router_in ls ++ halves_in (map router_of ls) 0 ls

-- 02, #106: each is taken in turn, and the first fault refuses, at the LSA's first byte; where there is none, what `last` makes of what is listed
unfoldable pub taken_to : (StreamListing → Reading) → StreamListing → List Placed → Reading
taken_to last p [] = last p
taken_to last p (r ∷ rs) = unless (fault p r.found) r.at (taken_to last (added p r.found) rs)

-- 02, #106: 12, at 0, comes last. The lone halves are dropped.
unfoldable pub at_last : StreamListing → Reading
at_last p = ended false 0 p.contents

-- 02, #106: the whole file is tested for 26, then the whole for 27. Before the first LSA nothing is listed, and K is 3.
unfoldable pub importing : List ℕ → Reading
importing file =
    cond (ltb (first_malformed_lem file) (length file)) (refusal 26 (first_malformed_lem file))
    (cond (ltb (first_wrong_sum_lem file) (length file)) (refusal 27 (first_wrong_sum_lem file)) (taken_to at_last nothing_listed (placed_in (lsas file))))
