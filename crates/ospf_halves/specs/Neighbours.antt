-- The neighbours of a router by its links, and the halves that they give (02, #106; RFC 2328, A.4.2).
-- Assumes nothing.
use Rattle.std.specs.Prelude.{ℕ, suc, cond, not, List, [], ◌∷◌, map, eqb}
use Rattle.network.specs.Lists.{keep, least_by, member}
use Rattle.topology_types.specs.declared.Half.{Half}
use Rattle.ospf_lsas.specs.Lsa.{RouterLink}
-- handed on: the links that bytes were read as
unfoldable pub use Rattle.ospf_lsas.specs.Lsa.{all_of}

-- A.4.2, type 1: a point-to-point connection to another router, whose Router ID is the Link ID. 02, #106: other links are skipped.
unfoldable pub point_to_point : List RouterLink → List RouterLink
point_to_point ls = keep (λ l. eqb l.kind 1) ls

-- 02, #106: of parallel links, those of a list with one Link ID, the lowest metric; 65,536, more than two bytes hold, if no link of the list has that ID
unfoldable pub lowest_to_lem : ℕ → List RouterLink → ℕ
lowest_to_lem id ls = least_by (λ l. l.metric) 65536 (keep (λ l. eqb l.id id) ls)

-- the numbers of a list, each once, in the order in which they first stand in it
unfoldable pub once : List ℕ → List ℕ
once [] = []
once (u ∷ us) = u ∷ keep (λ v. not (eqb v u)) (once us)

-- 02, #106: the neighbouring routers, in the order first listed
unfoldable pub neighbours_of : List RouterLink → List ℕ
neighbours_of ls = once (map (λ l. l.id) (point_to_point ls))

-- the first place, from 0, at which the ID stands, or how many IDs there are if it stands nowhere
unfoldable pub place_of : ℕ → List ℕ → ℕ
place_of id [] = 0
place_of id (i ∷ ids) = cond (eqb id i) 0 (suc (place_of id ids))

-- 02, #106: the half from the router at a place, which has these links, to a neighbour
unfoldable pub half_to : List ℕ → ℕ → List RouterLink → ℕ → Half
half_to ids place ls id = record { from = record { 0 = place }; to = record { 0 = place_of id ids }; cost = lowest_to_lem id (point_to_point ls) }

-- 02, #106: what the LSA at a place gives, by the Advertising Routers of the file and its own links: one half to each neighbour that has an LSA
unfoldable pub halves_of : List ℕ → ℕ → List RouterLink → List Half
halves_of ids place ls = map (half_to ids place ls) (keep (λ id. member id ids) (neighbours_of ls))
