-- What the inner functions promise.
-- Assumes nothing.
use Rattle.std.specs.Prelude.{ℕ, Bool, not, List, [], ◌∷◌, ◌++◌, eqb}
use Rattle.topology_types.specs.declared.Link.{Link}
use Rattle.topology.specs.Written.{router_bytes, link_bytes, limit_bytes, joined_over}

-- a link whose costs differ
abbrev pub differing : Link → Bool
differing l = not (eqb l.cost l.back)

-- the stream of a next-hop limit, routers and links
abbrev pub stream_of : ℕ → List ℕ → List Link → List ℕ
stream_of limit ids links = limit_bytes limit ++ (joined_over router_bytes ids ++ (joined_over link_bytes links ++ (3 ∷ [])))
