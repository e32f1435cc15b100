-- Writing a topology stream (01, Topology stream; Refusals, 14 and 24; 02, #101 and #105).
-- Assumes nothing.
use Rattle.std.specs.Prelude.{ℕ, cond, List, [], ◌∷◌, ◌++◌, eqb}
use Rattle.topology_types.specs.declared.Half.{Half}
use Rattle.topology_types.specs.declared.Link.{Link}
use Rattle.topology_types.specs.declared.Topology.{Topology}
use Rattle.topology_types.specs.Topology.{contents}
use Rattle.topology_types.specs.Outcome.{Outcome, turned_away, given}
use Rattle.topology_sound.specs.Sound.{sound}
use Rattle.stream_rules.specs.Stream.{in_bytes}
use Rattle.stream_rules.specs.Halves.{first_half, second_half}

-- what f gives over the list, one after the other
unfoldable pub joined_over : {A B : Type 0} → (A → List B) → List A → List B
joined_over f [] = []
joined_over f (x ∷ xs) = f x ++ joined_over f xs

-- kind 1, 4 bytes, its ID
unfoldable pub router_bytes : ℕ → List ℕ
router_bytes id = 1 ∷ in_bytes 4 id

-- 02, #105: the body of a half, from, to, cost (2); that of a link, place, place, cost (2), is its first half's
unfoldable pub half_body : Half → List ℕ
half_body h = h.from.0 ∷ h.to.0 ∷ in_bytes 2 h.cost

-- 02, #105: kind 4, from, to, cost (2)
unfoldable pub half_bytes : Half → List ℕ
half_bytes h = 4 ∷ half_body h

-- 02, #105: where the costs agree kind 2, place, place, cost (2); else both halves, the first place's first
unfoldable pub link_bytes : Link → List ℕ
link_bytes l = cond (eqb l.cost l.back) (2 ∷ half_body (first_half l)) (half_bytes (first_half l) ++ half_bytes (second_half l))

-- kind 8, K
unfoldable pub limit_bytes : ℕ → List ℕ
limit_bytes k = 8 ∷ k ∷ []

-- 02, #101: always record 8, first; 01, Topology stream: then routers by place, links by number with their places as read, and the end
unfoldable pub written : Topology → List ℕ
written t = limit_bytes t.limit ++ (joined_over router_bytes (contents t).ids ++ (joined_over link_bytes (contents t).links ++ (3 ∷ [])))

-- what writing a topology into a lent buffer leaves: 14, then 24
unfoldable pub writing : Topology → List ℕ → Outcome
writing t buffer = cond (sound t) (given (written t) buffer) (turned_away 14 0 buffer)
