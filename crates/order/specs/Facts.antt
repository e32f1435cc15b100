-- The examples of 01, Refusals and where they point, for building and checking orders, and orders that succeed, as one list: the call and what it
-- answers. A new fact is one line.
-- Assumes nothing.
use Rattle.std.specs.Prelude.{ℕ, Bool, ◌&&◌, List, [], ◌∷◌, T, eqb}
use Rattle.network.specs.Lists.{every, same_numbers}
use Rattle.topology_types.specs.declared.Answer.{Answer}
use Rattle.topology_types.specs.declared.Link.{Link}
use Rattle.topology_types.specs.declared.Topology.{Topology}
use Rattle.topology_types.specs.Topology.{held, zeros}
use Rattle.order_standings.specs.declared.Mode.{Mode}
use Rattle.order_standings.specs.declared.Mode.TheVariants as mode
use Rattle.order.specs.Calls.{building, checking}

pub data Fact : Type 0 where
  -- checking an order answers a number, at
  checks : Topology → ℕ → Mode → List ℕ → ℕ → ℕ → Fact
  -- building into a buffer answers a number, at, and leaves these bytes
  builds : Topology → ℕ → Mode → List ℕ → ℕ → ℕ → List ℕ → Fact

unfoldable pub answers : Answer → ℕ → ℕ → Bool
answers a number at = eqb a.number number && eqb a.at at

unfoldable pub holds : Fact → Bool
holds (checks t d m order number at) = answers (checking t d m order) number at
holds (builds t d m buffer number at bytes) =
    answers (building t d m buffer).answer number at && same_numbers (building t d m buffer).buffer bytes

-- a link at one cost both ways, and one with a cost for each direction
unfoldable pub link : ℕ → ℕ → ℕ → Link
link first second cost = record { first = record { 0 = first }; second = record { 0 = second }; cost = cost; back = cost }

unfoldable pub two_costs : ℕ → ℕ → ℕ → ℕ → Link
two_costs first second cost back = record { first = record { 0 = first }; second = record { 0 = second }; cost = cost; back = back }

-- 01, Two networks by hand: T, its K that of a stream that gives none
unfoldable pub T-topology : Topology
T-topology = held (record { ids = 1 ∷ 2 ∷ 3 ∷ []; links = link 0 1 1 ∷ link 1 2 1 ∷ link 0 2 3 ∷ []; limit = 3 })

-- 01, Plausible and wrong: place 3 has the two shortest next hops 1 and 2 to place 0
unfoldable pub square : Topology
square = held (record { ids = 1 ∷ 2 ∷ 3 ∷ 4 ∷ []; links = link 0 1 1 ∷ link 0 2 1 ∷ link 1 3 1 ∷ link 2 3 1 ∷ []; limit = 3 })

-- 02, #105: a triangle whose links cost more from their first place than from their second. For destination 0 the distance of place 1 is 1, and that of
-- place 2 is 3, since going by way of place 1 costs 5 + 1: neither waits for the other, and place 2, whose ID is higher, is placed first. For destination
-- 2 the distance of place 1 is 1, and that of place 0 is 2 + 1, since its own link costs 9: it waits for place 1. For destination 1 the distance of place 0
-- is 2, and that of place 2 is 5, by its own link and as 3 + 2: it waits for place 0.
unfoldable pub directed : Topology
directed = held (record { ids = 1 ∷ 2 ∷ 3 ∷ []; links = two_costs 0 1 2 1 ∷ two_costs 0 2 9 3 ∷ two_costs 2 1 5 1 ∷ []; limit = 3 })

-- the same triangle with the one cost or the other for both directions. For destination 0 the distance of place 2 is 5 + 2, its own link costing 9, or
-- 1 + 1, its own link costing 3: in either it waits for place 1.
unfoldable pub costs_there : Topology
costs_there = held (record { ids = 1 ∷ 2 ∷ 3 ∷ []; links = link 0 1 2 ∷ link 0 2 9 ∷ link 2 1 5 ∷ []; limit = 3 })

unfoldable pub costs_back : Topology
costs_back = held (record { ids = 1 ∷ 2 ∷ 3 ∷ []; links = link 0 1 1 ∷ link 0 2 3 ∷ link 2 1 1 ∷ []; limit = 3 })

-- 02, #107: T with a fourth router that has no link; two pairs apart; and two routers with no link. For a destination only the routers of its own part are
-- reached: three of `cut_off` for destination 0, and one for destination 3.
unfoldable pub cut_off : Topology
cut_off = held (record { ids = 1 ∷ 2 ∷ 3 ∷ 4 ∷ []; links = link 0 1 1 ∷ link 1 2 1 ∷ link 0 2 3 ∷ []; limit = 3 })

unfoldable pub two_parts : Topology
two_parts = held (record { ids = 1 ∷ 2 ∷ 3 ∷ 4 ∷ []; links = link 0 1 1 ∷ link 2 3 1 ∷ []; limit = 3 })

unfoldable pub pair : Topology
pair = held (record { ids = 1 ∷ 2 ∷ []; links = []; limit = 3 })

-- By number of the refusal, each beside one that is tested later; then the calls that succeed. 170 is what the buffers hold.
unfoldable pub facts : List Fact
facts =
    checks zeros 0 mode.ShortestPath [] 14 0
    ∷ checks zeros 5 mode.Free (0 ∷ []) 14 0
    ∷ builds zeros 0 mode.Free (170 ∷ []) 14 0 (170 ∷ [])
    ∷ checks T-topology 3 mode.ShortestPath (0 ∷ 1 ∷ 2 ∷ []) 15 3
    ∷ checks T-topology 255 mode.Free [] 15 255
    ∷ builds T-topology 3 mode.ShortestPath [] 15 3 []
    ∷ checks cut_off 4 mode.Free (0 ∷ 1 ∷ 2 ∷ []) 15 4
    ∷ checks T-topology 0 mode.ShortestPath (0 ∷ 1 ∷ []) 17 2
    ∷ checks T-topology 0 mode.ShortestPath (0 ∷ 0 ∷ 0 ∷ 0 ∷ []) 17 4
    ∷ checks T-topology 0 mode.Free [] 17 0
    ∷ checks cut_off 0 mode.ShortestPath (0 ∷ 1 ∷ 2 ∷ []) 17 3
    ∷ checks cut_off 0 mode.Free (0 ∷ 1 ∷ 1 ∷ []) 17 3
    ∷ checks T-topology 0 mode.ShortestPath (0 ∷ 1 ∷ 1 ∷ []) 18 2
    ∷ checks T-topology 0 mode.ShortestPath (0 ∷ 3 ∷ 0 ∷ []) 18 1
    ∷ checks T-topology 0 mode.ShortestPath (1 ∷ 1 ∷ 0 ∷ []) 18 1
    ∷ checks cut_off 0 mode.ShortestPath (0 ∷ 255 ∷ 1 ∷ 2 ∷ []) 18 1
    ∷ checks cut_off 0 mode.Free (0 ∷ 1 ∷ 255 ∷ 255 ∷ []) 18 2
    ∷ checks cut_off 0 mode.ShortestPath (0 ∷ 1 ∷ 1 ∷ 3 ∷ []) 18 2
    ∷ checks cut_off 0 mode.ShortestPath (0 ∷ 1 ∷ 2 ∷ 3 ∷ []) 18 3
    ∷ checks cut_off 0 mode.Free (0 ∷ 2 ∷ 1 ∷ 4 ∷ []) 18 3
    ∷ checks cut_off 0 mode.ShortestPath (1 ∷ 0 ∷ 2 ∷ 3 ∷ []) 18 3
    ∷ checks cut_off 0 mode.ShortestPath (0 ∷ 2 ∷ 1 ∷ 3 ∷ []) 18 3
    ∷ checks cut_off 0 mode.Free (0 ∷ 3 ∷ 1 ∷ 2 ∷ []) 18 3
    ∷ checks cut_off 3 mode.Free (255 ∷ 255 ∷ 255 ∷ 255 ∷ []) 18 0
    ∷ checks pair 0 mode.Free (0 ∷ 1 ∷ []) 18 1
    ∷ checks two_parts 0 mode.ShortestPath (2 ∷ 3 ∷ 0 ∷ 1 ∷ []) 18 2
    ∷ checks T-topology 0 mode.ShortestPath (1 ∷ 0 ∷ 2 ∷ []) 19 0
    ∷ checks T-topology 0 mode.ShortestPath (2 ∷ 1 ∷ 0 ∷ []) 19 0
    ∷ checks cut_off 0 mode.ShortestPath (2 ∷ 1 ∷ 0 ∷ 255 ∷ []) 19 0
    ∷ checks cut_off 0 mode.Free (3 ∷ 0 ∷ 1 ∷ 255 ∷ []) 19 0
    ∷ checks two_parts 0 mode.ShortestPath (2 ∷ 3 ∷ 255 ∷ 255 ∷ []) 19 0
    ∷ checks T-topology 0 mode.ShortestPath (0 ∷ 2 ∷ 1 ∷ []) 20 1
    ∷ checks square 0 mode.ShortestPath (0 ∷ 2 ∷ 3 ∷ 1 ∷ []) 20 2
    ∷ checks square 0 mode.Free (0 ∷ 3 ∷ 2 ∷ 1 ∷ []) 20 1
    ∷ checks directed 2 mode.ShortestPath (2 ∷ 0 ∷ 1 ∷ []) 20 1
    ∷ checks costs_there 0 mode.ShortestPath (0 ∷ 2 ∷ 1 ∷ []) 20 1
    ∷ checks costs_back 0 mode.ShortestPath (0 ∷ 2 ∷ 1 ∷ []) 20 1
    ∷ checks cut_off 0 mode.ShortestPath (0 ∷ 1 ∷ 3 ∷ 255 ∷ []) 20 2
    ∷ checks cut_off 0 mode.Free (0 ∷ 3 ∷ 1 ∷ 255 ∷ []) 20 1
    ∷ checks cut_off 0 mode.ShortestPath (0 ∷ 2 ∷ 1 ∷ 255 ∷ []) 20 1
    ∷ builds T-topology 0 mode.ShortestPath (170 ∷ 170 ∷ []) 24 3 (170 ∷ 170 ∷ [])
    ∷ builds cut_off 0 mode.ShortestPath (170 ∷ 170 ∷ 170 ∷ []) 24 4 (170 ∷ 170 ∷ 170 ∷ [])
    ∷ checks T-topology 0 mode.ShortestPath (0 ∷ 1 ∷ 2 ∷ []) 0 0
    ∷ checks T-topology 0 mode.Free (0 ∷ 2 ∷ 1 ∷ []) 0 0
    ∷ checks square 0 mode.ShortestPath (0 ∷ 1 ∷ 2 ∷ 3 ∷ []) 0 0
    ∷ checks square 0 mode.Free (0 ∷ 2 ∷ 3 ∷ 1 ∷ []) 0 0
    ∷ checks directed 0 mode.ShortestPath (0 ∷ 2 ∷ 1 ∷ []) 0 0
    ∷ checks cut_off 0 mode.ShortestPath (0 ∷ 1 ∷ 2 ∷ 255 ∷ []) 0 0
    ∷ checks cut_off 0 mode.Free (0 ∷ 2 ∷ 1 ∷ 255 ∷ []) 0 0
    ∷ checks cut_off 3 mode.ShortestPath (3 ∷ 255 ∷ 255 ∷ 255 ∷ []) 0 0
    ∷ checks two_parts 3 mode.Free (3 ∷ 2 ∷ 255 ∷ 255 ∷ []) 0 0
    ∷ builds T-topology 0 mode.ShortestPath (170 ∷ 170 ∷ 170 ∷ []) 0 3 (0 ∷ 1 ∷ 2 ∷ [])
    ∷ builds T-topology 0 mode.Free (170 ∷ 170 ∷ 170 ∷ 170 ∷ []) 0 3 (0 ∷ 2 ∷ 1 ∷ 170 ∷ [])
    ∷ builds square 0 mode.ShortestPath (170 ∷ 170 ∷ 170 ∷ 170 ∷ []) 0 4 (0 ∷ 2 ∷ 1 ∷ 3 ∷ [])
    ∷ builds directed 0 mode.ShortestPath (170 ∷ 170 ∷ 170 ∷ []) 0 3 (0 ∷ 2 ∷ 1 ∷ [])
    ∷ builds costs_there 0 mode.ShortestPath (170 ∷ 170 ∷ 170 ∷ []) 0 3 (0 ∷ 1 ∷ 2 ∷ [])
    ∷ builds costs_back 0 mode.ShortestPath (170 ∷ 170 ∷ 170 ∷ []) 0 3 (0 ∷ 1 ∷ 2 ∷ [])
    ∷ builds directed 1 mode.ShortestPath (170 ∷ 170 ∷ 170 ∷ []) 0 3 (1 ∷ 0 ∷ 2 ∷ [])
    ∷ builds directed 2 mode.ShortestPath (170 ∷ 170 ∷ 170 ∷ []) 0 3 (2 ∷ 1 ∷ 0 ∷ [])
    ∷ builds cut_off 0 mode.ShortestPath (170 ∷ 170 ∷ 170 ∷ 170 ∷ []) 0 4 (0 ∷ 1 ∷ 2 ∷ 255 ∷ [])
    ∷ builds cut_off 0 mode.Free (170 ∷ 170 ∷ 170 ∷ 170 ∷ 170 ∷ []) 0 4 (0 ∷ 2 ∷ 1 ∷ 255 ∷ 170 ∷ [])
    ∷ builds cut_off 3 mode.Free (170 ∷ 170 ∷ 170 ∷ 170 ∷ 170 ∷ []) 0 4 (3 ∷ 255 ∷ 255 ∷ 255 ∷ 170 ∷ [])
    ∷ builds two_parts 0 mode.ShortestPath (170 ∷ 170 ∷ 170 ∷ 170 ∷ []) 0 4 (0 ∷ 1 ∷ 255 ∷ 255 ∷ [])
    ∷ builds two_parts 3 mode.Free (170 ∷ 170 ∷ 170 ∷ 170 ∷ 170 ∷ []) 0 4 (3 ∷ 2 ∷ 255 ∷ 255 ∷ 170 ∷ [])
    ∷ builds pair 0 mode.ShortestPath (170 ∷ 170 ∷ []) 0 2 (0 ∷ 255 ∷ [])
    ∷ []

-- The one statement: every fact of the list holds, by computing it.
abbrev pub FactsHold : Type 0
FactsHold = T (every holds facts)
