-- A worked fact: which network, destination and mode, what is asked of the order that is built for it, and what is expected.
-- Assumes nothing.
use Rattle.std.specs.Prelude.{ℕ, Bool, true, false, cond, ◌&&◌, List, [], ◌∷◌, map, eqb}
use Rattle.network.specs.Lists.{below, member, same_numbers}
use Rattle.network.specs.Network.{Network}
use Rattle.network.specs.Distance.{distances}
use Rattle.network.specs.Order.{Mode, build}
use Rattle.network.specs.Row.{row}
use Rattle.network.specs.Forwarding.{Packet, start, route}
use Rattle.network.specs.Calls.{Call, setting, hopping, after_calls}
use Rattle.network.specs.Routing.{routers, greatest_hops_lem, every_path, call_tests, cost_of_lem}

-- One call on a packet: a setting at a start, or a hop under a row of link states.
pub data Step : Type 0 where
  set : ℕ → Step
  hop : List ℕ → Step

pub data Claim : Type 0 where
  -- the order
  order_is : List ℕ → Claim
  -- with the limit K, the places of the row of a router
  row_is : ℕ → ℕ → List ℕ → Claim
  -- with the limit K, the greatest hop count of every place, 0 where it has no path
  greatest_are : ℕ → List ℕ → Claim
  -- with the limit K, every path from a start
  paths_are : ℕ → ℕ → List (List ℕ) → Claim
  -- with the limit K, what the arcs of a walk from a start under a schedule cost
  walk_costs : ℕ → ℕ → List (List ℕ) → ℕ → Claim
  -- with the limit K, the station and the hops made of a packet after a list of calls, at first at place 0 with 0 hops made
  calls_leave : ℕ → List Step → ℕ → ℕ → Claim

pub record Fact : Type 0 where
  pub network : Network
  pub destination : ℕ
  pub mode : Mode
  pub claim : Claim

-- a row of link states: all links of the network up but these
unfoldable pub up_but : Network → List ℕ → List ℕ
up_but n down = map (λ link. cond (member link down) 0 1) (below n.links)

unfoldable pub left_at : Packet ℕ → ℕ → ℕ → Bool
left_at p station hops = eqb p.station station && eqb p.hops hops

unfoldable pub call_of : (n : Network) (d limit : ℕ) (order : List ℕ) → Step → Call (routers n d limit order)
call_of n d limit order (set u) = setting u
call_of n d limit order (hop states) = hopping states

-- two lists hold the same paths, in the same order
unfoldable pub same_paths : List (List ℕ) → List (List ℕ) → Bool
same_paths [] [] = true
same_paths [] (q ∷ qs) = false
same_paths (p ∷ ps) [] = false
same_paths (p ∷ ps) (q ∷ qs) = same_numbers p q && same_paths ps qs

-- the claim about a network, a destination and an order
unfoldable pub claim_holds : Network → ℕ → List ℕ → Claim → Bool
claim_holds n d order (order_is expected) = same_numbers order expected
claim_holds n d order (row_is limit u expected) = same_numbers (map (λ a. a.to) (row n (distances n d) limit order u)) expected
claim_holds n d order (greatest_are limit expected) = same_numbers (greatest_hops_lem n d limit order) expected
claim_holds n d order (paths_are limit u expected) = same_paths (every_path n d limit order u) expected
claim_holds n d order (walk_costs limit u schedule expected) = eqb (cost_of_lem (route (routers n d limit order) schedule u)) expected
claim_holds n d order (calls_leave limit steps station hops) =
    left_at (after_calls (routers n d limit order) (call_tests n d limit order) (map (call_of n d limit order) steps) (start 0)) station hops

unfoldable pub holds : Fact → Bool
holds fact = claim_holds fact.network fact.destination (build fact.network fact.destination fact.mode) fact.claim
