-- The coverage figures (02, #102), over `network`'s rows: the pairs of a router and another destination that have two or more next hops, and the next
-- hops that the rows of each destination list.
-- Assumes nothing.
use Rattle.std.specs.Prelude.{ℕ, ◌*◌, ◌-◌, Bool, cond, not, List, [], map, eqb, leb, length, Result, Ok, Err}
use Rattle.network.specs.Lists.{below, keep}
use Rattle.network.specs.Network.{Arc}
use Rattle.network.specs.Distance.{distances}
use Rattle.network.specs.Order.{shortest-path, build}
use Rattle.network.specs.Row.{row}
use Rattle.topology_types.specs.declared.Refusal.{Refusal}
use Rattle.topology_types.specs.declared.Topology.{Topology}
use Rattle.topology_types.specs.Limits.{most_routers}
use Rattle.topology_types.specs.Outcome.{answer, refused}
use Rattle.topology_types.specs.Topology.{padded, network_of}
use Rattle.topology_sound.specs.Sound.{sound}
use Rattle.topology.specs.Written.{joined_over}
use Rattle.coverage_rules.specs.declared.Coverage as code
use Rattle.coverage_rules.specs.declared.CoverageAnswer.{CoverageAnswer}

-- 02, #102, the listing's tables: the row of router u for destination d, under the order that is built in shortest-path mode and with the topology's K
unfoldable pub row_for : Topology → ℕ → ℕ → List Arc
row_for t d u = row (network_of t) (distances (network_of t) d) t.limit (build (network_of t) d shortest-path) u

-- a router and a destination
pub record Pair : Type 0 where
  pub router : ℕ
  pub destination : ℕ

-- 02, #102, N(N - 1): the pairs of a router and another destination, of so many routers; those of destination d, and all of them
unfoldable pub pairs_to : ℕ → ℕ → List Pair
pairs_to count d = map (λ u. record { router = u; destination = d }) (keep (λ u. not (eqb u d)) (below count))

unfoldable pub pairs_of : ℕ → List Pair
pairs_of count = joined_over (pairs_to count) (below count)

-- 02, #102: two or more next hops
unfoldable pub has_two : Topology → Pair → Bool
has_two t p = leb 2 (length (row_for t p.destination p.router))

-- 02, #102: how many of these pairs have two or more next hops
unfoldable pub covered_among : Topology → List Pair → ℕ
covered_among t pairs = length (keep (has_two t) pairs)

-- 02, #102, and 01, Packet, hop and schedule: the listed next hops of a destination, the entries of its rows, and how many there are
unfoldable pub listed_for : Topology → ℕ → ℕ
listed_for t d = length (joined_over (row_for t d) (below t.routers))

-- The answer of the call, and the figures: how many pairs are covered, and how many there are; how many destinations, and by place how many next hops the
-- rows of each list; and the number of links.
abbrev pub Coverage : Type 0
Coverage = CoverageAnswer

-- 02, #102: the figures of a sound topology; a link counts once, where 001 doubles it
unfoldable pub figures_counted : Topology → CoverageAnswer
figures_counted t =
    record {
      answer = answer 0 0;
      covered = covered_among t (pairs_of t.routers);
      pairs = t.routers * (t.routers - 1);
      destinations = t.routers;
      links = t.links;
      listed = padded 0 most_routers (map (listed_for t) (below t.routers));
    }

-- the figures that the code hands over, a success
abbrev pub figures_of : code.Coverage → CoverageAnswer
figures_of c =
    record { answer = answer 0 0; covered = c.covered; pairs = c.pairs; destinations = c.destinations; links = c.links; listed = c.listed }

-- what a call's result stands for; all numbers of a refusal are zero
abbrev pub coverage_of : Result code.Coverage Refusal → CoverageAnswer
coverage_of (Ok c) = figures_of c
coverage_of (Err r) =
    record { answer = refused r; covered = 0; pairs = 0; destinations = 0; links = 0; listed = padded 0 most_routers [] }

-- 01, Refusals, 14: all numbers are zero
unfoldable pub nothing_counted : CoverageAnswer
nothing_counted =
    record { answer = answer 14 0; covered = 0; pairs = 0; destinations = 0; links = 0; listed = padded 0 most_routers [] }

-- 02, #102, refused: 14 only
unfoldable pub coverage : Topology → CoverageAnswer
coverage t = cond (sound t) (figures_counted t) nothing_counted
