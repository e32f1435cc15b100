-- The pairs of the destinations passed were counted, and what their rows list stands in their slots.
-- Assumes nothing.
use Rattle.std.proofs.Common.{◌≡◌, ◌≤◌, ◌*◌, map}
use Rattle.network.specs.Lists.{below}
use Rattle.topology_types.specs.Topology.{padded}
use Rattle.topology.specs.Written.{joined_over}
use Rattle.coverage_rules.specs.Coverage.{pairs_to, covered_among, listed_for}
use Rattle.coverage_counts.proofs.unchecked.coverage.Given as goal

abbrev pub invariant-loop-d : goal.invariant-loop-d
invariant-loop-d l = record {
  counted : l.covered ≡ covered_among l.t (joined_over (pairs_to l.t.routers) (below l.d));
  few : l.covered ≤ 64 * l.d;
  stored : l.listed ≡ padded 0 64 (map (listed_for l.t) (below l.d));
}
