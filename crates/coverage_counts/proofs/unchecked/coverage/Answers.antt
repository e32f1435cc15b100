-- A destination's counts more: a sound topology has 1 to 64 routers, so each has its slot and the counts are small.
-- Assumes nothing.
use Rattle.std.proofs.Common.{◌≡◌, ◌≤◌, ◌-◌, T, refl, arith}
use Rattle.std.proofs.Math.Nat.{mul-le-mul_left}
use Rattle.network.specs.Lists.{numbers_from, below}
use Rattle.topology_types.specs.declared.Topology.{Topology}
use Rattle.topology_types.specs.Topology.{padded}
use Rattle.topology_sound.specs.Sound.{sound}
use Rattle.topology_sound.proofs.Sound.{sound_exact}
use Rattle.topology.specs.Written.{joined_over}
use Rattle.coverage_rules.specs.Coverage.{pairs_of, covered_among, figures_counted}
use Rattle.coverage_rules.proofs.Counting.{covered_few, covered_more, listed_more}
use Rattle.coverage_rules.proofs.Right.{is_counted}
use Rattle.coverage_counts.proofs.unchecked.coverage.Goals as goal

few_routers : (t : Topology) → T (sound t) → t.routers ≤ 64
few_routers t good = ((sound_exact t).0 good).routers_most

pub loop-d-init : goal.loop-d-init
unfolding covered_among joined_over padded below numbers_from
loop-d-init c = record { counted = refl; few = omega arith; stored = refl }

pub overflow_cast-d : goal.overflow_cast-d
overflow_cast-d c = omega (arith, few_routers _ c.requires.0)

pub overflow_add-covered : goal.overflow_add-covered
overflow_add-covered c =
    omega (arith, few_routers _ c.requires.0, c.tally_for-tally.ensures.0, covered_few c.args.t.now c.requires.0 c.loop-d.d c.loop-d-test.true)

pub offset_bounds-listed-d : goal.offset_bounds-listed-d
offset_bounds-listed-d c = omega (arith, few_routers _ c.requires.0)

pub bounds-listed-d : goal.bounds-listed-d
bounds-listed-d c = omega (arith, few_routers _ c.requires.0)

pub loop-d-preserved : goal.loop-d-preserved
loop-d-preserved c =
    let t = c.args.t.now in
    let at = c.loop-d in
    let good = c.requires.0 in
    let counts = c.tally_for-tally.ensures in
    let few = few_routers t good in
    record {
      counted = omega (arith, counts.0, covered_more t t.routers at.d);
      few = omega (arith, counts.0, covered_few t good at.d c.loop-d-test.true);
      stored = rw (at.invariant.stored, counts.1) (listed_more t at.d (omega arith));
    }

pub overflow_sub-result : goal.overflow_sub-result
overflow_sub-result c = omega (arith, ((sound_exact _).0 c.requires.0).routers_least)

pub overflow_mul-result : goal.overflow_mul-result
overflow_mul-result c =
    let n = c.args.t.now.routers in
    let few : n ≤ 64 = few_routers _ c.requires.0 in
    let less : n - 1 ≤ 64 = omega arith in
    omega (arith, mul-le-mul_left n less)

pub invariant_of-result : goal.invariant_of-result
invariant_of-result c = record { few = few_routers _ c.requires.0 }

pub returns : goal.returns
unfolding figures_counted pairs_of
returns c =
    let at = c.loop-d in
    let all : at.d ≡ c.args.t.now.routers = omega arith in
    rw (is_counted _ c.requires.0, ← (rw all at at.invariant.counted), ← (rw all at at.invariant.stored))
