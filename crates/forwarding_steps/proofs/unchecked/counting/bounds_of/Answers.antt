-- A place's row lists places of lower ranks, whose counts are known.
use Rattle.std.proofs.Common.{◌≡◌, ℕ, suc, ◌≤◌, List, T, ap, ◌∙◌, arith}
use Rattle.network.specs.Lists.{greatest_by}
use Rattle.topology_types.specs.declared.Topology.{Topology}
use Rattle.topology_types.specs.Limits.{most_routers}
use Rattle.topology_sound.specs.Sound.{sound}
use Rattle.table.specs.Calls.{table_checking}
use Rattle.table.proofs.Fields.{rowed}
use Rattle.forwarding_rules.proofs.Listed.{Over, over}
use Rattle.forwarding_steps.specs.Inner.{bound_of, before}
use Rattle.forwarding_steps.proofs.Bounds.{few, none_known, all_known, next_rank, place_in, rank-in, bounded, higher, next-place}
use Rattle.forwarding_steps.proofs.unchecked.counting.bounds_of.Goals as goal

module _ (t : Topology) (table : List ℕ) where
  accepted : T (sound t) × (table_checking t table ≡ record { number = 0; at = 0 }) → Over t table
  accepted requires = over t requires.0 table requires.1

  most : T (sound t) × (table_checking t table ≡ record { number = 0; at = 0 }) → t.routers ≤ most_routers
  most requires = few (accepted requires) requires.0

pub chains_of-chains-requires : goal.chains_of-chains-requires
chains_of-chains-requires c = rw c.of-listed.ensures (most _ _ c.requires, (accepted _ _ c.requires).stands.long)

pub loop-rank-init : goal.loop-rank-init
loop-rank-init c = none_known (accepted _ _ c.requires) c.requires.0

pub offset_bounds-chains-rank : goal.offset_bounds-chains-rank
offset_bounds-chains-rank c = omega (arith, c.loop-rank-test.true, most _ _ c.requires)

pub bounds-chains-rank : goal.bounds-chains-rank
bounds-chains-rank c = omega (arith, c.loop-rank-test.true, most _ _ c.requires)

pub loop-place-init : goal.loop-place-init
loop-place-init c =
    let chained = rw c.of-listed.ensures at c.chains_of-chains.ensures in
    next_rank (accepted _ _ c.requires) c.requires.0 c.loop-rank.invariant c.loop-rank-test.true _ (chained.firsts _ c.loop-rank-test.true)

pub row-requires : goal.row-requires
row-requires c =
    let k = rw c.in-Some.is at c.loop-place.invariant in
    rw (c.of-listed.ensures, c.index-u.ensures) (rowed (accepted _ _ c.requires).stands _ (place_in (accepted _ _ c.requires) c.requires.0 k))

pub greatest_of-requires : goal.greatest_of-requires
greatest_of-requires c =
    let k = rw c.in-Some.is at c.loop-place.invariant in
    rw (c.row.ensures, c.of-listed.ensures, c.index-u.ensures) (bounded (accepted _ _ c.requires) c.requires.0 k)

pub bounds-bounds-u : goal.bounds-bounds-u
bounds-bounds-u c =
    let k = rw c.in-Some.is at c.loop-place.invariant in
    omega (arith, most _ _ c.requires, c.index-u.ensures, place_in (accepted _ _ c.requires) c.requires.0 k)

pub bounds-chains-u : goal.bounds-chains-u
bounds-chains-u c =
    let k = rw c.in-Some.is at c.loop-place.invariant in
    omega (arith, most _ _ c.requires, c.index-u.ensures, place_in (accepted _ _ c.requires) c.requires.0 k)

pub loop-place-smaller : goal.loop-place-smaller
unfolding before
loop-place-smaller c =
    let k = rw c.in-Some.is at c.loop-place.invariant in
    let chained = rw c.of-listed.ensures at c.chains_of-chains.ensures in
    let o = accepted _ _ c.requires in
    rw (c.in-Some.is, c.index-u.ensures) (higher o c.requires.0 k _ (chained.nexts _ (omega arith) (place_in o c.requires.0 k) (rank-in o c.requires.0 k)))

pub loop-place-preserved : goal.loop-place-preserved
loop-place-preserved c =
    let k = rw c.in-Some.is at c.loop-place.invariant in
    let chained = rw c.of-listed.ensures at c.chains_of-chains.ensures in
    let o = accepted _ _ c.requires in
    rw c.index-u.ensures
    (next-place o c.requires.0 k _ (chained.nexts _ (omega arith) (place_in o c.requires.0 k) (rank-in o c.requires.0 k)) c.greatest_of.result
    (c.greatest_of.ensures ∙ ap (greatest_by (λ v. suc (bound_of c.loop-place.bounds.by v))) (rw (c.of-listed.ensures, c.index-u.ensures) at c.row.ensures)))

pub loop-rank-preserved : goal.loop-rank-preserved
loop-rank-preserved c = rw c.in_default.is at c.loop-place.invariant

pub returns : goal.returns
returns c =
    let end : c.loop-rank.rank ≡ c.args.t.now.routers = omega arith in
    all_known (accepted _ _ c.requires) c.requires.0 _ (rw end at c.loop-rank.invariant)
