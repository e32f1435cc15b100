-- The walk stops at the first malformed LSA, or ends where there is none.
-- Assumes nothing.
use Rattle.std.proofs.Common.{refl, rules, arith}
use Rattle.ospf_lsas.specs.Lsa.{lsas}
use Rattle.ospf_lsas.proofs.Walk.{at_first, none_malformed, stopped, moved}
use Rattle.ospf_lsas.proofs.Lsas.of.Goals as goal

pub loop-at-init : goal.loop-at-init
loop-at-init c = at_first c.args.file.now

pub overflow_add-at : goal.overflow_add-at
overflow_add-at c = omega (arith, (moved c.loop-at.invariant c.loop-at-test.true c.in-Some.length c.in-Some.ensures).0.inside)

pub loop-at-smaller : goal.loop-at-smaller
loop-at-smaller c =
    let (next, more) = moved c.loop-at.invariant c.loop-at-test.true c.in-Some.length c.in-Some.ensures in
    omega (arith, next.inside, more)

pub loop-at-preserved : goal.loop-at-preserved
loop-at-preserved c = (moved c.loop-at.invariant c.loop-at-test.true c.in-Some.length c.in-Some.ensures).0

pub returns-in-None : goal.returns-in-None
returns-in-None c = rw c.at.ensures (refl, stopped c.loop-at.invariant c.loop-at-test.true c.in-None.ensures, c.loop-at-test.true)

pub invariant_of-result : goal.invariant_of-result
unfolding lsas
invariant_of-result c = record { formed = (none_malformed c.loop-at.invariant c.loop-at-test.false).1; fits = search rules }

pub returns : goal.returns
returns c = (refl, refl, (none_malformed c.loop-at.invariant c.loop-at-test.false).0)
