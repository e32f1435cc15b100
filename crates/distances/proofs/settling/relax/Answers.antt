-- `distances::settling::relax` meets its contract: a turn goes against one arc more.
-- Assumes nothing.
use Rattle.std.proofs.Common.{get_or}
use Rattle.arcs.specs.Inner.{returning}
use Rattle.arcs.proofs.Passed.{no_arc, listed, one_more}
use Rattle.distances.proofs.Relaxed.{relaxed_more}
use Rattle.distances.proofs.settling.relax.Goals as goal

pub bounds-ds-v : goal.bounds-ds-v
bounds-ds-v c = c.requires.0.leads _ (listed returning c.args.arcs.now c.loop-arc.arc-index c.loop-arc-test.true)

pub bounds-ds-v-in-loop-arc : goal.bounds-ds-v-in-loop-arc
bounds-ds-v-in-loop-arc c = c.requires.0.leads _ (listed returning c.args.arcs.now c.loop-arc.arc-index c.loop-arc-test.true)

pub loop-arc-preserved : goal.loop-arc-preserved
loop-arc-preserved c =
    let arcs = c.args.arcs.now in
    let i = c.loop-arc.arc-index in
    let h = c.loop-arc-test.true in
    rw (one_more returning arcs i h, c.min.ensures)
    (relaxed_more _ _ _ _ c.loop-arc.invariant (returning (get_or arcs i no_arc)) (c.requires.0.leads _ (listed returning arcs i h)))
