-- One byte more is put by each turn.
use Rattle.std.proofs.Common.{◌<◌, refl, arith}
use Rattle.std.proofs.lemmas.List.{get_or-take}
use Rattle.network.specs.Lists.{numbers_from, below}
use Rattle.order.proofs.Runs.{fill_more}
use Rattle.forwarding_steps.specs.Inner.{bound_of}
use Rattle.forwarding_steps.proofs.unchecked.counting.Bounds.put.Goals as goal

pub loop-u-init : goal.loop-u-init
unfolding below numbers_from
loop-u-init c = refl

pub loop-u-preserved : goal.loop-u-preserved
unfolding bound_of
loop-u-preserved c =
    let h : c.loop-u.u < c.args.n = omega (arith, c.loop-u-test.true) in
    rw (c.loop-u.invariant, get_or-take c.args.n c.args.self.now.by c.loop-u.u (record { 0 = 0 }) h)
    (fill_more (bound_of c.args.self.now.by) 0 c.args.out.now c.loop-u.u (omega (arith, c.requires.1)))
