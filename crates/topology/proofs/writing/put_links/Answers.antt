-- A turn puts the records of one more behind the others.
-- Assumes nothing.
use Rattle.std.proofs.Common.{arith}
use Rattle.std.proofs.Math.Seq.{take_all}
use Rattle.topology_types.specs.Topology.{no_link}
use Rattle.text.proofs.Stores.{joined, nothing}
use Rattle.topology.specs.Written.{joined_over, link_bytes}
use Rattle.topology.proofs.Joined.{joined_more, joined_fits}
use Rattle.topology.proofs.writing.put_links.Goals as goal

pub loop-l-init : goal.loop-l-init
unfolding joined_over
loop-l-init c = nothing c.args.page.now

pub put_link-requires : goal.put_link-requires
unfolding no_link
put_link-requires c =
    let w = c.loop-l.invariant in
    omega (arith, w.long, w.put.after, joined_fits link_bytes c.args.links.now c.loop-l.l-index no_link c.loop-l-test.true)

pub loop-l-preserved : goal.loop-l-preserved
unfolding no_link
loop-l-preserved c =
    rw (joined_more link_bytes c.args.links.now c.loop-l.l-index no_link c.loop-l-test.true) (joined c.loop-l.invariant c.put_link.ensures)

pub returns : goal.returns
returns c = rw (take_all c.loop-l.l-index c.args.links.now c.loop-l-test.false) at c.loop-l.invariant
