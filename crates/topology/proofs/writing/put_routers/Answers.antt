-- A turn puts one more record behind the others.
-- Assumes nothing.
use Rattle.std.proofs.Common.{length, arith, ap}
use Rattle.std.proofs.Math.Seq.{take_all}
use Rattle.text.proofs.Stores.{joined, nothing}
use Rattle.topology.specs.Written.{joined_over, router_bytes}
use Rattle.topology.proofs.Joined.{router_five, joined_length, joined_more, joined_fits}
use Rattle.topology.proofs.writing.put_routers.Goals as goal

pub loop-id-init : goal.loop-id-init
unfolding joined_over
loop-id-init c = nothing c.args.page.now

pub put-requires : goal.put-requires
put-requires c =
    let ids = c.args.ids.now in
    let w = c.loop-id.invariant in
    omega (
      arith,
      w.long,
      w.put.after,
      ap length c.router_bytes.ensures,
      joined_fits router_bytes ids c.loop-id.id-index 0 c.loop-id-test.true,
      joined_length router_bytes router_five ids,
    )

pub loop-id-preserved : goal.loop-id-preserved
loop-id-preserved c =
    rw (joined_more router_bytes c.args.ids.now c.loop-id.id-index 0 c.loop-id-test.true, ← c.router_bytes.ensures) (joined c.loop-id.invariant c.put.ensures)

pub returns : goal.returns
returns c = rw (take_all c.loop-id.id-index c.args.ids.now c.loop-id-test.false) at c.loop-id.invariant
