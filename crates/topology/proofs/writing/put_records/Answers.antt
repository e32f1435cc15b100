-- The parts, one behind the other, and room for each.
-- Assumes nothing.
use Rattle.std.proofs.Common.{arith}
use Rattle.topology.specs.Written.{limit_bytes}
use Rattle.text.proofs.Stores.{joined}
use Rattle.topology.proofs.Joined.{router_five, joined_length}
use Rattle.topology.specs.Written.{router_bytes}
use Rattle.topology.proofs.WrittenLength.{stream_length}
use Rattle.topology.proofs.writing.put_records.Goals as goal

pub put-requires : goal.put-requires
put-requires c = omega (arith, stream_length c.args.limit c.args.ids.now c.args.links.now)

pub put_routers-requires : goal.put_routers-requires
put_routers-requires c =
    omega (arith, stream_length c.args.limit c.args.ids.now c.args.links.now, c.put.ensures.long, c.put.ensures.put.after)

pub put_links-requires : goal.put_links-requires
put_links-requires c =
    omega (
      arith,
      stream_length c.args.limit c.args.ids.now c.args.links.now,
      c.put.ensures.long,
      c.put.ensures.put.after,
      c.put_routers.ensures.long,
      c.put_routers.ensures.put.after,
      joined_length router_bytes router_five c.args.ids.now,
    )

pub put-requires-2 : goal.put-requires-2
put-requires-2 c =
    omega (
      arith,
      stream_length c.args.limit c.args.ids.now c.args.links.now,
      c.put.ensures.long,
      c.put.ensures.put.after,
      c.put_routers.ensures.long,
      c.put_routers.ensures.put.after,
      c.put_links.ensures.long,
      c.put_links.ensures.put.after,
      joined_length router_bytes router_five c.args.ids.now,
    )

pub returns : goal.returns
unfolding limit_bytes
returns c = joined c.put.ensures (joined c.put_routers.ensures (joined c.put_links.ensures c.put-2.ensures))
