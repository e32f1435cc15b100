-- The record, or the two halves one behind the other, are the link's bytes.
-- Assumes nothing.
use Rattle.std.proofs.Common.{length, ap, arith}
use Rattle.stream_rules.specs.Stream.{in_bytes}
use Rattle.stream_rules.specs.Halves.{first_half, second_half}
use Rattle.text.proofs.Stores.{joined}
use Rattle.topology.specs.Written.{half_body, half_bytes}
use Rattle.topology.proofs.LinkBytes.{agreeing_bytes, agreeing_long, differing_bytes, differing_long}
use Rattle.topology.proofs.writing.put_link.Goals as goal

pub put-requires : goal.put-requires
unfolding half_body in_bytes
put-requires c = omega (arith, agreeing_long c.args.l c.if-l.true, ap length c.half_bytes.ensures)

pub put-requires-else-l : goal.put-requires-else-l
unfolding half_body in_bytes
put-requires-else-l c = omega (arith, differing_long c.args.l c.if-l.false, ap length c.half_bytes-else-l.ensures)

pub put-requires-else-l-2 : goal.put-requires-else-l-2
unfolding half_body in_bytes
put-requires-else-l-2 c =
    omega (
      arith,
      differing_long c.args.l c.if-l.false,
      ap length c.half_bytes-else-l.ensures,
      ap length c.half_bytes-else-l-2.ensures,
      c.put-else-l.ensures.long,
      c.put-else-l.ensures.put.after,
    )

pub returns-then-l : goal.returns-then-l
unfolding first_half
returns-then-l c = rw (agreeing_bytes c.args.l c.if-l.true, ← c.half_bytes.ensures) c.put.ensures

pub returns-else-l : goal.returns-else-l
unfolding first_half second_half half_bytes
returns-else-l c =
    rw (differing_bytes c.args.l c.if-l.false)
    (rw (c.half_bytes-else-l.ensures, c.half_bytes-else-l-2.ensures) at (joined c.put-else-l.ensures c.put-else-l-2.ensures))
