-- The bytes from `at` on begin with the two places, and the two that `be16` reads.
-- Assumes nothing.
use Rattle.std.proofs.Common.{◌+◌, arith}
use Rattle.stream_rules.specs.Stream.{half_in}
use Rattle.stream_rules.proofs.Stream.{two-bytes, two-at}
use Rattle.stream.proofs.bytes.half_at.Goals as goal

pub returns : goal.returns
unfolding half_in
returns c =
    let a = c.args in
    rw (two-bytes a.s.now a.at (omega arith)) (rw (c.be16.ensures, two-at a.s.now (a.at + 2) (omega arith)))
