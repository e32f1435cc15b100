-- A cost's bytes behind the places.
-- Assumes nothing.
use Rattle.std.proofs.Math.Nat.{div-one}
use Rattle.stream_rules.specs.Stream.{in_bytes}
use Rattle.topology.specs.Written.{half_body}
use Rattle.topology.proofs.writing.half_bytes.Goals as goal

pub returns : goal.returns
unfolding half_body in_bytes
returns c = rw c.to_be_bytes.ensures (rw div-one)
