-- A number's bytes, the first of which counts 256 to the power of 3.
-- Assumes nothing.
use Rattle.std.proofs.Math.Nat.{div-one}
use Rattle.stream_rules.specs.Stream.{in_bytes}
use Rattle.topology.specs.Written.{router_bytes}
use Rattle.topology.proofs.writing.router_bytes.Goals as goal

pub returns : goal.returns
unfolding router_bytes in_bytes
returns c = rw c.to_be_bytes.ensures (rw div-one)
