-- The records of a topology stream (01, Topology stream).
-- Assumes nothing.
use Rattle.std.specs.Prelude.{ℕ}
use Rattle.topology_types.specs.declared.Half as half

-- One record of the stream, or the number of the refusal that stands in its place. A link's record, kind 2, counts as both its halves, the second the
-- opposite of the one it has here (02, #105).
pub data Record : Type 0 where
  Router : ℕ → Record
  Link : half.Half → Record
  Half : half.Half → Record
  Limit : ℕ → Record
  End : Record
  Refused : ℕ → Record
