-- The lines of a start fit in the room, and what is put stays within it.
-- Assumes nothing.
use Rattle.std.proofs.Common.{arith, sym, length-take-le}
use Rattle.paths_lines.proofs.From.{lines_length}
use Rattle.routes.proofs.write_from.Goals as goal

pub slice_bounds-write_all-end : goal.slice_bounds-write_all-end
slice_bounds-write_all-end c = omega (arith, lines_length c.requires.0)

pub slice_bounds-write_all-end-2 : goal.slice_bounds-write_all-end-2
slice_bounds-write_all-end-2 c = sym (length-take-le _ _ (omega (arith, lines_length c.requires.0)))
