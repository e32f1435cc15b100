-- A stream that is read has a sound topology; the line of a refused one fits.
-- Assumes nothing.
use Rattle.std.proofs.Common.{arith, sym, length-take-le}
use Rattle.program_io.proofs.Right.{refused_length, read_sound}
use Rattle.routes.proofs.write_for.Goals as goal

pub slice_bounds-write_all-end : goal.slice_bounds-write_all-end
slice_bounds-write_all-end c = omega (arith, refused_length c.answer.result)

pub slice_bounds-write_all-end-in-Err : goal.slice_bounds-write_all-end-in-Err
slice_bounds-write_all-end-in-Err c = sym (length-take-le _ _ (omega (arith, refused_length c.answer.result)))

pub of-requires : goal.of-requires
of-requires c = read_sound c.args.stream.now c.type_inv.stream c.in-Ok.t c.in-Ok.ensures

pub write_each-requires : goal.write_each-requires
write_each-requires c = (read_sound c.args.stream.now c.type_inv.stream c.in-Ok.t c.in-Ok.ensures, c.of.ensures, omega arith)
