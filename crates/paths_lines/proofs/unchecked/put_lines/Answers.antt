-- The lines go by how many paths were gathered.
-- Assumes nothing.
use Rattle.std.proofs.Common.{arith, refl}
use Rattle.paths.specs.Inner.{found}
use Rattle.paths_lines.proofs.From.{passed, small, too-many, gathered, are}
use Rattle.paths_lines.proofs.unchecked.put_lines.Goals as goal

pub gather-requires : goal.gather-requires
gather-requires c = (passed c.requires.0, omega (arith, c.room_for_paths-paths.ensures))

pub put_paths-requires : goal.put_paths-requires
unfolding found
put_paths-requires c =
    let (toward, room) = c.requires in (
      (small toward).0,
      (small toward).1,
      gathered toward c.in-Some.ensures.listed (c.in-Some.ensures.few _ refl) (omega (arith, c.room_for_paths-paths.ensures)),
      room,
    )

pub returns-in-Some : goal.returns-in-Some
unfolding found
returns-in-Some c =
    rw (← are c.requires.0 c.in-Some.ensures.listed (c.in-Some.ensures.few _ refl) (omega (arith, c.room_for_paths-paths.ensures))) c.put_paths.ensures

pub returns-in-None : goal.returns-in-None
unfolding found
returns-in-None c = rw (too-many c.requires.0 c.in-None.ensures.listed (omega arith)) c.put_too_many.ensures
