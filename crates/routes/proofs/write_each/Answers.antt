-- A place of a sound topology fits a byte.
-- Assumes nothing.
use Rattle.std.proofs.Common.{arith}
use Rattle.topology_sound.proofs.Sound.{sound_exact}
use Rattle.routes.proofs.write_each.Goals as goal

pub overflow_cast-d : goal.overflow_cast-d
overflow_cast-d c = omega (arith, ((sound_exact c.args.t.now).0 c.requires.0).routers_most)
