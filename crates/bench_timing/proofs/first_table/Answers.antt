-- A sound topology has a router at place 0.
-- Assumes nothing.
use Rattle.std.proofs.Common.{arith}
use Rattle.topology_sound.proofs.Sound.{sound_exact}
use Rattle.bench_timing.proofs.first_table.Goals as goal

pub build-requires : goal.build-requires
build-requires c = (c.requires, c.of.ensures, omega (arith, ((sound_exact _).0 c.requires).routers_least))
