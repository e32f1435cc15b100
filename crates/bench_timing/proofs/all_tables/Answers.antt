-- The places of a sound topology are bytes.
-- Assumes nothing.
use Rattle.std.proofs.Common.{arith, T, rules}
use Rattle.topology_sound.specs.Sound.{sound}
use Rattle.topology_sound.proofs.Sound.{sound_exact}
use Rattle.bench_timing.proofs.all_tables.Goals as goal

pub overflow_cast-d : goal.overflow_cast-d
overflow_cast-d c =
    let good : T (sound c.args.t) = search rules in
    omega (arith, ((sound_exact _).0 good).routers_most)
