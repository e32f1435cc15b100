-- The paths from the start are gathered over an empty route.
use Rattle.std.proofs.Common.{arith}
use Rattle.paths.proofs.Turns.{rank_few}
use Rattle.paths.proofs.Start.{listed}
use Rattle.paths.proofs.unchecked.gather.Goals as goal

pub from_station-requires : goal.from_station-requires
from_station-requires c =
    record {
      topology = c.args.t.now;
      on = c.requires.0;
      short = omega (arith, rank_few c.requires.0);
      few = omega arith;
      room = c.requires.1;
    }

pub returns : goal.returns
returns c =
    let p = c.from_station.ensures c.args.t.now c.requires.0 in
    record { listed = listed c.requires.0 p.gathered; few = p.few }
