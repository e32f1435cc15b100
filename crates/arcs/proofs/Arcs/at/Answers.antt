-- `arcs::Arcs::at` meets its contract: the slots from the first on.
-- Assumes nothing.
use Rattle.std.proofs.Common.{◌≡◌, ◌+◌, ◌-◌, ◌*◌, get_or, arith}
use Rattle.arcs.specs.Inner.{arcs_at}
use Rattle.arcs.proofs.Arcs.at.Goals as goal

pub returns : goal.returns
unfolding arcs_at
returns c =
    let n : c.args.u * 16 + get_or c.args.self.now.count c.args.u 0 - c.args.u * 16 ≡ get_or c.args.self.now.count c.args.u 0 = omega arith in
    rw n
