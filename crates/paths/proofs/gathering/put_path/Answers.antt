-- A path is put behind the others, unless there are 512 already.
use Rattle.std.proofs.Common.{◌≡◌, ◌+◌, arith}
use Rattle.paths.specs.Inner.{found}
use Rattle.paths.proofs.Behind.{one, full}
use Rattle.paths.proofs.gathering.put_path.Goals as goal

pub returns-then-count-ge-PATHS : goal.returns-then-count-ge-PATHS
unfolding found
returns-then-count-ge-PATHS c = record { gathered = full c.requires.0 c.if-count-ge-PATHS.true; few = λ n e. cc }

pub returns : goal.returns
unfolding found
returns c =
    record {
      gathered = one (omega (arith, c.well_formed)) c.if-count-ge-PATHS.false c.requires.1 c.copy_from_slice.ensures.after;
      few = λ n e.
          let same : c.args.count + 1 ≡ n = cc in
          omega arith;
    }
