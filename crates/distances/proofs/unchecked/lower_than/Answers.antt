-- `distances::unchecked::lower_than` meets its contract.
-- Assumes nothing.
use Rattle.std.proofs.Common.{take, arith}
use lib.Dec.{ltb}
use lib.Seq.{length-take-le}
use Rattle.std.proofs.lemmas.List.Sums.{length-filter, count_by-le-length}
use Rattle.distances.proofs.unchecked.lower_than.Goals as goal

pub overflow_add-lower : goal.overflow_add-lower
overflow_add-lower c =
    let numbers = c.args.numbers.now in
    omega (
      arith,
      length-filter (λ x. ltb x c.args.limit) (take c.loop-v.v numbers),
      count_by-le-length (λ x. ltb x c.args.limit) (take c.loop-v.v numbers),
      length-take-le c.loop-v.v numbers (omega arith),
    )
