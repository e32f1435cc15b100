-- `order::unchecked::reached_count` meets its contract.
-- Assumes nothing.
use Rattle.std.proofs.Common.{◌∙◌, ◌*◌, arith}
use lib.Dec.{ltb}
use Rattle.order_standings.proofs.Parts.{kept_part}
use Rattle.order.proofs.unchecked.reached_count.Goals as goal

pub returns : goal.returns
returns c = c.lower_than.ensures ∙ kept_part c.args.n c.args.ds.now (omega arith) (λ x. ltb x (c.args.n * 65536))
