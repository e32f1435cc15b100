-- What is listed by place is what the topology holds.
-- Assumes nothing.
use Rattle.std.proofs.Common.{sym}
use Rattle.std.proofs.Math.Logic.{∥∥₁_elim}
use Rattle.std.proofs.Math.Bridge.{le_prop}
use Rattle.stream.proofs.Filled.{listed, ids_are}
use Rattle.stream.proofs.unchecked.Listing.ids.Goals as goal

pub shared_ref_as_front-result : goal.shared_ref_as_front-result
shared_ref_as_front-result c = ∥∥₁_elim c.args.self.now.stands le_prop (λ (p, w). (listed w).counted.routers_fit)

pub returns : goal.returns
returns c = λ p w. sym (ids_are w)
