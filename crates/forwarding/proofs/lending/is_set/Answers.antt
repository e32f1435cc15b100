-- A case of the answer is a case of the definition.
use Rattle.std.proofs.Common.{refl}
use Rattle.forwarding_rules.specs.Calls.{says}
use Rattle.forwarding.specs.Inner.{is_set}
use Rattle.forwarding.proofs.lending.is_set.Goals as goal

pub returns-in-Ok : goal.returns-in-Ok
unfolding is_set says
returns-in-Ok c = rw c.in-Ok.is refl

pub returns-in-Err : goal.returns-in-Err
unfolding is_set says
returns-in-Err c = rw c.in-Err.is refl
