-- A case of the answer is a case of the definition.
use Rattle.std.proofs.Common.{refl}
use Rattle.forwarding_rules.specs.Calls.{says, hop_in}
use Rattle.forwarding.specs.Inner.{is_moved_lem}
use Rattle.forwarding.proofs.lending.is_moved.Goals as goal

pub returns-in-Ok-Delivered : goal.returns-in-Ok-Delivered
unfolding is_moved_lem says hop_in
returns-in-Ok-Delivered c = let hop = rw c.in-Ok-Delivered.is at c.in-Ok-Delivered.field-0-is in rw (c.in-Ok-Delivered.is, hop) refl

pub returns-in-Ok-Moved : goal.returns-in-Ok-Moved
unfolding is_moved_lem says hop_in
returns-in-Ok-Moved c = let hop = rw c.in-Ok-Moved.is at c.in-Ok-Moved.field-0-is in rw (c.in-Ok-Moved.is, hop) refl

pub returns-in-Ok-Dropped : goal.returns-in-Ok-Dropped
unfolding is_moved_lem says hop_in
returns-in-Ok-Dropped c = let hop = rw c.in-Ok-Dropped.is at c.in-Ok-Dropped.field-0-is in rw (c.in-Ok-Dropped.is, hop) refl

pub returns-in-Err : goal.returns-in-Err
unfolding is_moved_lem says
returns-in-Err c = rw c.in-Err.is refl
