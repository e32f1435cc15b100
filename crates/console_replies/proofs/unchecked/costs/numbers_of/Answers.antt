-- The array is the definition's list, once each call's result is what it ensures.
-- Assumes nothing.
use Rattle.std.proofs.Common.{◌≡◌, Bool, true, false, refl}
use mir.Val.{bool_byte}
use lib.Ieee.{to_bits}
use Rattle.te.specs.Cost.{nothing, refused_cost}
use Rattle.console_replies.specs.Calls.{presence, cost_numbers}
use Rattle.console_replies.proofs.unchecked.costs.numbers_of.Goals as goal

-- 1 or 0 for present
as_number : (has : Bool) → bool_byte has ≡ presence has
unfolding presence
as_number true = refl
as_number false = refl

pub returns-in-Ok : goal.returns-in-Ok
unfolding cost_numbers
returns-in-Ok c =
    rw (c.in-Ok.is, c.into.ensures, c.into-in-Ok.ensures, c.into-in-Ok-2.ensures, c.into-in-Ok-3.ensures, c.pattern.ensures, c.pattern-in-Ok.ensures, as_number c.in-Ok.field-0.link.hasmetric, as_number c.in-Ok.field-0.link.hasmaximum, as_number c.in-Ok.field-0.link.hasreservable)

pub returns-in-Err : goal.returns-in-Err
unfolding cost_numbers refused_cost nothing presence to_bits
returns-in-Err c = rw (c.in-Err.is, c.into-in-Err.ensures, c.number.ensures)
