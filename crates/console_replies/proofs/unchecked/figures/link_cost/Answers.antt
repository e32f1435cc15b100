-- The numbers are those of the definition.
-- Assumes nothing.
use Rattle.std.proofs.Common.{◌≡◌, ap, sym, ◌∙◌, arith, length, refl, length-take-le}
use Rattle.te.specs.Cost.{LinkCost, costing_of}
use Rattle.console_held.specs.Questions.{most_room}
use Rattle.console_held.specs.Inner.{reply_text, room_of}
use Rattle.console_replies.specs.Calls.{cost_numbers, cost_line}
use Rattle.console_replies.proofs.Lent.{lent_length}
use Rattle.console_replies.proofs.LinkCosts.{numbers_line, no_nans}
use Rattle.console_replies.proofs.unchecked.figures.link_cost.Goals as goal

pub numbers_of-numbers-requires : goal.numbers_of-numbers-requires
numbers_of-numbers-requires c = no_nans c.args.value.now c.cost.ensures

-- the nine numbers
nine : (c : LinkCost) → length (cost_numbers c) ≡ 9
unfolding cost_numbers
nine c = refl

pub put_numbers-end-requires : goal.put_numbers-end-requires
put_numbers-end-requires c =
    let whole = ap length c.requires ∙ lent_length most_room in
    let size = ap length c.numbers_of-numbers.ensures ∙ nine (costing_of c.cost.result) in
    (omega (arith, size), omega (arith, size, whole))

pub slice_bounds-result-end : goal.slice_bounds-result-end
slice_bounds-result-end c =
    let whole = ap length c.requires ∙ lent_length most_room in
    let size = ap length c.numbers_of-numbers.ensures ∙ nine (costing_of c.cost.result) in
    let line = numbers_line c.numbers_of-numbers.result c.put_numbers-end.ensures (omega (arith, size, whole)) in
    sym (length-take-le c.put_numbers-end.result c.put_numbers-end.new.out line.1)

pub returns-clause-says : goal.returns-clause-says
unfolding cost_line reply_text room_of
returns-clause-says c =
    let whole = ap length c.requires ∙ lent_length most_room in
    let size = ap length c.numbers_of-numbers.ensures ∙ nine (costing_of c.cost.result) in
    let line = numbers_line c.numbers_of-numbers.result c.put_numbers-end.ensures (omega (arith, size, whole)) in
    let short = length-take-le c.put_numbers-end.result c.put_numbers-end.new.out line.1 in
    let numbers = c.numbers_of-numbers.ensures ∙ ap cost_numbers c.cost.ensures in
    record {
      says = rw (line.0, numbers);
      room = omega (arith, short, line.1, whole, c.put_numbers-end.auto.out);
    }
