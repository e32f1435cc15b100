-- Each kind of field is read in turn, and a wrong one ends it.
-- Assumes nothing.
use Rattle.std.proofs.Common.{sym, ◌∙◌, arith, length-take-le}
use Rattle.text.proofs.Numbers.{number_bound}
use Rattle.console_held.specs.Questions.{most_byte, most_room, question, question_of}
use Rattle.console_held.specs.Inner.{question_in}
use Rattle.console_held.proofs.unchecked.asked.query_in.Goals as goal

pub returns-in_err-place-clause-says : goal.returns-in_err-place-clause-says
unfolding question_of question
returns-in_err-place-clause-says g c = rw (c.from_residual.ensures, ← c.number_in.ensures, c.in_err-place.was)

pub returns-in_err-hops-clause-says : goal.returns-in_err-hops-clause-says
unfolding question_of question
returns-in_err-hops-clause-says g c =
    rw (c.from_residual-in_err-hops.ensures, ← c.number_in.ensures, c.in_ok-place.was, ← c.number_in-2.ensures, c.in_err-hops.was)

pub returns-in_err-mode-clause-says : goal.returns-in_err-mode-clause-says
unfolding question_of question
returns-in_err-mode-clause-says g c =
    rw (c.from_residual-in_err-mode.ensures, ← c.number_in.ensures, c.in_ok-place.was, ← c.number_in-2.ensures, c.in_ok-hops.was, ← c.mode_in.ensures, c.in_err-mode.was)

pub returns-in_err-room-clause-says : goal.returns-in_err-room-clause-says
unfolding question_of question
returns-in_err-room-clause-says g c =
    rw (c.from_residual-in_err-room.ensures, ← c.number_in.ensures, c.in_ok-place.was, ← c.number_in-2.ensures, c.in_ok-hops.was, ← c.mode_in.ensures, c.in_ok-mode.was, ← c.number_in-3.ensures, c.in_err-room.was)

pub returns-in_err-count-clause-says : goal.returns-in_err-count-clause-says
unfolding question_of question
returns-in_err-count-clause-says g c =
    rw (c.from_residual-in_err-count.ensures, ← c.number_in.ensures, c.in_ok-place.was, ← c.number_in-2.ensures, c.in_ok-hops.was, ← c.mode_in.ensures, c.in_ok-mode.was, ← c.number_in-3.ensures, c.in_ok-room.was, ← c.bytes_in.ensures.counted, c.in_err-count.was)

pub overflow_cast-result : goal.overflow_cast-result
overflow_cast-result g c = omega (arith, number_bound most_byte _ _ (sym c.number_in.ensures ∙ c.in_ok-place.was))

pub overflow_cast-result-2 : goal.overflow_cast-result-2
overflow_cast-result-2 g c = omega (arith, number_bound most_byte _ _ (sym c.number_in-2.ensures ∙ c.in_ok-hops.was))

pub returns-clause-says : goal.returns-clause-says
unfolding question_of question question_in
returns-clause-says g c =
    let d = c.bytes_in.ensures.start _ (sym c.bytes_in.ensures.counted ∙ c.in_ok-count.was) in
    rw (← c.number_in.ensures, c.in_ok-place.was, ← c.number_in-2.ensures, c.in_ok-hops.was, ← c.mode_in.ensures, c.in_ok-mode.was, ← c.number_in-3.ensures, c.in_ok-room.was, ← c.bytes_in.ensures.counted, c.in_ok-count.was, ← d.0)

pub returns-clause-within : goal.returns-clause-within
unfolding question_in
returns-clause-within g c =
    let d = c.bytes_in.ensures.start _ (sym c.bytes_in.ensures.counted ∙ c.in_ok-count.was) in
    record {
      few = omega (arith, d.2, length-take-le c.in_ok-count.count c.bytes_in.new.out d.1);
      room = number_bound most_room _ _ (sym c.number_in-3.ensures ∙ c.in_ok-room.was);
    }
