-- The figures are those of the definition, and are put behind `0 0`.
-- Assumes nothing.
use Rattle.std.proofs.Common.{ap, sym, ◌∙◌, arith, length, refl, length-take-le, ◌-◌, Err}
use borrow.Author.Tests.{ne_eqb}
use Rattle.topology_types.specs.Outcome.{number_of}
use Rattle.topology_types.proofs.Outcome.{numbered}
use Rattle.coverage_rules.specs.Coverage.{Coverage}
use Rattle.console_held.specs.Questions.{most_room}
use Rattle.console_held.specs.Inner.{FromResult, reply_text, room_of}
use Rattle.console_held.proofs.Replying.{answer_reply}
use Rattle.console_replies.specs.Calls.{coverage_line}
use Rattle.console_replies.proofs.Lent.{lent_length}
use Rattle.console_replies.proofs.Covered.{covered_line}
use Rattle.console_replies.proofs.unchecked.figures.cover.Goals as goal

pub figures_in-end-requires : goal.figures_in-end-requires
figures_in-end-requires c = omega (arith, ap length c.requires ∙ lent_length most_room)

pub returns-in-Err-clause-says : goal.returns-in-Err-clause-says
unfolding coverage_line
returns-in-Err-clause-says c =
    let some = numbered c.in-Err.refusal.fault in
    rw (← c.coverage.ensures, c.in-Err.is, ne_eqb (number_of c.in-Err.refusal.fault) 0 (λ e. omega (arith, some, e)), c.answer.ensures) (answer_reply refl)

pub returns-in-Err-clause-returned : goal.returns-in-Err-clause-returned
unfolding FromResult
returns-in-Err-clause-returned c = (Err c.in-Err.refusal, rw c.answer.ensures refl)

pub slice_bounds-result-length : goal.slice_bounds-result-length
slice_bounds-result-length c =
    let whole = ap length c.requires ∙ lent_length most_room in
    let e = rw c.in-Ok.is at c.coverage.ensures in
    let zero = ap (λ (f : Coverage). f.answer.number) (sym e) in
    let line = covered_line c.args.t whole zero (rw e at c.figures_in-end.ensures) in
    sym (length-take-le (c.figures_in-end.result - 1) c.figures_in-end.new.out (omega (arith, line.2)))

pub returns-in-Ok-clause-says : goal.returns-in-Ok-clause-says
unfolding reply_text room_of
returns-in-Ok-clause-says c =
    let whole = ap length c.requires ∙ lent_length most_room in
    let e = rw c.in-Ok.is at c.coverage.ensures in
    let zero = ap (λ (f : Coverage). f.answer.number) (sym e) in
    let line = covered_line c.args.t whole zero (rw e at c.figures_in-end.ensures) in
    let short = length-take-le (c.figures_in-end.result - 1) c.figures_in-end.new.out (omega (arith, line.2)) in
    record { says = line.0; room = omega (arith, short, line.2, whole, c.figures_in-end.auto.out) }
