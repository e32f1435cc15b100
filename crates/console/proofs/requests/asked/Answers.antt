-- A line without a form asks nothing, nor does one with a wrong field.
-- Assumes nothing.
use Rattle.std.proofs.Common.{sym}
use Rattle.console_held.specs.Inner.{letters}
use Rattle.console.specs.Answers.{answer_asked, response_to, form}
use Rattle.console.specs.Inner.{form_said, form_in, asked_answer}
use Rattle.console.proofs.Forms.{asks_nothing}
use Rattle.console.proofs.requests.asked.Goals as goal

pub returns-in_err-form-clause-says : goal.returns-in_err-form-clause-says
unfolding response_to form_said asked_answer
returns-in_err-form-clause-says c h =
    let e = rw c.in_err-form.was at c.form_of.ensures in
    rw (c.from_residual.ensures, ← e) (sym (asks_nothing h _))

pub returns-in_err-query-clause-says : goal.returns-in_err-query-clause-says
unfolding response_to answer_asked form_said form_in form letters asked_answer
returns-in_err-query-clause-says c h =
    let e = rw c.in_ok-form.was at c.form_of.ensures in
    rw (c.from_residual-in_err-query.ensures, ← e, ← c.query_in.ensures.says, c.in_err-query.was)

pub returns-clause-says : goal.returns-clause-says
unfolding response_to answer_asked form_said form_in form letters asked_answer
returns-clause-says c h =
    let e = rw c.in_ok-form.was at c.form_of.ensures in
    rw (← e, ← c.query_in.ensures.says, c.in_ok-query.was)

pub returns-clause-within : goal.returns-clause-within
returns-clause-within c = rw c.in_ok-query.was at c.query_in.ensures.within
