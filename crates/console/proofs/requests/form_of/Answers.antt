-- The table has the forms, in their order.
-- Assumes nothing.
use Rattle.console_held.specs.Kinds.{letter}
use Rattle.console_held.specs.Inner.{letters, change_to}
use Rattle.console_replies.specs.Inner.{reply_to}
use Rattle.console.specs.Answers.{forms, form}
use Rattle.console.specs.Inner.{answer_to, form_in}
use Rattle.console.proofs.Forms.{first_found}
use Rattle.console.proofs.requests.form_of.Goals as goal

pub returns : goal.returns
unfolding letter letters change_to reply_to answer_to form_in forms form
returns c = first_found _ c.first_form.ensures
