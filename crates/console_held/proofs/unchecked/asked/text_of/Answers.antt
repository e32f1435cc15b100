-- The kind stands among the kinds, or nowhere.
-- Assumes nothing.
use Rattle.std.proofs.Common.{sym, ◌∙◌}
use Rattle.console_held.proofs.Asking.{text_found, text_absent}
use Rattle.console_held.proofs.unchecked.asked.text_of.Goals as goal

pub returns-in-Some : goal.returns-in-Some
returns-in-Some g c =
    c.field.ensures ∙ sym (text_found g.K.Letter.letter c.args.sort c.args.kinds.now c.args.line.now c.args.absent.now (sym c.in-Some.ensures))

pub returns-in-None : goal.returns-in-None
returns-in-None g c = sym (text_absent g.K.Letter.letter c.args.sort c.args.kinds.now c.args.line.now c.args.absent.now (sym c.in-None.ensures))
