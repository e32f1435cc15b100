-- The start of a lent buffer is a lent buffer.
-- Assumes nothing.
use Rattle.std.proofs.Common.{sym, ap, arith, length, take, ◌∙◌, length-take-le, rules}
use Rattle.std.specs.Fn.{FnOnceReturnsAtMut}
use Rattle.console_held.specs.Questions.{most_room}
use Rattle.console_replies.proofs.Lent.{lent_length, lent_start, leaves_by}
use Rattle.console_replies.proofs.unchecked.replies.leaves.Goals as goal

pub slice_bounds-out-end : goal.slice_bounds-out-end
slice_bounds-out-end g c =
    let whole = ap length c.requires.filled ∙ lent_length most_room in
    sym (length-take-le _ _ (omega (arith, whole, c.requires.room)))

pub returns-clause-left : goal.returns-clause-left
returns-clause-left g c =
    let first = ap (take c.args.room) c.requires.filled ∙ lent_start c.args.room most_room c.requires.room in
    let called : FnOnceReturnsAtMut g.F.FnOnce c.args.call (take c.args.room c.args.buffer.now) c.call-answer.result c.call-answer.new.arg2 = search rules in
    (_, _, leaves_by c.of.ensures, rw first at called, c.call-answer.auto.arg2 ∙ ap length first ∙ lent_length c.args.room)
