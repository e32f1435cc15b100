-- The reply stands for the line that answers, and that is put.
-- Assumes nothing.
use Rattle.std.proofs.Common.{arith, ◌∙◌}
use Rattle.text.specs.Room.{bytes_of_one}
use Rattle.console_held.specs.Inner.{held_in}
use Rattle.console_replies.specs.Calls.{lent}
use Rattle.console.proofs.PutFirst.{put_first}
use Rattle.console.proofs.answers.respond_to.Goals as goal

pub serve-reply-requires-clause-filled : goal.serve-reply-requires-clause-filled
unfolding bytes_of_one lent
serve-reply-requires-clause-filled c = c.filled-buffer.ensures.bytes

pub serve-reply-requires-clause-within : goal.serve-reply-requires-clause-within
serve-reply-requires-clause-within c = c.asked.ensures.within

pub returns : goal.returns
returns c =
    let s = rw (c.asked.ensures.says (held_in c.args.held.now)) at c.serve-reply.ensures in
    let p = c.put_reply.ensures in
    let first = put_first p.1 (omega (arith, p.0, c.requires.1)) in
    record { held = s.held; within = first.0; text = first.1 ∙ s.replies.says }
