-- Each answer has its reply.
-- Assumes nothing.
use Rattle.std.proofs.Common.{refl}
use Rattle.forwarding_rules.specs.Calls.{says, walk_in}
use Rattle.console_held.specs.Inner.{fate_word, reply_text, room_of}
use Rattle.console_held.proofs.Replying.{plain_reply}
use Rattle.console_replies.specs.Calls.{walk_text}
use Rattle.console_replies.proofs.unchecked.replies.walk_reply.Goals as goal

pub returns-in-Ok-Delivered-clause-says : goal.returns-in-Ok-Delivered-clause-says
unfolding walk_text says walk_in fate_word reply_text room_of
returns-in-Ok-Delivered-clause-says c =
    let walk = rw c.in-Ok-Delivered.is at c.in-Ok-Delivered.field-0-is in
    rw (c.in-Ok-Delivered.is, walk) (plain_reply refl)

pub returns-in-Ok-Dropped-clause-says : goal.returns-in-Ok-Dropped-clause-says
unfolding walk_text says walk_in fate_word reply_text room_of
returns-in-Ok-Dropped-clause-says c =
    let walk = rw c.in-Ok-Dropped.is at c.in-Ok-Dropped.field-0-is in
    rw (c.in-Ok-Dropped.is, walk) (plain_reply refl)

pub returns-in-Err-clause-says : goal.returns-in-Err-clause-says
unfolding walk_text says fate_word reply_text room_of
returns-in-Err-clause-says c = rw (c.in-Err.is, c.answer.ensures) (plain_reply refl)
