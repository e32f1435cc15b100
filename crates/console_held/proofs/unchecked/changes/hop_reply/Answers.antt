-- Each answer has its reply.
-- Assumes nothing.
use Rattle.std.proofs.Common.{refl}
use Rattle.forwarding_rules.specs.Calls.{says, hop_in}
use Rattle.console_held.specs.Requests.{hop_text}
use Rattle.console_held.specs.Inner.{fate_word, reply_text, room_of}
use Rattle.console_held.proofs.Replying.{plain_reply}
use Rattle.console_held.proofs.unchecked.changes.hop_reply.Goals as goal

pub returns-in-Ok-Delivered-clause-says : goal.returns-in-Ok-Delivered-clause-says
unfolding hop_text says hop_in fate_word reply_text room_of
returns-in-Ok-Delivered-clause-says c =
    let hop = rw c.in-Ok-Delivered.is at c.in-Ok-Delivered.field-0-is in
    rw (c.in-Ok-Delivered.is, hop) (plain_reply refl)

pub returns-in-Ok-Moved-clause-says : goal.returns-in-Ok-Moved-clause-says
unfolding hop_text says hop_in fate_word reply_text room_of
returns-in-Ok-Moved-clause-says c =
    let hop = rw c.in-Ok-Moved.is at c.in-Ok-Moved.field-0-is in
    rw (c.in-Ok-Moved.is, hop) (plain_reply refl)

pub returns-in-Ok-Dropped-clause-says : goal.returns-in-Ok-Dropped-clause-says
unfolding hop_text says hop_in fate_word reply_text room_of
returns-in-Ok-Dropped-clause-says c =
    let hop = rw c.in-Ok-Dropped.is at c.in-Ok-Dropped.field-0-is in
    rw (c.in-Ok-Dropped.is, hop) (plain_reply refl)

pub returns-in-Err-clause-says : goal.returns-in-Err-clause-says
unfolding hop_text says fate_word reply_text room_of
returns-in-Err-clause-says c = rw (c.in-Err.is, c.answer.ensures) (plain_reply refl)
