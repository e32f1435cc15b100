-- What the call says, with the packet as it left it, is what the request answers.
-- Assumes nothing.
use Rattle.std.proofs.Common.{refl}
use Rattle.forwarding_rules.specs.Calls.{says, packet_in}
use Rattle.console_held.specs.Requests.{carrying, set_text, set_answer}
use Rattle.console_held.specs.Inner.{held_in, fate_word, reply_text, room_of}
use Rattle.console_held.proofs.Replying.{plain_reply}
use Rattle.console_held.proofs.unchecked.changes.set.Goals as goal

pub returns-in-Ok-clause-served : goal.returns-in-Ok-clause-served
unfolding set_answer carrying set_text says packet_in held_in fate_word reply_text room_of
returns-in-Ok-clause-served c =
    rw (← c.lend_to_set-after.ensures, c.in-Ok.is) (record { held = refl; replies = plain_reply refl })

pub returns-in-Err-clause-served : goal.returns-in-Err-clause-served
unfolding set_answer carrying set_text says packet_in held_in fate_word reply_text room_of
returns-in-Err-clause-served c =
    rw (← c.lend_to_set-after.ensures, c.in-Err.is, c.answer.ensures) (record { held = refl; replies = plain_reply refl })
