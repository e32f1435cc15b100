-- What a reply stands for that has no bytes of a buffer, and that its answer is one that a call can return.
-- Assumes nothing.
use Rattle.std.proofs.Common.{◌≡◌, refl, ap, arith}
use Rattle.std.specs.Prelude.{Result, Ok, Err}
use Rattle.topology_types.specs.declared.Answer.{Answer}
use Rattle.topology_types.specs.declared.Refusal.{Refusal}
use Rattle.topology_types.specs.declared.Topology.{Topology}
use Rattle.stream_rules.specs.Reading.{refusal, reading_of}
use Rattle.console_held.specs.declared.unchecked.reply.Reply.{Reply}
use Rattle.console_held.specs.declared.unchecked.reply.Reply.TheVariants.{Says}
use Rattle.console_held.specs.Requests.{answer_of}
use Rattle.console_held.specs.Inner.{Replies, FromResult, reply_text, room_of}

pub answer_reply : {a o : Answer} → a ≡ o → Replies (answer_of o) (Says a)
unfolding reply_text room_of
answer_reply e = record { says = ap answer_of e; room = omega arith }

pub plain_reply : {r : Reply} → room_of r ≡ 0 → Replies (reply_text r) r
plain_reply e = record { says = refl; room = omega arith }

pub reading_returned : (read : Result Topology Refusal) → FromResult (Says (reading_of read).answer)
unfolding FromResult refusal
reading_returned (Ok t) = (Ok tt, refl)
reading_returned (Err r) = (Err r, refl)

pub success_returned : FromResult (Says (record { number = 0; at = 0 }))
unfolding FromResult
success_returned = (Ok tt, refl)
