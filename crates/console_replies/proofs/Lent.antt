-- The start of a lent buffer is a lent buffer, and what a call leaves there is the reply to a request with ROOM.
-- Assumes nothing.
use Rattle.std.proofs.Common.{◌≡◌, ℕ, zero, suc, ◌≤◌, List, ◌∷◌, ap, arith, length, take, refl, Bor}
use Rattle.std.proofs.lemmas.List.{length-replicate}
use Rattle.topology_types.specs.declared.Answer.{Answer}
use Rattle.topology_types.specs.Outcome.{Outcome}
use Rattle.console_held.specs.declared.unchecked.reply.Reply.{Reply}
use Rattle.console_held.specs.declared.unchecked.reply.Reply.TheVariants.{Leaves}
use Rattle.console_held.specs.Questions.{most_room}
use Rattle.console_held.specs.Inner.{Replies, reply_text, room_of}
use Rattle.console_replies.specs.Calls.{lent, buffer_of}

pub lent_length : (room : ℕ) → length (lent room) ≡ room
unfolding lent
lent_length room = length-replicate room 170

pub lent_start : (n room : ℕ) → n ≤ room → take n (lent room) ≡ lent n
unfolding lent
lent_start zero room h = refl
lent_start (suc n) zero h = absurd (omega arith)
lent_start (suc n) (suc room) h = ap (λ (l : List ℕ). 170 ∷ l) (lent_start n room (omega arith))

pub leaves_by : {a o : Answer} {left : Bor (List ℕ)} → a ≡ o → Leaves a left ≡ Leaves o left
leaves_by {a} {o} {left} e = ap (λ (b : Answer). Leaves b left) e

-- what a call leaves there
pub left_reply : (call : List ℕ → Outcome) {room : ℕ} {a : Answer} {left : Bor (List ℕ)} {r : Reply} →
    r ≡ Leaves a left → record { answer = a; buffer = left.now } ≡ call (lent room) → length left.now ≡ room → room ≤ most_room →
    Replies (buffer_of (call (lent room))) r
unfolding reply_text room_of buffer_of
left_reply call e o k h = rw (e, ← o) (record { says = refl; room = omega arith })
