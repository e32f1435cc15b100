-- A line that is too long is no request.
-- Assumes nothing.
use Rattle.std.proofs.Common.{arith, refl}
use Rattle.console_held.specs.Requests.{unchanged, no_request}
use Rattle.console_held.specs.Inner.{reply_text, room_of}
use Rattle.console.specs.Session.{answered}
use Rattle.console.specs.Inner.{line_given}
use Rattle.console.proofs.PutFirst.{put_first}
use Rattle.console.proofs.answers.respond.Goals as goal

pub put_reply-requires : goal.put_reply-requires
unfolding room_of
put_reply-requires c = (omega arith, c.requires.1)

pub returns-in-Some : goal.returns-in-Some
unfolding answered line_given
returns-in-Some c = rw c.in-Some.is c.respond_to.ensures

pub returns-in-None : goal.returns-in-None
unfolding answered line_given no_request unchanged reply_text
returns-in-None c =
    let p = c.put_reply.ensures in
    let first = put_first p.1 (omega (arith, p.0, c.requires.1)) in
    rw c.in-None.is (record { held = refl; within = first.0; text = first.1 })
