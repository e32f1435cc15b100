-- A request is served by the function of its kind, and one that leaves what is held has a reply alone.
-- Assumes nothing.
use Rattle.std.proofs.Common.{refl}
use Rattle.console_held.specs.Requests.{unchanged, no_request}
use Rattle.console_held.specs.Inner.{held_in, question_in, reply_text, room_of}
use Rattle.console_held.proofs.Replying.{plain_reply}
use Rattle.console.specs.Answers.{leaving}
use Rattle.console.specs.Inner.{answer_to, asked_answer}
use Rattle.console.proofs.answers.serve.Goals as goal

pub returns-in-Some-Changes-default : goal.returns-in-Some-Changes-default
unfolding asked_answer answer_to
returns-in-Some-Changes-default c =
    let e = rw c.in-Some-Changes-default.is at c.in-Some-Changes-default.field-0-0-is in
    rw (c.in-Some-Changes-default.is, e) c.change_by.ensures.served

pub returns-in-Some-Replies-default : goal.returns-in-Some-Replies-default
unfolding asked_answer answer_to leaving unchanged held_in
returns-in-Some-Replies-default c =
    let called = rw c.table.ensures.held at c.reply_by.ensures.says in
    let e = rw c.in-Some-Replies-default.is at c.in-Some-Replies-default.field-0-0-is in
    rw (c.in-Some-Replies-default.is, e) (record { held = refl; replies = called })

pub returns-in-None : goal.returns-in-None
unfolding asked_answer no_request unchanged reply_text room_of
returns-in-None c = rw c.in-None.is (record { held = refl; replies = plain_reply refl })

pub change_by-requires : goal.change_by-requires
unfolding question_in
change_by-requires c = let w = rw c.in-Some-Changes-default.is at c.requires.within in w.few

pub reply_by-requires-clause-room : goal.reply_by-requires-clause-room
unfolding question_in
reply_by-requires-clause-room c = let w = rw c.in-Some-Replies-default.is at c.requires.within in w.room
