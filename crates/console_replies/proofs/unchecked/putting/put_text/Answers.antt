-- Each kind of reply has its line, which fits.
-- Assumes nothing.
use Rattle.std.proofs.Common.{ℕ, ◌≤◌, List, length, length-append, arith}
use Rattle.text.specs.Lines.{refused_word, error_line, word_line}
use Rattle.text.proofs.Texts.{answer_line_length, word_line_length, buffer_line_length}
use Rattle.console_held.specs.declared.unchecked.reply.Fate.{Fate}
use Rattle.console_held.specs.declared.unchecked.reply.Fate.TheVariants.{Set, Delivered, Moved, Dropped}
use Rattle.console_held.specs.Requests.{set_word, delivered_word, moved_word, dropped_word, answer_of, packet_line}
use Rattle.console_held.specs.Inner.{fate_word, reply_text, room_of}
use Rattle.console_replies.specs.Calls.{most_answer}
use Rattle.console_replies.proofs.unchecked.putting.put_text.Goals as goal

-- a line of a word fits
word_fits : (word : List ℕ) (number at : ℕ) → length word ≤ 9 → length (word_line word number at) ≤ most_answer
word_fits word number at h = omega (arith, word_line_length word number at)

fate_short : (f : Fate) → length (fate_word f) ≤ 9
unfolding fate_word set_word delivered_word moved_word dropped_word
fate_short Set = omega arith
fate_short Delivered = omega arith
fate_short Moved = omega arith
fate_short Dropped = omega arith

pub put_buffer_line-requires : goal.put_buffer_line-requires
unfolding room_of
put_buffer_line-requires c = omega (arith, rw c.in-Leaves.is at c.requires.0, c.requires.1)

pub put_line-requires : goal.put_line-requires
unfolding room_of
put_line-requires c = omega (arith, rw c.in-Line.is at c.requires.0, c.requires.1)

pub returns-in-Error : goal.returns-in-Error
unfolding reply_text error_line
returns-in-Error c = rw c.in-Error.is (omega arith, c.put_error.ensures)

pub returns-in-Says : goal.returns-in-Says
unfolding reply_text answer_of
returns-in-Says c =
    let a = c.in-Says.answer in
    rw c.in-Says.is (omega (arith, answer_line_length a.number a.at), c.put_answer_line.ensures)

pub returns-in-Leaves : goal.returns-in-Leaves
unfolding reply_text room_of
returns-in-Leaves c =
    let a = c.in-Leaves.answer in
    let b = c.in-Leaves.buffer.now in
    let short = rw c.in-Leaves.is at c.requires.0 in
    rw c.in-Leaves.is (omega (arith, short, buffer_line_length a.number a.at b), c.put_buffer_line.ensures)

pub returns-in-Line : goal.returns-in-Line
unfolding reply_text room_of
returns-in-Line c =
    let short = rw c.in-Line.is at c.requires.0 in
    rw c.in-Line.is (simp length-append (omega (arith, short)), c.put_line.ensures)

pub returns-in-Finds : goal.returns-in-Finds
unfolding reply_text packet_line
returns-in-Finds c = rw c.in-Finds.is (word_fits _ _ _ (fate_short c.in-Finds.fate), c.put_found.ensures)

pub returns-in-Refused : goal.returns-in-Refused
unfolding reply_text refused_word
returns-in-Refused c = rw c.in-Refused.is (word_fits _ _ _ (omega arith), c.put_word_line.ensures)
