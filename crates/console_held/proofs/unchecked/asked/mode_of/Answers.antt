-- The words of the modes are tried one after the other.
-- Assumes nothing.
use Rattle.console_held.specs.Questions.{shortest_word, free_word, mode_named}
use Rattle.text.proofs.Scan.{equal_texts}
use Rattle.console_held.proofs.unchecked.asked.mode_of.Goals as goal

pub returns-then-eq : goal.returns-then-eq
unfolding mode_named shortest_word free_word
returns-then-eq c =
    let e = rw (c.as_slice.ensures, equal_texts, c.if-eq.true) at c.eq.ensures in rw (← e)

pub returns-then-eq-2 : goal.returns-then-eq-2
unfolding mode_named shortest_word free_word
returns-then-eq-2 c =
    let e = rw (c.as_slice.ensures, equal_texts, c.if-eq.false) at c.eq.ensures in
    let f = rw (c.as_slice-else-eq.ensures, equal_texts, c.if-eq-2.true) at c.eq-else-eq.ensures in
    rw (← e, ← f)

pub returns-else-eq-2 : goal.returns-else-eq-2
unfolding mode_named shortest_word free_word
returns-else-eq-2 c =
    let e = rw (c.as_slice.ensures, equal_texts, c.if-eq.false) at c.eq.ensures in
    let f = rw (c.as_slice-else-eq.ensures, equal_texts, c.if-eq-2.false) at c.eq-else-eq.ensures in
    rw (← e, ← f)
