-- Each part is a line's rest, which a newline ends, or the beginning of one that goes on.
-- Assumes nothing.
use Rattle.std.proofs.Common.{◌+◌, ◌∙◌, sym, arith}
use lib.Seq.{length-take-le}
use lib.ListN.{length-drop}
use Rattle.text.proofs.Scan.{to_end, before_length}
use Rattle.text.specs.Lines.{newline}
use Rattle.console_held.specs.Questions.{most_line}
use Rattle.console.proofs.Parts.{ends_at, goes_at}
use Rattle.console.proofs.session.Session.take.Goals as goal

pub slice_bounds-gather-end : goal.slice_bounds-gather-end
slice_bounds-gather-end c =
    let rest = c.loop-rest.rest.now in
    sym (length-take-le c.width-n.result rest (omega (arith, c.width-n.ensures, before_length newline rest)))

pub loop-rest-preserved : goal.loop-rest-preserved
loop-rest-preserved c =
    let rest = c.loop-rest.rest.now in
    let n = c.width-n.result in (
      rw (to_end rest (n + 1), c.answer-is_written.ensures, c.gather.ensures)
          (ends_at most_line rest c.loop-rest.self n c.width-n.ensures (omega (arith, c.if-rest-n.false)) ∙ c.loop-rest.invariant.0),
      rw (to_end rest (n + 1)) (omega (arith, length-drop (n + 1) rest, c.loop-rest.invariant.1)),
    )

pub returns-then-rest-n : goal.returns-then-rest-n
returns-then-rest-n c =
    c.gather.ensures ∙ goes_at most_line c.loop-rest.rest.now c.loop-rest.self c.width-n.result c.width-n.ensures (omega (arith, c.if-rest-n.true)) ∙ c.loop-rest.invariant.0
