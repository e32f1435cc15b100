-- The part is behind the bytes that have come, where there is room.
-- Assumes nothing.
use Rattle.std.proofs.Common.{ap, sym}
use Rattle.console_held.specs.Questions.{most_line}
use Rattle.console_held.specs.Inner.{held_in}
use Rattle.console.specs.Session.{State, Line}
use Rattle.console.specs.Inner.{line_gathered}
use Rattle.console.proofs.Parts.{part_of, stays_long, line_with, keeps}
use Rattle.console.proofs.session.Session.gather.Goals as goal
use Rattle.console.proofs.session.Session.gather.Goals.{in-Some, in-None}

pub returns : goal.returns
unfolding line_gathered
returns c =
    let with_line : Line → State = λ l. record { held = held_in c.self.inside.held; line = l } in
    let buffer = c.self.inside.line in
    let part = c.args.part.now in
    rw (← c.self.view_is, part_of most_line part)
    (elim c.match-self.branch [
      | in-Some w ↦
          let g = w.gather-self-inside.ensures in
          rw (w.self-is, w.self-inside-is, w.in-Some.is, g.counted, g.stored)
          (ap with_line (line_with most_line buffer part w.in-Some.n c.self.told (rw w.in-Some.is at c.self.invariant.1)))
      | in-None w ↦ rw (w.self-is, w.self-inside-is, w.in-None.is) (ap with_line (sym (stays_long most_line part)))
    ])

pub invariant_of-self : goal.invariant_of-self
invariant_of-self c =
    elim c.match-self.branch [
      | in-Some w ↦
          let g = w.gather-self-inside.ensures in
          rw (w.self-is, w.self-inside-is, g.counted, g.stored) (keeps c.self.inside.line c.args.part.now w.in-Some.n c.self.told)
      | in-None w ↦ rw (w.self-is, w.self-inside-is) (rw w.in-None.is at c.self.invariant)
    ]
