-- The byte is the first whose position passes the test; where the highest is not over 1 none is.
use Rattle.std.proofs.Common.{ℕ, Bool, List, length, get_or, not, leb, nat_lt, ap, sym, ◌∙◌, arith}
use native.Mathlib.Nat.{le_trans}
use Rattle.std.proofs.lemmas.Bool.Decides.{nat_tests}
use borrow.Author.Tests.{le-leb}
use Rattle.order.specs.Calls.{first_of}
use Rattle.order.proofs.First.{none_below}
use Rattle.forwarding_rules.specs.Schedule.{wrong_states}
use Rattle.forwarding_steps.proofs.First.{first_position}
use Rattle.forwarding_steps.proofs.unchecked.schedule.first_over.Goals as goal

-- the byte is over 1
abbrev over : List ℕ → ℕ → Bool
over states i = not (leb (get_or states i 0) 1)

pub returns-then-highest-le1 : goal.returns-then-highest-le1
unfolding wrong_states
returns-then-highest-le1 c =
    let states = c.args.states.now in
    sym (ap first_of (none_below (over states) (length states) (λ k l. rw (le-leb _ _ (le_trans (c.highest.ensures k l) c.if-highest-le1.true)))))

pub returns : goal.returns
unfolding wrong_states
returns c = c.over_one.ensures ∙ first_position (λ s. nat_lt 1 s) (over c.args.states.now) c.args.states.now (λ k h. grind (arith, nat_tests))
