-- `order::proposal::rank_after` meets its contract: the first byte that is anything but 255, of those from `reached` on, stands at that rank.
-- Assumes nothing.
use Rattle.std.proofs.Common.{ℕ, List, ◌≡◌, ◌-◌, length, take, drop, sym, ◌∙◌, ap, rules}
use lib.ListN.{length-drop}
use lib.Seq.{take-length}
use Rattle.std.specs.Prelude.{None}
use Rattle.order.specs.Calls.{first_of}
use Rattle.order.proofs.After.{found_after, none_after}
use Rattle.order.proofs.proposal.rank_after.Goals as goal

-- the slice from `reached` on
rest : (order : List ℕ) (reached : ℕ) → take (length order - reached) (drop reached order) ≡ drop reached order
rest order reached = rw (← length-drop reached order, take-length)

pub returns-in_err-after : goal.returns-in_err-after
returns-in_err-after c =
    let order = c.args.order.now in
    let reached = c.args.reached in
    let e : c.from_residual.result ≡ None = search rules in
    e ∙ sym (ap first_of (none_after order reached c.requires (rw (rest order reached) at (sym c.in_err-after.ensures))))

pub returns : goal.returns
returns c =
    let order = c.args.order.now in
    let reached = c.args.reached in
    sym (found_after order reached c.requires c.in_ok-after.after (rw (rest order reached) at (sym c.in_ok-after.ensures)))
