-- A link of type 1 to the router counts, and no other.
-- Assumes nothing.
use Rattle.std.proofs.Common.{◌≡◌, arith}
use Rattle.ospf_halves.proofs.Given.{counts, passed_over, of_none}
use Rattle.ospf_lsas.specs.Opened.{link_seen, links_left}
use Rattle.ospf_halves.proofs.unchecked.lowest_to.Goals as goal
use Rattle.ospf_halves.proofs.unchecked.lowest_to.Goals.{else-l-eq1-via-then-l-eq1+else-l-link, else-l-eq1-via-else-l-eq1}

pub returns : goal.returns
returns c =
    let id = c.args.link.id in
    let none = rw c.in-None.ensures.steps.0 at c.loop-l.invariant.2 in
    omega (arith, none, of_none id)

pub loop-l-preserved : goal.loop-l-preserved
loop-l-preserved c =
    let id = c.args.link.id in
    let other : c.in-Some.l.kind ≡ 1 → c.in-Some.l.id ≡ id → ⊥ = elim c.else-l-eq1.branch [
      | else-l-eq1-via-then-l-eq1+else-l-link w ↦ λ k i. w.if-l-link.false i
      | else-l-eq1-via-else-l-eq1 w ↦ λ k i. w.if-l-eq1.false k
    ] in
    let here = rw c.in-Some.ensures.steps at c.loop-l.invariant.2 in
    (tt, tt, omega (arith, here, passed_over id (link_seen c.in-Some.l) (links_left c.next.new.self) other))

pub loop-l-preserved-then-l-link : goal.loop-l-preserved-then-l-link
loop-l-preserved-then-l-link c =
    let id = c.args.link.id in
    let here = rw c.in-Some.ensures.steps at c.loop-l.invariant.2 in
    let more = counts id (link_seen c.in-Some.l) (links_left c.next.new.self) c.if-l-eq1.true c.if-l-link.true in
    (tt, tt, omega (arith, here, more, c.min-lowest.ensures))
