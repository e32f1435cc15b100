-- Each test that is passed leaves the tests after it, which are `sound` then, and one that fails settles it.
-- Assumes nothing.
use Rattle.std.proofs.Common.{ℕ, ◌≡◌, ◌-◌, List, eqb, true, false, sym, ap, ◌∙◌, length, take, drop, length-drop, arith}
use Rattle.std.proofs.Math.Seq.{take_all}
use Rattle.network.specs.Lists.{every}
use Rattle.topology_types.specs.Topology.{contents}
use Rattle.topology_sound.specs.Sound.{is_no_link, in_limits_lem, sound}
use Rattle.topology_sound.proofs.InTurn.{limits_counted, past_limits}
use Rattle.topology_sound.proofs.is_sound.Goals as goal

pub returns-then-not-in_limits : goal.returns-then-not-in_limits
unfolding sound in_limits_lem
returns-then-not-in_limits c = rw (← c.if-not-in_limits.ensures)

pub shared_ref_as_front-ids_differ : goal.shared_ref_as_front-ids_differ
unfolding in_limits_lem
shared_ref_as_front-ids_differ c = (limits_counted c.args.t (sym c.if-not-in_limits.ensures)).routers_fit

pub returns-then-not-ids_differ : goal.returns-then-not-ids_differ
unfolding contents in_limits_lem
returns-then-not-ids_differ c =
    sym (past_limits c.args.t _ c.well_formed.0 (sym c.if-not-in_limits.ensures) ∙ rw (← c.if-not-ids_differ.ensures))

pub returns-then-not-links_fit : goal.returns-then-not-links_fit
unfolding contents in_limits_lem
returns-then-not-links_fit c =
    sym
    (past_limits c.args.t _ c.well_formed.0 (sym c.if-not-in_limits.ensures)
    ∙ rw (← c.if-not-ids_differ.ensures, ← c.if-not-links_fit.ensures))

-- the elements behind the first n
behind : {A : Type 0} (xs : List A) (n : ℕ) → take (length xs - n) (drop n xs) ≡ drop n xs
behind xs n = take_all (length xs - n) (drop n xs) (rw length-drop (omega arith))

pub returns-then-zeros : goal.returns-then-zeros
unfolding contents in_limits_lem
returns-then-zeros c =
    let t = c.args.t in
    let zeros : every (eqb 0) (drop t.routers t.id) ≡ true = sym (c.if-zeros.ensures ∙ ap (every (eqb 0)) (behind t.id t.routers)) in
    c.no_links.ensures
    ∙ ap (every is_no_link) (behind t.link t.links)
    ∙ sym
    (past_limits t _ c.well_formed.0 (sym c.if-not-in_limits.ensures)
    ∙ rw (← c.if-not-ids_differ.ensures, ← c.if-not-links_fit.ensures, zeros))

pub returns-else-zeros : goal.returns-else-zeros
unfolding contents in_limits_lem
returns-else-zeros c =
    let t = c.args.t in
    let zeros : every (eqb 0) (drop t.routers t.id) ≡ false = sym (c.if-zeros.ensures ∙ ap (every (eqb 0)) (behind t.id t.routers)) in
    c.if-zeros.false
    ∙ sym
    (past_limits t _ c.well_formed.0 (sym c.if-not-in_limits.ensures)
    ∙ rw (← c.if-not-ids_differ.ensures, ← c.if-not-links_fit.ensures, zeros))
