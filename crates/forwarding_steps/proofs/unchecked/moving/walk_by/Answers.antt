-- Each turn makes a hop by the schedule's next row, or the walk ends.
use Rattle.std.proofs.Common.{◌≡◌, ℕ, Bool, true, false, not, eqb, sym, ap, ◌∙◌, arith, refl}
use borrow.Author.Tests.{eq-eqb, eqb-true}
use Rattle.table.specs.Listed.{destination_in_lem}
use Rattle.table.proofs.Fields.{headed, rowed}
use Rattle.forwarding_rules.specs.Calls.{packet_in, walk_in}
use Rattle.forwarding_steps.specs.Inner.{first_up}
use Rattle.forwarding_steps.proofs.Steps.{few_routers, accepted, arcs_fit, stated, stops, goes}
use Rattle.forwarding_steps.proofs.Turns.{begins, ends, fits, part_long, halts, goes_on}
use Rattle.forwarding_steps.proofs.unchecked.moving.walk_by.Goals as goal

-- what the loop's test tells of the packet's station
apart : (u home d : ℕ) → true ≡ not (eqb u home) → home ≡ d → u ≡ d → ⊥
apart u home d test is e = let same = rw (eq-eqb u home (e ∙ sym is)) at test in cc

at_home : (u home : ℕ) (b : Bool) → eqb u home ≡ b → false ≡ not b → u ≡ home
at_home u home true e test = eqb-true u home e
at_home u home false e test = cc

pub destination-home-requires : goal.destination-home-requires
destination-home-requires c = rw c.of-listed.ensures (headed (accepted c.requires.0).stands)

pub loop-listed-init : goal.loop-listed-init
loop-listed-init c = begins c.requires.0 c.requires.2 _ c.requires.1

pub overflow_add-end : goal.overflow_add-end
overflow_add-end c =
    let off : c.loop-listed.packet.station.0 ≡ destination_in_lem c.args.table.now → ⊥ = apart _ _ _ c.loop-listed-test.ensures (rw c.of-listed.ensures at c.destination-home.ensures) in
    omega (arith, fits c.requires.0 c.requires.2 c.loop-listed.invariant off)

pub row-requires : goal.row-requires
row-requires c = rw (c.of-listed.ensures, c.index-u.ensures) (rowed (accepted c.requires.0).stands _ c.loop-listed.invariant.inside)

pub at-requires : goal.at-requires
at-requires c = rw c.index-u.ensures (arcs_fit c.requires.0 _ c.loop-listed.invariant.inside)

pub slice_bounds-next_of-end : goal.slice_bounds-next_of-end
slice_bounds-next_of-end c =
    fits c.requires.0 c.requires.2 c.loop-listed.invariant (apart _ _ _ c.loop-listed-test.ensures (rw c.of-listed.ensures at c.destination-home.ensures))

pub next_of-requires : goal.next_of-requires
next_of-requires c =
    let off = apart _ _ _ c.loop-listed-test.ensures (rw c.of-listed.ensures at c.destination-home.ensures) in
    stated c.requires.0 _ c.loop-listed.invariant.inside _ (rw c.index-u.ensures at c.at.ensures) _
    (part_long c.requires.0 c.requires.2 c.loop-listed.invariant off)

pub returns-in_default : goal.returns-in_default
unfolding walk_in packet_in
returns-in_default c =
    let off = apart _ _ _ c.loop-listed-test.ensures (rw c.of-listed.ensures at c.destination-home.ensures) in
    let found = c.next_of.ensures ∙ ap (first_up _ _) (rw (c.of-listed.ensures, c.index-u.ensures) at c.row.ensures) in
    sym (halts c.requires.0 c.requires.2 c.loop-listed.invariant off
    (stops c.requires.0 _ c.loop-listed.invariant.inside _ (rw c.index-u.ensures at c.at.ensures) _ _ off _ found c.in_default.is))

pub overflow_add-packet : goal.overflow_add-packet
overflow_add-packet c = omega (arith, few_routers c.requires.0, c.loop-listed.invariant.ranked)

pub loop-listed-smaller : goal.loop-listed-smaller
loop-listed-smaller c =
    let off = apart _ _ _ c.loop-listed-test.ensures (rw c.of-listed.ensures at c.destination-home.ensures) in
    let found = c.next_of.ensures ∙ ap (first_up _ _) (rw (c.of-listed.ensures, c.index-u.ensures) at c.row.ensures) in
    (goes c.requires.0 _ c.loop-listed.invariant.inside _ (rw c.index-u.ensures at c.at.ensures) _ c.loop-listed.packet.hops off _ found _ c.in-Some.is).lower

pub loop-listed-preserved : goal.loop-listed-preserved
loop-listed-preserved c =
    let off = apart _ _ _ c.loop-listed-test.ensures (rw c.of-listed.ensures at c.destination-home.ensures) in
    let found = c.next_of.ensures ∙ ap (first_up _ _) (rw (c.of-listed.ensures, c.index-u.ensures) at c.row.ensures) in
    goes_on c.requires.0 c.requires.2 c.loop-listed.invariant off _
    (goes c.requires.0 _ c.loop-listed.invariant.inside _ (rw c.index-u.ensures at c.at.ensures) _ _ off _ found _ c.in-Some.is)

pub returns : goal.returns
unfolding walk_in packet_in
returns c =
    sym (ends c.requires.0 c.requires.2 c.loop-listed.invariant
    (at_home _ _ _ refl c.loop-listed-test.ensures ∙ rw c.of-listed.ensures at c.destination-home.ensures))
