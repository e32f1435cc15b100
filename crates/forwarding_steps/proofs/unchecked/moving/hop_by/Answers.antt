-- Off d the first place of the row whose link is up is where the hop goes.
use Rattle.std.proofs.Common.{sym, ap, ◌∙◌, arith}
use borrow.Author.Tests.{eqb-true, eqb-false}
use Rattle.table.proofs.Fields.{headed, rowed}
use Rattle.forwarding_rules.specs.Calls.{packet_in, hop_in}
use Rattle.forwarding_steps.specs.Inner.{first_up}
use Rattle.forwarding_steps.proofs.Steps.{few_routers, accepted, arcs_fit, stated, arrives, stops, goes}
use Rattle.forwarding_steps.proofs.unchecked.moving.hop_by.Goals as goal

pub destination-requires : goal.destination-requires
destination-requires c = rw c.of-listed.ensures (headed (accepted c.requires.0).stands)

pub returns-then-eq : goal.returns-then-eq
unfolding hop_in packet_in
returns-then-eq c =
    sym (arrives c.requires.0 _ (packet_in c.args.packet) (eqb-true _ _ (sym c.if-eq.ensures) ∙ rw c.of-listed.ensures at c.destination.ensures))

pub row-requires : goal.row-requires
row-requires c = rw (c.of-listed.ensures, c.index-u.ensures) (rowed (accepted c.requires.0).stands _ c.requires.1)

pub at-requires : goal.at-requires
at-requires c = rw c.index-u.ensures (arcs_fit c.requires.0 _ c.requires.1)

pub next_of-requires : goal.next_of-requires
next_of-requires c = stated c.requires.0 _ c.requires.1 _ (rw c.index-u.ensures at c.at.ensures) _ c.requires.3

pub returns-in_default : goal.returns-in_default
unfolding hop_in packet_in
returns-in_default c =
    let home = rw c.of-listed.ensures at c.destination.ensures in
    let found = c.next_of.ensures ∙ ap (first_up _ _) (rw (c.of-listed.ensures, c.index-u.ensures) at c.row.ensures) in
    sym (stops c.requires.0 _ c.requires.1 _ (rw c.index-u.ensures at c.at.ensures) _ c.args.packet.hops
    (λ e. eqb-false _ _ (sym c.if-eq.ensures) (e ∙ sym home)) _ found c.in_default.is)

pub overflow_add-result : goal.overflow_add-result
overflow_add-result c = omega (arith, few_routers c.requires.0, c.requires.2)

pub returns : goal.returns
unfolding hop_in packet_in
returns c =
    let home = rw c.of-listed.ensures at c.destination.ensures in
    let found = c.next_of.ensures ∙ ap (first_up _ _) (rw (c.of-listed.ensures, c.index-u.ensures) at c.row.ensures) in
    sym (goes c.requires.0 _ c.requires.1 _ (rw c.index-u.ensures at c.at.ensures) _ c.args.packet.hops
    (λ e. eqb-false _ _ (sym c.if-eq.ensures) (e ∙ sym home)) _ found _ c.in-Some.is).hop_is
