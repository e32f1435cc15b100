-- A hop that moves nothing leaves the packet of before.
use Rattle.std.proofs.Common.{refl}
use Rattle.forwarding_rules.specs.Calls.{packet_in, hop_says}
use Rattle.forwarding_rules.specs.Lent.{packet_after_hop_lem, hopping_packet}
use Rattle.forwarding.proofs.Unchanged.{hop_kept}
use Rattle.forwarding.proofs.lending.hop_packet.Goals as goal

pub returns-then-is_moved : goal.returns-then-is_moved
unfolding hopping_packet
returns-then-is_moved c = rw (← c.hop-answer.ensures, c.packet_after_hop.ensures) refl

pub returns-else-is_moved : goal.returns-else-is_moved
unfolding hopping_packet
returns-else-is_moved c =
    let p = packet_in c.args.packet.now in
    let s = hop_says c.hop-answer.result in
    hop_kept c.args.t c.args.table.now c.args.states.now p (packet_after_hop_lem p s) s (rw (← c.hop-answer.ensures) refl)
    (rw (← c.is_moved.ensures, c.if-is_moved.false) tt)
