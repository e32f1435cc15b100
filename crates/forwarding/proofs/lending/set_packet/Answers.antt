-- A setting that sets nothing leaves the packet of before.
use Rattle.std.proofs.Common.{refl}
use Rattle.forwarding_rules.specs.Calls.{packet_in, setting_says}
use Rattle.forwarding_rules.specs.Lent.{packet_after_setting_lem, setting_packet}
use Rattle.forwarding.proofs.Unchanged.{set_kept}
use Rattle.forwarding.proofs.lending.set_packet.Goals as goal

pub returns-then-is_set : goal.returns-then-is_set
unfolding setting_packet
returns-then-is_set c = rw (← c.set-answer.ensures, c.packet_after_setting.ensures) refl

pub returns-else-is_set : goal.returns-else-is_set
unfolding setting_packet
returns-else-is_set c =
    let p = packet_in c.args.packet.now in
    let s = setting_says c.set-answer.result in
    set_kept c.args.t c.args.start.0 p (packet_after_setting_lem p s) s (rw (← c.set-answer.ensures) refl)
    (rw (← c.is_set.ensures, c.if-is_set.false) tt)
