-- A case of the answer is a case of the definition.
use Rattle.std.proofs.Common.{◌≡◌, Ok, Err, Result, refl, ap, ◌∙◌}
use Rattle.std.specs.Result.{result_unwrap_or}
use Rattle.topology_types.specs.declared.Refusal.{Refusal}
use Rattle.forwarding_rules.specs.declared.Packet.{Packet}
use Rattle.forwarding_rules.specs.Calls.{says, packet_in, setting_says}
use Rattle.forwarding_rules.specs.Lent.{packet_after_setting_lem}
use Rattle.forwarding.proofs.lending.packet_after_setting.Goals as goal

after_setting : (r : Result Packet Refusal) (p : Packet) → packet_in (result_unwrap_or r p) ≡ packet_after_setting_lem (packet_in p) (setting_says r)
unfolding packet_after_setting_lem says
after_setting (Ok q) p = refl
after_setting (Err e) p = refl

pub returns : goal.returns
returns c = ap packet_in c.unwrap_or.ensures ∙ after_setting c.args.answer.now c.args.packet
