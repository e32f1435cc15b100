-- Each request has its definition.
-- Assumes nothing.
use Rattle.std.proofs.Common.{refl}
use Rattle.forwarding_rules.specs.Calls.{packet_in}
use Rattle.console_held.specs.Requests.{carrying, answer_of, load_packet_by, setting_by, hop_by_lem}
use Rattle.console_held.specs.Inner.{held_in, question_in, change_to}
use Rattle.console_held.proofs.Replying.{answer_reply, success_returned}
use Rattle.console_held.proofs.unchecked.changes.change_by.Goals as goal

pub returns-in-Topology-clause-served : goal.returns-in-Topology-clause-served
unfolding change_to
returns-in-Topology-clause-served c = rw c.in-Topology.is c.read.ensures.served

pub returns-in-Import-clause-served : goal.returns-in-Import-clause-served
unfolding change_to
returns-in-Import-clause-served c = rw c.in-Import.is c.import.ensures.served

pub returns-in-LoadTable-clause-served : goal.returns-in-LoadTable-clause-served
unfolding change_to
returns-in-LoadTable-clause-served c = rw c.in-LoadTable.is c.load_table.ensures.served

pub returns-in-LoadPacket-clause-served : goal.returns-in-LoadPacket-clause-served
unfolding change_to load_packet_by carrying packet_in held_in question_in answer_of
returns-in-LoadPacket-clause-served c = rw c.in-LoadPacket.is (record { held = refl; replies = answer_reply refl })

pub returns-in-Set-clause-served : goal.returns-in-Set-clause-served
unfolding change_to setting_by held_in question_in
returns-in-Set-clause-served c = rw c.in-Set.is c.set.ensures.served

pub returns-in-Hop-clause-served : goal.returns-in-Hop-clause-served
unfolding change_to hop_by_lem held_in question_in
returns-in-Hop-clause-served c = rw c.in-Hop.is c.hop.ensures.served

pub returns-in-LoadPacket-clause-returned : goal.returns-in-LoadPacket-clause-returned
returns-in-LoadPacket-clause-returned c = success_returned
