-- What the two calls leave that are lent a packet: what they answer, and the packet after (01, Packet, hop and schedule; Refusals: no refusal writes to a
-- lent packet).
-- Assumes nothing.
use Rattle.std.specs.Prelude.{ℕ, List}
use Rattle.network.specs.Forwarding as network
use Rattle.network.specs.Forwarding.{Packet}
use Rattle.topology_types.specs.declared.Topology.{Topology}
use Rattle.forwarding_rules.specs.Calls.{Said, done, refused, setting_at, hopping}

-- What is said, and the packet as it is then, wherever a packet can stand.
pub record Left (S A : Type 0) : Type 0 where
  pub answer : Said A
  pub packet : Packet S

-- 01, Refusals: a setting not refused sets the packet; a refused one leaves it
unfoldable pub packet_after_setting_lem : {S : Type 0} → Packet S → Said (Packet S) → Packet S
packet_after_setting_lem p (done q) = q
packet_after_setting_lem p (refused number at) = p

-- 01, Packet, hop and schedule: only moved changes the packet
unfoldable pub packet_after_hop_lem : {S : Type 0} → Packet S → Said (network.Hop S) → Packet S
packet_after_hop_lem p (done network.delivered) = p
packet_after_hop_lem p (done (network.moved q)) = q
packet_after_hop_lem p (done network.dropped) = p
packet_after_hop_lem p (refused number at) = p

-- 01, Packet, hop and schedule: the packet is set to the start, its old contents untested
unfoldable pub setting_packet : Topology → ℕ → Packet ℕ → Left ℕ (Packet ℕ)
setting_packet t u p = record { answer = setting_at t u; packet = packet_after_setting_lem p (setting_at t u) }

-- 01, Packet, hop and schedule: one hop of the packet
unfoldable pub hopping_packet : Topology → List ℕ → List ℕ → Packet ℕ → Left ℕ (network.Hop ℕ)
hopping_packet t table states p = record { answer = hopping t table states p; packet = packet_after_hop_lem p (hopping t table states p) }
