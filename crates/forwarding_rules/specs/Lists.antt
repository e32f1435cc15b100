-- Lists of calls that set one packet or make one hop with it (01, Packet, hop and schedule, last paragraph; demand 3, hop by hop), over what the two calls
-- of a system leave that are lent the packet.
-- Assumes nothing.
use Rattle.std.specs.Prelude.{ℕ, List, [], ◌∷◌}
use Rattle.network.specs.Forwarding.{Packet}
use Rattle.forwarding_rules.specs.Calls.{Said, done, refused}
use Rattle.forwarding_rules.specs.System.{System}

-- 01, Packet, hop and schedule: one call, a setting of the packet at a start or a single hop of it under what a hop is given, which may be anything
pub data PacketCall (X : Type 0) : Type 0 where
  set_at : ℕ → PacketCall X
  hop_under : X → PacketCall X

-- the start of the setting, if it is not refused
unfoldable pub last_after : {A : Type 0} → ℕ → ℕ → Said A → ℕ
last_after u last (done q) = u
last_after u last (refused number at) = last

module _ (s : System) where
  -- 01, Packet, hop and schedule: the packet as one call leaves it
  unfoldable pub after_one : PacketCall s.forwarding.States → Packet s.forwarding.State → Packet s.forwarding.State
  after_one (set_at u) p = (s.setting_lent u p).packet
  after_one (hop_under x) p = (s.hopping_lent x p).packet

  -- each call gets the packet as the last one left it
  unfoldable pub after_all : List (PacketCall s.forwarding.States) → Packet s.forwarding.State → Packet s.forwarding.State
  after_all [] p = p
  after_all (c ∷ cs) p = after_all cs (after_one c p)

  -- the packet was last set at the start of the last setting not refused
  unfoldable pub set_after : PacketCall s.forwarding.States → ℕ → ℕ
  set_after (set_at u) last = last_after u last (s.setting u)
  set_after (hop_under x) last = last

  unfoldable pub last_set_in : List (PacketCall s.forwarding.States) → ℕ → ℕ
  last_set_in [] last = last
  last_set_in (c ∷ cs) last = last_set_in cs (set_after c last)
