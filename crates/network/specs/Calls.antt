-- Lists of calls (01, Packet, hop and schedule, last paragraph; demand 3, hop by hop): what settings and single hops, some refused, do to one packet.
-- Assumes nothing.
use Rattle.std.specs.Prelude.{Bool, cond, List, [], ◌∷◌}
use Rattle.network.specs.Forwarding.{Forwarding, Packet, Hop, delivered, moved, dropped, hop, start}

-- 01, Packet, hop and schedule: one call, a setting of the packet at a start or a single hop of it under a row of link states
pub data Call (f : Forwarding) : Type 0 where
  setting : f.State → Call f
  hopping : f.States → Call f

-- 01, Refusals: the tests by which a call is refused or not; a hop's may look at the packet
pub record Tests (f : Forwarding) : Type 0 where
  pub start_ok : f.State → Bool
  pub hop_ok : f.States → Packet f.State → Bool

-- 01, Packet, hop and schedule: only moved changes the packet
unfoldable pub after_hop : {S : Type 0} → Packet S → Hop S → Packet S
after_hop p delivered = p
after_hop p dropped = p
after_hop p (moved q) = q

module _ (f : Forwarding) (tests : Tests f) where
  -- 01, Refusals: the packet after one call; a refused one changes nothing
  unfoldable pub after_call : Call f → Packet f.State → Packet f.State
  after_call (setting s) p = cond (tests.start_ok s) (start s) p
  after_call (hopping x) p = cond (tests.hop_ok x p) (after_hop p (hop f x p)) p

  -- 01, Packet, hop and schedule: each call gets the packet as the last one left it
  unfoldable pub after_calls : List (Call f) → Packet f.State → Packet f.State
  after_calls [] p = p
  after_calls (c ∷ cs) p = after_calls cs (after_call c p)

  -- 01, Packet, hop and schedule: a setting not refused sets the packet at its start
  unfoldable pub set_by : Call f → f.State → f.State
  set_by (setting s) last = cond (tests.start_ok s) s last
  set_by (hopping x) last = last

  -- 01, Packet, hop and schedule: the packet was last set at the start of the last setting not refused
  unfoldable pub last_set : List (Call f) → f.State → f.State
  last_set [] last = last
  last_set (c ∷ cs) last = last_set cs (set_by c last)
