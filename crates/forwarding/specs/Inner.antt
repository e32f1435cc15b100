-- Whether a call changed the packet that it was lent, as the private functions of a lent packet answer; no open contract rests on it.
-- Assumes nothing.
use Rattle.std.specs.Prelude.{ℕ, Bool, true, false}
use Rattle.network.specs.Forwarding as network
use Rattle.network.specs.Forwarding.{Packet}
use Rattle.forwarding_rules.specs.Calls.{Said, done, refused}

-- 01, Refusals: a refused setting writes to no packet
unfoldable pub is_set : Said (Packet ℕ) → Bool
is_set (done p) = true
is_set (refused number at) = false

-- 01, Packet, hop and schedule: only moved changes the packet
unfoldable pub is_moved_lem : Said (network.Hop ℕ) → Bool
is_moved_lem (done network.delivered) = false
is_moved_lem (done (network.moved p)) = true
is_moved_lem (done network.dropped) = false
is_moved_lem (refused number at) = false
