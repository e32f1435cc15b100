-- Forwarding (01, Packet, hop and schedule), over any rows and any rule of choice, so that each kind of table and each rule is an instance.
-- Assumes nothing.
use Rattle.std.specs.Prelude.{ℕ, zero, suc, Bool, true, false, List, [], ◌∷◌}
use Rattle.std.proofs.Math.Option.{Option, none, some}
use Rattle.network.specs.Lists.{greatest_by}

-- 01, Packet, hop and schedule: where a packet can stand, which of these is its destination, what its row there lists, and what a hop chooses from
-- the row when it is given the states of the links
pub record Forwarding : Type 1 where
  pub State : Type 0
  pub Entry : Type 0
  pub States : Type 0
  pub home : State → Bool
  pub row : State → List Entry
  pub next : Entry → State
  pub choose : States → State → Option Entry

-- 01, Packet, hop and schedule: the packet is one small record, station and hops made
pub record Packet (S : Type 0) : Type 0 where
  pub station : S
  pub hops : ℕ

-- 01, Packet, hop and schedule: one hop answers delivered, moved or dropped, judged at the station where it finds the packet
pub data Hop (S : Type 0) : Type 0 where
  delivered : Hop S
  moved : Packet S → Hop S
  dropped : Hop S

-- 01, Packet, hop and schedule: a walk answers delivered or dropped, the station and the hops made. Too short a list of rows of states leaves it
-- unfinished.
pub data Walk (S : Type 0) : Type 0 where
  delivered_at : Packet S → Walk S
  dropped_at : Packet S → Walk S
  unfinished_at : Packet S → Walk S

-- 01, Packet, hop and schedule: the station and the hops made that a walk answers
unfoldable pub packet_of : {S : Type 0} → Walk S → Packet S
packet_of (delivered_at p) = p
packet_of (dropped_at p) = p
packet_of (unfinished_at p) = p

-- 01, Packet, hop and schedule: a walk begins at its start with 0 hops made, and so does a packet that is set
unfoldable pub start : {S : Type 0} → S → Packet S
start s = record { station = s; hops = 0 }

-- 01, Packet, hop and schedule: a walk goes on until the packet is at d or a hop drops it
unfoldable pub walk_on : {S : Type 0} → Packet S → Hop S → (Packet S → Walk S) → Walk S
walk_on p delivered rest = delivered_at p
walk_on p dropped rest = dropped_at p
walk_on p (moved q) rest = rest q

-- 01, Packet, hop and schedule: where no row of states is left the packet is at d, or it is dropped where the row of its station is empty, for what is chosen
-- stands in the row (`Lawful`); else the walk is not finished
unfoldable pub walk_end : {S E : Type 0} → Packet S → Bool → List E → Walk S
walk_end p true entries = delivered_at p
walk_end p false [] = dropped_at p
walk_end p false (e ∷ es) = unfinished_at p

module _ (f : Forwarding) where
  -- 01, Packet, hop and schedule: by whether the packet is at d, and the entry chosen if not; only moved changes the packet, to that entry and one
  -- hop more
  unfoldable pub hop_to : Packet f.State → Bool → Option f.Entry → Hop f.State
  hop_to p true chosen = delivered
  hop_to p false none = dropped
  hop_to p false (some e) = moved (record { station = f.next e; hops = suc p.hops })

  -- 01, Packet, hop and schedule: a packet at d is delivered; elsewhere it moves to the entry chosen, and if there is none it is dropped there
  unfoldable pub hop : f.States → Packet f.State → Hop f.State
  hop x p = hop_to p (f.home p.station) (f.choose x p.station)

  -- 01, Packet, hop and schedule: a walk makes hops, each with the schedule's row for it
  unfoldable pub walk : List f.States → Packet f.State → Walk f.State
  walk [] p = walk_end p (f.home p.station) (f.row p.station)
  walk (x ∷ xs) p = walk_on p (hop x p) (walk xs)

  -- 01, Packet, hop and schedule: by whether the packet is at d, and the entry chosen if not, what the walk goes to from there
  unfoldable pub route_on : Bool → Option f.Entry → (f.State → List f.Entry) → List f.Entry
  route_on true chosen rest = []
  route_on false none rest = []
  route_on false (some e) rest = e ∷ rest (f.next e)

  -- 01, Packet, hop and schedule: the entries that a walk goes to, one a hop
  unfoldable pub route : List f.States → f.State → List f.Entry
  route [] s = []
  route (x ∷ xs) s = route_on (f.home s) (f.choose x s) (route xs)

  -- 01, Packet, hop and schedule: the station that entries lead to from a station, one after the other
  unfoldable pub end_of : f.State → List f.Entry → f.State
  end_of s [] = s
  end_of s (e ∷ es) = end_of (f.next e) es

  -- 01, Packet, hop and schedule, the greatest hop count as it is computed: the longest way down the rows from a station, in at most `left` hops
  unfoldable pub longest : ℕ → f.State → ℕ
  longest zero s = 0
  longest (suc left) s = greatest_by (λ e. suc (longest left (f.next e))) (f.row s)
