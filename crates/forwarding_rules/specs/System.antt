-- What demand 3 is said of: a system, routers that forward by what tables list, and the calls that set a packet there, move it and walk it. A router table is
-- one system; a further table, and what else a hop goes by, makes a further one, and the claims (Theorems) are said once for all.
-- Assumes nothing.
use Rattle.std.specs.Prelude.{ℕ}
use Rattle.network.specs.Forwarding.{Forwarding, Packet, Hop, Walk}
use Rattle.forwarding_rules.specs.Calls.{Said}
use Rattle.forwarding_rules.specs.Lent.{Left}

pub record System : Type 1 where
  -- 01, Packet, hop and schedule: where a packet can stand (`State`), and what a hop is given (`States`), a row of link states and what else it goes by
  pub forwarding : Forwarding
  -- a packet can be set at the places below this number, and stands there then
  pub places : ℕ
  pub standing : ℕ → forwarding.State
  -- what a walk is given: a schedule, and what else its hops go by
  pub Run : Type 0
  -- what a setting, a hop and a walk answer; what a setting and a hop leave that are lent the packet
  pub setting : ℕ → Said (Packet forwarding.State)
  pub hopping : forwarding.States → Packet forwarding.State → Said (Hop forwarding.State)
  pub walking : ℕ → Run → Said (Walk forwarding.State)
  pub setting_lent : ℕ → Packet forwarding.State → Left forwarding.State (Packet forwarding.State)
  pub hopping_lent : forwarding.States → Packet forwarding.State → Left forwarding.State (Hop forwarding.State)
  -- 01, Refusals: the packets that 15 lets pass, by where they stand and the hops they made; the states, and the runs, that 22 and 23 let pass
  pub may_stand : Packet forwarding.State → Type 0
  pub sound_states : forwarding.States → Type 0
  pub sound_run : Run → Type 0
  -- 01, Packet, hop and schedule: a run has a row for the hop after so many hops made, and what that hop is given; a run of no more rows than it needs
  pub has_row : Run → ℕ → Type 0
  pub row_of : Run → ℕ → forwarding.States
  pub least_run : Run → Type 0
  -- demand 3: the figure that is reported for a place, and the rank that it never exceeds, as the table has it
  pub reported : ℕ → ℕ
  pub bound : ℕ → ℕ
  -- 02, #107: the place has a path to the destination; what is reported where there is none
  pub reached : ℕ → Type 0
  pub no_figure : ℕ
  -- 01, Packet, hop and schedule, the rule of a hop: the packet is at d; no link to a listed next hop is up; where the first leads whose link is up
  pub at_destination : forwarding.State → Type 0
  pub none_up : forwarding.States → forwarding.State → Type 0
  pub goes : forwarding.States → forwarding.State → forwarding.State → Type 0
  -- where a walk is dropped for which no row of states is left, since no next hop is listed
  pub rowless : forwarding.State → Type 0
  -- 01, Order: what a move costs, in the direction of travel
  pub costs : forwarding.State → forwarding.State → ℕ → Type 0
