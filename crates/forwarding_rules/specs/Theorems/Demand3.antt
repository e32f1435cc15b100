-- Demand 3, of any system: the records that its claims are made of, and the one record that has them all.
-- Assumes nothing.
use Rattle.std.specs.Prelude.{ℕ, suc, ◌+◌, ◌≤◌, ◌<◌, ◌↔◌, ◌⊎◌, ◌≡◌}
use mathlib.Core.List.{List, [], ◌∷◌, ◌++◌, Memᴰ}
use Rattle.network.specs.Forwarding as network
use Rattle.network.specs.Forwarding.{Packet, Walk, delivered_at, dropped_at, packet_of}
use Rattle.forwarding_rules.specs.Calls.{done, refused}
use Rattle.forwarding_rules.specs.System.{System}
use Rattle.forwarding_rules.specs.Lists.{PacketCall, set_at, hop_under, after_one, after_all, set_after, last_set_in}

module _ (s : System) where
  abbrev State : Type 0
  State = s.forwarding.State

  abbrev States : Type 0
  States = s.forwarding.States

  abbrev Calls : Type 0
  Calls = List (PacketCall States)

  -- Demand 3, walks: for every reached start the figure we report is exactly the greatest hop count of a walk from there.
  pub record FigureExact (u : ℕ) : Type 0 where
    -- no schedule passes it
    pub never_passed : (run : s.Run) (w : Walk State) → s.walking u run ≡ done w → (packet_of w).hops ≤ s.reported u
    -- some schedule, of no more rows than one needs, reaches it
    pub reached : (run : s.Run) × s.least_run run
        × ((w : Walk State) × (s.walking u run ≡ done w) × ((packet_of w).hops ≡ s.reported u))
    -- it never exceeds the station's rank
    pub at_most_rank : s.reported u ≤ s.bound u

  -- Demand 3, last sentence: a hop not refused goes by 01's rule, and drops the packet exactly when it is short of its destination and no link to a
  -- listed next hop is up.
  pub record HopByRule (x : States) (p : Packet State) : Type 0 where
    pub delivers : (s.hopping x p ≡ done network.delivered) ↔ s.at_destination p.station
    pub drops : (s.hopping x p ≡ done network.dropped) ↔ ((s.at_destination p.station → ⊥) × s.none_up x p.station)
    pub moves : (q : Packet State) → (s.hopping x p ≡ done (network.moved q))
        ↔ ((s.at_destination p.station → ⊥) × s.goes x p.station q.station × (q.hops ≡ suc p.hops))

  -- Demand 3: a walk not refused ends delivered at d, or dropped off d where, in the row of states for that hop, no link to a listed next hop is up; or
  -- where no row of states is left for that hop, and no next hop is listed.
  pub data WalkEnds (u : ℕ) (run : s.Run) : Type 0 where
    delivers : (p : Packet State) → s.walking u run ≡ done (delivered_at p) → s.at_destination p.station → WalkEnds u run
    drops : (p : Packet State) → s.walking u run ≡ done (dropped_at p) → (s.at_destination p.station → ⊥) → s.has_row run p.hops →
        s.none_up (s.row_of run p.hops) p.station → WalkEnds u run
    drops_rowless : (p : Packet State) → s.walking u run ≡ done (dropped_at p) → (s.at_destination p.station → ⊥) → (s.has_row run p.hops → ⊥) →
        s.rowless p.station → WalkEnds u run

  -- Demand 3, "in a walk too": from a packet, single hops by the call for them, each under the run's row for it, lead to this end. Where the packet is at d
  -- it is delivered. The number is what the hops cost, each in the direction of travel.
  pub data ByHops (run : s.Run) : Packet State → Walk State → ℕ → Type 0 where
    arrives : (p : Packet State) → s.at_destination p.station → ByHops run p (delivered_at p) 0
    drops : (p : Packet State) → s.hopping (s.row_of run p.hops) p ≡ done network.dropped → ByHops run p (dropped_at p) 0
    drops_rowless : (p : Packet State) → (s.at_destination p.station → ⊥) → (s.has_row run p.hops → ⊥) → s.rowless p.station →
        ByHops run p (dropped_at p) 0
    goes_on : (p q : Packet State) (w : Walk State) (cost rest : ℕ) → s.hopping (s.row_of run p.hops) p ≡ done (network.moved q) →
        s.costs p.station q.station cost → ByHops run q w rest → ByHops run p w (cost + rest)

  -- A walk is delivered at d, and what its hops cost adds up to this.
  pub record WalkCosts (u : ℕ) (run : s.Run) (cost : ℕ) : Type 0 where
    pub end : Packet State
    pub delivers : s.walking u run ≡ done (delivered_at end)
    pub there : s.at_destination end.station
    pub adds_up : ByHops run (record { station = s.standing u; hops = 0 }) (delivered_at end) cost

  -- 02, #107: from a start with no path to the destination a walk not refused is dropped after 0 hops, and so is every hop there, whatever the hops made; the
  -- figure reported says so.
  pub record CutOff (u : ℕ) : Type 0 where
    pub figure_is : s.reported u ≡ s.no_figure
    pub walks : (run : s.Run) → s.sound_run run → s.walking u run ≡ done (dropped_at (record { station = s.standing u; hops = 0 }))
    pub hops : (x : States) (p : Packet State) → p.station ≡ s.standing u → s.may_stand p → s.sound_states x → s.hopping x p ≡ done network.dropped

  -- What one call does to the packet, and to where it was last set: it leaves the packet that the call's contract says, and a refused one changes nothing.
  pub record CallRule (p : Packet State) (last : ℕ) : Type 0 where
    pub set_answers : (u : ℕ) → (s.setting_lent u p).answer ≡ s.setting u
    pub hop_answers : (x : States) → (s.hopping_lent x p).answer ≡ s.hopping x p
    pub set_leaves : (u : ℕ) → after_one s (set_at u) p ≡ (s.setting_lent u p).packet
    pub hop_leaves : (x : States) → after_one s (hop_under x) p ≡ (s.hopping_lent x p).packet
    pub sets : (u : ℕ) (q : Packet State) → s.setting u ≡ done q → (after_one s (set_at u) p ≡ q) × (set_after s (set_at u) last ≡ u)
    pub set_refused : (u number at : ℕ) → s.setting u ≡ refused number at → (after_one s (set_at u) p ≡ p) × (set_after s (set_at u) last ≡ last)
    pub hops : (x : States) (q : Packet State) → s.hopping x p ≡ done (network.moved q) → after_one s (hop_under x) p ≡ q
    pub stays : (x : States) → (s.hopping x p ≡ done network.delivered) ⊎ (s.hopping x p ≡ done network.dropped) → after_one s (hop_under x) p ≡ p
    pub hop_refused : (x : States) (number at : ℕ) → s.hopping x p ≡ refused number at → after_one s (hop_under x) p ≡ p
    pub hop_sets_nothing : (x : States) → set_after s (hop_under x) last ≡ last

  -- 01, Packet, hop and schedule: the last call of a list gets the packet as those before it left it, and where it was last set.
  pub record InTurn (p : Packet State) (last : ℕ) : Type 0 where
    pub no_calls : (after_all s [] p ≡ p) × (last_set_in s [] last ≡ last)
    pub one_more : (cs : Calls) (c : PacketCall States) → (after_all s (cs ++ (c ∷ [])) p ≡ after_one s c (after_all s cs p))
        × (last_set_in s (cs ++ (c ∷ [])) last ≡ set_after s c (last_set_in s cs last))

  -- Demand 3, hop by hop: ONE claim over all lists of calls, refused ones included, after a first accepted setting. The packet never has more hops made
  -- than the figure of the station it was last set at; if that is not reached it has 0 hops made, always, and stands there (02, #107). For each reached
  -- station some list that last sets it there, and goes on by hops under states that 22 and 23 let pass, reaches that figure.
  pub record CallsBounded : Type 0 where
    pub never_passed : (p : Packet State) (first : ℕ) → first < s.places → (cs : Calls) →
        (last_set_in s cs first < s.places) × ((after_all s (set_at first ∷ cs) p).hops ≤ s.reported (last_set_in s cs first))
    pub never_moved : (p : Packet State) (first : ℕ) → first < s.places → (cs : Calls) → (s.reached (last_set_in s cs first) → ⊥) →
        after_all s (set_at first ∷ cs) p ≡ record { station = s.standing (last_set_in s cs first); hops = 0 }
    pub reached : (p : Packet State) (u : ℕ) → u < s.places → s.reached u → (cs : Calls) × (last_set_in s cs u ≡ u)
        × ((after_all s (set_at u ∷ cs) p).hops ≡ s.reported u)
        × ((c : PacketCall States) → Memᴰ c cs → (x : States) × (c ≡ hop_under x) × s.sound_states x)

  -- Demand 3, entire. A place is reached or cut off, and which settings, hops and walks are not refused is said too, if and only if, so that the claims speak of
  -- every one of them.
  pub record Claims : Type 0 where
    pub either : (u : ℕ) → u < s.places → s.reached u ⊎ (s.reached u → ⊥)
    pub settings_done : (u : ℕ) (q : Packet State) → (s.setting u ≡ done q) ↔ ((u < s.places) × (q ≡ record { station = s.standing u; hops = 0 }))
    pub hops_done : (x : States) (p : Packet State) → ((h : network.Hop State) × (s.hopping x p ≡ done h)) ↔ (s.may_stand p × s.sound_states x)
    pub walks_done : (u : ℕ) (run : s.Run) → ((w : Walk State) × (s.walking u run ≡ done w)) ↔ ((u < s.places) × s.sound_run run)
    pub figures : (u : ℕ) → u < s.places → s.reached u → FigureExact u
    pub cut-off : (u : ℕ) → u < s.places → (s.reached u → ⊥) → CutOff u
    pub hops : (x : States) (p : Packet State) → s.may_stand p → s.sound_states x → HopByRule x p
    pub ends : (u : ℕ) → u < s.places → (run : s.Run) → s.sound_run run → WalkEnds u run
    pub by_hops : (u : ℕ) (run : s.Run) (w : Walk State) → s.walking u run ≡ done w →
        (cost : ℕ) × ByHops run (record { station = s.standing u; hops = 0 }) w cost
    pub rowless_none : (st : State) (x : States) → s.rowless st → s.none_up x st
    pub calls : CallsBounded
    pub each_call : (p : Packet State) (last : ℕ) → CallRule p last
    pub in-turn : (p : Packet State) (last : ℕ) → InTurn p last
