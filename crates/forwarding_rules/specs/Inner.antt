-- What is shown of a system, for demand 3 to hold of it: its calls do what its forwarding does where their tests pass, its figures are the longest ways down
-- the rows, and its rule is the rule of choice. No promise is read with it.
-- Assumes nothing.
use Rattle.std.specs.Prelude.{ℕ, ◌+◌, ◌≤◌, ◌<◌, ◌↔◌, ◌⊎◌, ◌≡◌, T, length, drop}
use mathlib.Core.List.{List, [], ◌∷◌, Memᴰ}
use Rattle.std.proofs.Math.Option.{none, some}
use Rattle.network.specs.Forwarding.{Forwarding, Packet, Hop, Walk, dropped_at, start, hop, walk, longest}
use Rattle.network.specs.Theorems.Forwarding.{Lawful}
use Rattle.forwarding_rules.specs.Calls.{done}
use Rattle.forwarding_rules.specs.Lent.{packet_after_setting_lem, packet_after_hop_lem}
use Rattle.forwarding_rules.specs.System.{System}
use Rattle.forwarding_rules.specs.Theorems.Demand3.{Claims}

module _ (s : System) where
  abbrev f : Forwarding
  f = s.forwarding

  -- what the calls leave that are lent the packet is by what the others answer
  pub record LeftByAnswer : Type 0 where
    pub set_answers : (u : ℕ) (p : Packet f.State) → (s.setting_lent u p).answer ≡ s.setting u
    pub hop_answers : (x : f.States) (p : Packet f.State) → (s.hopping_lent x p).answer ≡ s.hopping x p
    pub set_leaves : (u : ℕ) (p : Packet f.State) → (s.setting_lent u p).packet ≡ packet_after_setting_lem p (s.setting u)
    pub hop_leaves : (x : f.States) (p : Packet f.State) → (s.hopping_lent x p).packet ≡ packet_after_hop_lem p (s.hopping x p)

  pub record Laws : Type 1 where
    -- ranks that fall along entries, states under which each entry can be chosen, and which stations a packet comes to
    pub rank : f.State → ℕ
    pub valid : f.States → Type 0
    pub inside : f.State → Type 0
    -- how many rows a schedule needs, and the rows of a run
    pub rows : ℕ
    pub rows-in : s.Run → List f.States
    pub lawful : Lawful f rank valid
    pub valid_sound : (x : f.States) → valid x → s.sound_states x
    -- a packet that is set has a rank of at most that, and may stand wherever entries lead it, since hops made and the rank left are at most that
    pub starts : (u : ℕ) → u < s.places → inside (s.standing u) × (rank (s.standing u) ≤ rows)
    pub stays : (st : f.State) → inside st → (e : f.Entry) → Memᴰ e (f.row st) → inside (f.next e)
    pub admitted : (p : Packet f.State) → inside p.station → p.hops + rank p.station ≤ rows → s.may_stand p
    -- a call is done where its tests pass, as forwarding does it, and only there
    pub left_by : LeftByAnswer
    pub rowless_none : (st : f.State) (x : f.States) → s.rowless st → s.none_up x st
    pub sets : (u : ℕ) → u < s.places → s.setting u ≡ done (start (s.standing u))
    pub sets_only : (u : ℕ) (q : Packet f.State) → s.setting u ≡ done q → u < s.places
    pub hops : (x : f.States) (p : Packet f.State) → s.may_stand p → s.sound_states x → s.hopping x p ≡ done (hop f x p)
    pub hops_only : (x : f.States) (p : Packet f.State) (h : Hop f.State) → s.hopping x p ≡ done h → s.may_stand p × s.sound_states x
    pub walks : (u : ℕ) → u < s.places → (run : s.Run) → s.sound_run run → s.walking u run ≡ done (walk f (rows-in run) (start (s.standing u)))
    pub walks_only : (u : ℕ) (run : s.Run) (w : Walk f.State) → s.walking u run ≡ done w → (u < s.places) × s.sound_run run
    -- a run has rows enough, which are those that it has for each hop; some run of no more has any valid rows
    pub enough : (run : s.Run) → s.sound_run run → rows ≤ length (rows-in run)
    pub row_there : (run : s.Run) → s.sound_run run → (h : ℕ) (x : f.States) (rest : List f.States) → drop h (rows-in run) ≡ x ∷ rest →
        s.has_row run h × s.sound_states (s.row_of run h) × (x ≡ s.row_of run h)
    pub row_past : (run : s.Run) → s.sound_run run → (p : Packet f.State) → drop p.hops (rows-in run) ≡ [] → inside p.station →
        rank p.station ≡ 0 → (T (f.home p.station) → ⊥) →
        (walk f [] p ≡ dropped_at p) × (s.has_row run p.hops → ⊥) × s.rowless p.station
    pub run_of : (xs : List f.States) → length xs ≡ rows → ((x : f.States) → Memᴰ x xs → valid x) →
        (run : s.Run) × s.least_run run × s.sound_run run × (rows-in run ≡ xs)
    -- figures are the longest ways where there is a path; where there is none the row is empty
    pub either : (u : ℕ) → u < s.places → s.reached u ⊎ (s.reached u → ⊥)
    pub figure_reached : (u : ℕ) → u < s.places → s.reached u → s.reported u ≡ longest f rows (s.standing u)
    pub within_bound : (u : ℕ) → u < s.places → s.reached u → rank (s.standing u) ≤ s.bound u
    pub figure_unreached : (u : ℕ) → u < s.places → (s.reached u → ⊥) → s.reported u ≡ s.no_figure
    pub row_unreached : (u : ℕ) → u < s.places → (s.reached u → ⊥) → (f.row (s.standing u) ≡ []) × (T (f.home (s.standing u)) → ⊥)
    -- the rule of a hop is the rule of choice
    pub home_is : (p : Packet f.State) → s.may_stand p → T (f.home p.station) ↔ s.at_destination p.station
    pub chooses_none : (x : f.States) (p : Packet f.State) → s.may_stand p → s.sound_states x →
        (f.choose x p.station ≡ none) ↔ s.none_up x p.station
    pub chooses : (x : f.States) (p : Packet f.State) → s.may_stand p → s.sound_states x → (st : f.State) →
        ((e : f.Entry) × (f.choose x p.station ≡ some e) × (f.next e ≡ st)) ↔ s.goes x p.station st
    -- what the entries of a way cost
    pub cost-of : List f.Entry → ℕ
    pub no_cost : cost-of [] ≡ 0
    pub one_more : (st : f.State) → inside st → (e : f.Entry) (es : List f.Entry) → Memᴰ e (f.row st) →
        (cost : ℕ) × s.costs st (f.next e) cost × (cost-of (e ∷ es) ≡ cost + cost-of es)

-- Demand 3 holds of every system that obeys the laws.
abbrev pub SystemsMeet : Type 1
SystemsMeet = (s : System) → Laws s → Claims s
