-- Demand 3 of a system that obeys the laws: a hop goes by the rule since its forwarding chooses by it; the rest is of its walks and its lists of calls.
-- Assumes nothing.
use mathlib.Core.Logic.Iff
use mathlib.Core.Logic.{◌↔◌}
use mathlib.Core.Path.{◌≡◌, sym, ap}
use lib.Dec.{T}
use Rattle.network.specs.Forwarding as network
use Rattle.network.specs.Forwarding.{Forwarding, Packet, hop, walk, start}
use Rattle.network.specs.Theorems.Forwarding.{HopChosen}
use Rattle.network.proofs.Hops.{hops_chosen}
use Rattle.forwarding_rules.specs.Calls.{done}
use Rattle.forwarding_rules.specs.System.{System}
use Rattle.forwarding_rules.specs.Theorems.Demand3.{HopByRule}
use Rattle.forwarding_rules.specs.Inner.{Laws, SystemsMeet}
use Rattle.forwarding_rules.proofs.Walks.{end, hop_by_hop, figure, cut-off}
use Rattle.forwarding_rules.proofs.CallLists.{in-turn, each_call, bounded}

not_both : {A B : Type 0} → A ↔ B → (A → ⊥) ↔ (B → ⊥)
not_both (on, back) = (λ no-a b. no-a (back b), λ no-b a. no-b (on a))

module _ (s : System) (l : Laws s) (x : s.forwarding.States) (p : Packet s.forwarding.State) (stands : s.may_stand p) (sound : s.sound_states x) where
  abbrev f : Forwarding
  f = s.forwarding

  chosen : HopChosen f x p
  chosen = hops_chosen f x p

  -- what is done is what is made
  made : (h : network.Hop f.State) → (s.hopping x p ≡ done h) ↔ (hop f x p ≡ h)
  made h = let e = l.hops x p stands sound in (λ g. (cc), λ g. (cc))

  off : (T (f.home p.station) → ⊥) ↔ (s.at_destination p.station → ⊥)
  off = not_both (l.home_is p stands)

  by_rule : HopByRule s x p
  by_rule =
      record {
        delivers = Iff.trans (made network.delivered) (Iff.trans chosen.delivers (l.home_is p stands));
        drops = Iff.trans (made network.dropped) (Iff.trans chosen.drops (Iff.and off (l.chooses_none x p stands sound)));
        moves = λ q. Iff.trans (made (network.moved q)) (Iff.trans (chosen.moves q) (
          λ (away, (e, c, is)).
              (off.0 away, (l.chooses x p stands sound q.station).0 (e, c, ap (λ (r : Packet f.State). r.station) (sym is)), ap (λ (r : Packet f.State). r.hops) is),
          λ (away, first, many).
              let (e, c, to) = (l.chooses x p stands sound q.station).1 first in
              (off.1 away, (e, c, λ i. record { station = sym to i; hops = many i })),
        ));
      }

pub systems_meet : SystemsMeet
unfolding start
systems_meet s l =
    record {
      either = l.either;
      settings_done = λ u q. (
        λ e. let place = l.sets_only u q e in (place, cc (l.sets u place)),
        λ (place, is). cc (l.sets u place),
      );
      hops_done = λ x p. (λ (h, e). l.hops_only x p h e, λ (stands, sound). (hop s.forwarding x p, l.hops x p stands sound));
      walks_done = λ u run. (
        λ (w, e). l.walks_only u run w e,
        λ (place, sound). (walk s.forwarding (l.rows-in run) (start (s.standing u)), l.walks u place run sound),
      );
      figures = figure s l;
      cut-off = cut-off s l;
      hops = by_rule s l;
      ends = λ u place run sound. end s l run sound u place;
      by_hops = λ u run w e. let (place, sound) = l.walks_only u run w e in (_, hop_by_hop s l run sound u place w e);
      calls = bounded s l;
      rowless_none = l.rowless_none;
      each_call = each_call s l.left_by;
      in-turn = in-turn s;
    }
