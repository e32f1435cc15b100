-- What a setting answers, by the law on its two tests, and what one call leaves of the packet, read off what it answers.
-- Assumes nothing.
use Prim.Native.Nat.{ℕ}
use mathlib.Core.Logic.{◌≢◌}
use mathlib.Core.Path.{◌≡◌, refl, ap}
use Rattle.network.specs.Forwarding as network
use Rattle.network.specs.Forwarding.{Packet, start}
use Rattle.topology_sound.proofs.Place.{on_place_unsound, on_place_outside, on_place_next}
use Rattle.forwarding_rules.specs.Calls.{Said, done, refused, setting_at, hopping}
use Rattle.forwarding_rules.specs.Lent.{Left, packet_after_setting_lem, packet_after_hop_lem, setting_packet, hopping_packet}
use Rattle.forwarding_rules.specs.Theorems.{left, SettingsAnswer, SettingsLeave, HopsLeave}

pub settings_answer : SettingsAnswer
unfolding setting_at start
settings_answer t u =
    record {
      sets = on_place_next refused t u _;
      not_sound = on_place_unsound refused t u _;
      no_place = on_place_outside refused t u _;
    }

pub settings_leave : SettingsLeave
unfolding setting_packet packet_after_setting_lem
settings_leave t u p =
    record {
      sets = λ s h. ap after_said ((settings_answer t u).sets s h);
      not_sound = λ out. ap after_said ((settings_answer t u).not_sound out);
      no_place = λ s h. ap after_said ((settings_answer t u).no_place s h);
    }
  where
    after_said : Said (Packet ℕ) → Left ℕ (Packet ℕ)
    after_said said = left said (packet_after_setting_lem p said)

-- only moved changes the packet
changes : (p : Packet ℕ) (said : Said (network.Hop ℕ)) → packet_after_hop_lem p said ≢ p → (q : Packet ℕ) × (said ≡ done (network.moved q))
unfolding packet_after_hop_lem
changes p (done network.delivered) other = absurd (other refl)
changes p (done (network.moved q)) other = (q, refl)
changes p (done network.dropped) other = absurd (other refl)
changes p (refused number at) other = absurd (other refl)

pub hops_leave : HopsLeave
unfolding hopping_packet packet_after_hop_lem
hops_leave t table states p =
    record {
      answers = refl;
      delivers = (ap said, ap after_said);
      moves = λ q. (ap said, ap after_said);
      drops = (ap said, ap after_said);
      refuses = λ number at. (ap said, ap after_said);
      only_moved = changes p (hopping t table states p);
    }
  where
    said : Left ℕ (network.Hop ℕ) → Said (network.Hop ℕ)
    said l = l.answer

    after_said : Said (network.Hop ℕ) → Left ℕ (network.Hop ℕ)
    after_said said = left said (packet_after_hop_lem p said)
