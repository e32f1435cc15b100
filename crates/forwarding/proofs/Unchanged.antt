-- A setting that sets nothing and a hop that moves nothing leave the packet of before, by cases of what they say: so where the flag is down, nothing need be
-- stored.
-- Assumes nothing.
use mathlib.Core.Path.{◌≡◌, refl, ap, subst}
use mathlib.Core.Bool.{not}
use Prim.Native.Nat.{ℕ}
use mathlib.Core.List.{List}
use lib.Dec.{T}
use Rattle.network.specs.Forwarding as network
use Rattle.network.specs.Forwarding.{Packet}
use Rattle.topology_types.specs.declared.Topology.{Topology}
use Rattle.forwarding_rules.specs.Calls.{Said, done, refused, setting_at, hopping}
use Rattle.forwarding_rules.specs.Lent.{Left, packet_after_setting_lem, packet_after_hop_lem, setting_packet, hopping_packet}
use Rattle.forwarding.specs.Inner.{is_set, is_moved_lem}

module _ {A : Type 0} where
  abbrev leaving : Said A → Packet ℕ → Left ℕ A
  leaving s p = record { answer = s; packet = p }

  kept : (after : Packet ℕ → Said A → Packet ℕ) (p z : Packet ℕ) (s s' : Said A) → p ≡ after p s → leaving s z ≡ leaving s' (after p s') → leaving s p ≡ leaving s' (after p s')
  kept after p z s s' same e = subst (λ (x : Said A). leaving s p ≡ leaving x (after p x)) (ap (λ (l : Left ℕ A). l.answer) e) (ap (leaving s) same)

not_set : (p : Packet ℕ) (s : Said (Packet ℕ)) → T (not (is_set s)) → p ≡ packet_after_setting_lem p s
unfolding is_set packet_after_setting_lem
not_set p (done q) h = absurd h
not_set p (refused number at) h = refl

not_moved : (p : Packet ℕ) (s : Said (network.Hop ℕ)) → T (not (is_moved_lem s)) → p ≡ packet_after_hop_lem p s
unfolding is_moved_lem packet_after_hop_lem
not_moved p (done network.delivered) h = refl
not_moved p (done (network.moved q)) h = absurd h
not_moved p (done network.dropped) h = refl
not_moved p (refused number at) h = refl

pub set_kept : (t : Topology) (u : ℕ) (p z : Packet ℕ) (s : Said (Packet ℕ)) → leaving s z ≡ setting_packet t u p → T (not (is_set s)) → leaving s p ≡ setting_packet t u p
unfolding setting_packet
set_kept t u p z s e h = kept packet_after_setting_lem p z s (setting_at t u) (not_set p s h) e

pub hop_kept : (t : Topology) (table states : List ℕ) (p z : Packet ℕ) (s : Said (network.Hop ℕ)) → leaving s z ≡ hopping_packet t table states p → T (not (is_moved_lem s)) →
    leaving s p ≡ hopping_packet t table states p
unfolding hopping_packet
hop_kept t table states p z s e h = kept packet_after_hop_lem p z s (hopping t table states p) (not_moved p s h) e
