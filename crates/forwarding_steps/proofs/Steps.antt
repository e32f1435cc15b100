-- A hop by a table that was checked: what the private functions ask holds at every router of the topology, and the first place of the row whose link
-- is up, if there is one, is where network's hop goes. It is a router too, of a lower rank.
-- Assumes nothing.
use Rattle.std.proofs.Common.{◌≡◌, ℕ, ◌+◌, ◌≤◌, ◌<◌, List, get_or, map, subst, sym, ◌∙◌, add-one, arith}
use Rattle.std.specs.Prelude.{Option, Some, None}
use Rattle.std.specs.List.{All}
use Rattle.std.proofs.lemmas.List.Elements.{All-from_get_or}
use mathlib.Core.Option.{none}
use borrow.Author.Tests.{eq-eqb, ne_eqb}
use Rattle.network.specs.Network.{arcs_of}
use Rattle.network.specs.Forwarding.{Packet, delivered, moved, dropped, hop, hop_to}
use Rattle.network.specs.Routing.{first_live}
use Rattle.network.proofs.Live.{live_mem}
use mathlib.Core.List.{Memᴰ}
use Rattle.topology_types.specs.declared.Place.{Place}
use Rattle.topology_types.specs.declared.Topology.{Topology}
use Rattle.topology_types.specs.Topology.{network_of}
use Rattle.arcs.specs.declared.Arc.{Arc}
use Rattle.arcs.specs.declared.Arcs.{Arcs}
use Rattle.arcs.specs.Inner.{arcs_at, leaving}
use Rattle.arcs.proofs.Passed.{no_arc}
use Rattle.arcs.proofs.Passed as passed
use Rattle.distances.proofs.Slots.{Within, sound_within, at_fits, arcs_are}
use Rattle.table.specs.Listed.{destination_in_lem, places_in, falling_rank, entries_in, listed}
use Rattle.forwarding_rules.specs.Calls.{by}
use Rattle.forwarding_rules.proofs.Listed.{Over, over}
use Rattle.forwarding_steps.specs.Inner.{first_up, Checked}
use Rattle.forwarding_steps.proofs.Bounds.{entry_in}
use Rattle.forwarding_steps.proofs.Next.{place_of, first-up, none_chosen, some_chosen}

-- a hop that moves a packet from u, after so many hops, to v
pub record Goes (t : Topology) (table states : List ℕ) (u hops v : ℕ) : Type 0 where
  pub hop_is : hop (by t table) states (record { station = u; hops = hops }) ≡ moved (record { station = v; hops = hops + 1 })
  pub inside : v < t.routers
  pub lower : falling_rank t.routers table v < falling_rank t.routers table u

module _ {t : Topology} {a : Arcs} {table : List ℕ} (checked : Checked t a table) where
  within : Within (network_of t) t.routers
  within = sound_within t checked.on_sound

  pub accepted : Over t table
  accepted = over t checked.on_sound table checked.passes

  pub few_routers : t.routers ≤ 64
  few_routers = within.most

  -- at d a packet is delivered
  pub arrives : (states : List ℕ) (p : Packet ℕ) → p.station ≡ destination_in_lem table → hop (by t table) states p ≡ delivered
  unfolding hop hop_to listed
  arrives states p home = rw (eq-eqb p.station (destination_in_lem table) home)

  module _ (u : ℕ) (u_in : u < t.routers) where
    pub arcs_fit : (u < 64) × (get_or a.count u 0 ≤ 16)
    arcs_fit = at_fits within u u_in checked.holds.out

    module _ (arcs : List Arc) (are : arcs ≡ arcs_at a u) where
      held : map leaving arcs ≡ arcs_of (network_of t) u
      held = arcs_are within u u_in checked.holds.out arcs are

      -- each has a state
      pub stated : (states : ℕ) → states ≡ t.links → All (λ (arc : Arc). arc.link < states) arcs
      stated states long =
          All-from_get_or (λ (arc : Arc). arc.link < states) arcs no_arc
          (λ i h.
          let m = subst (Memᴰ (leaving (get_or arcs i no_arc))) held (passed.listed leaving arcs i h) in
          omega (arith, (within.formed.sound u (leaving (get_or arcs i no_arc)) m).numbered, accepted.links_are, long))

      -- off d, by what was found first in the row over a link that is up
      module _ (states : List ℕ) (hops : ℕ) (off : u ≡ destination_in_lem table → ⊥) (r : Option Place) (found : r ≡ first_up arcs states (places_in table u)) where
        chosen_place : place_of (first_live states (entries_in (network_of t) table u)) ≡ r
        chosen_place = sym (found ∙ first-up states (network_of t) u arcs held table)

        -- a packet is dropped if there is none
        pub stops : r ≡ None → hop (by t table) states (record { station = u; hops = hops }) ≡ dropped
        unfolding hop hop_to listed
        stops e =
            let none_live : first_live states (entries_in (network_of t) table u) ≡ none = none_chosen _ (chosen_place ∙ e) in
            rw (ne_eqb u (destination_in_lem table) off, none_live)

        -- and else goes there
        pub goes : (v : Place) → r ≡ Some v → Goes t table states u hops v.0
        unfolding hop hop_to listed
        goes v e =
            let (b, live, to) = some_chosen _ v (chosen_place ∙ e) in
            let m = live_mem states (entries_in (network_of t) table u) b live in
            record {
              hop_is = rw (ne_eqb u (destination_in_lem table) off, live, to, add-one);
              inside = rw (← to) (entry_in accepted u b m);
              lower = rw (← to) (accepted.falling.falls u b m);
            }
