-- The first place of a row to which a link leads that is up is the place of the entry that network's rule chooses: a place leads to the arcs that lead
-- there, and one of these is up exactly if some link that leads there is.
-- Assumes nothing.
use Rattle.std.proofs.Common.{◌≡◌, ℕ, Bool, true, false, cond, List, [], ◌∷◌, ◌++◌, map, get_or, eqb, refl, sym, ap}
use Rattle.std.specs.Prelude.{Option, Some, None}
use mathlib.Core.Option as chosen
use borrow.Author.Tests.{eqb-true}
use Rattle.network.specs.Lists.{keep}
use Rattle.network.specs.Network as network
use Rattle.network.specs.Network.{Network, size, arcs_of}
use Rattle.network.specs.Routing.{up, first_live}
use Rattle.topology_types.specs.declared.Place.{Place}
use Rattle.arcs.specs.declared.Arc.{Arc}
use Rattle.arcs.specs.Inner.{leaving}
use Rattle.topology.specs.Written.{joined_over}
use Rattle.table.specs.Listed.{places_in, arcs_to, entries_in}
use Rattle.forwarding_steps.specs.Inner.{is_up, first_up}

-- the place of an entry that is chosen
unfoldable pub place_of : chosen.Option network.Arc → Option Place
place_of chosen.none = None
place_of (chosen.some b) = Some (record { 0 = b.to })

module _ (states : List ℕ) where
  -- the arcs that lead to v
  step : (v : ℕ) (arc : Arc) (arcs : List Arc) (rest : List network.Arc) (p q : Bool) → eqb arc.to.0 v ≡ p → eqb (get_or states arc.link 0) 1 ≡ q →
      place_of (first_live states (keep (λ b. eqb b.to v) (map leaving arcs) ++ rest))
      ≡ cond (is_up arcs states v) (Some (record { 0 = v })) (place_of (first_live states rest)) →
      place_of (first_live states (keep (λ b. eqb b.to v) (map leaving (arc ∷ arcs)) ++ rest))
      ≡ cond (is_up (arc ∷ arcs) states v) (Some (record { 0 = v })) (place_of (first_live states rest))
  unfolding first_live up place_of
  step v arc arcs rest true true e g on = rw (e, g) (ap (λ (v : ℕ). Some (record { 0 = v })) (eqb-true _ _ e))
  step v arc arcs rest true false e g on = rw (e, g) on
  step v arc arcs rest false q e g on = rw e on

  of_place : (v : ℕ) (arcs : List Arc) (rest : List network.Arc) →
      place_of (first_live states (keep (λ b. eqb b.to v) (map leaving arcs) ++ rest))
      ≡ cond (is_up arcs states v) (Some (record { 0 = v })) (place_of (first_live states rest))
  of_place v [] rest = refl
  of_place v (arc ∷ arcs) rest = step v arc arcs rest (eqb arc.to.0 v) (eqb (get_or states arc.link 0) 1) refl refl (of_place v arcs rest)

  module _ (n : Network) (u : ℕ) (arcs : List Arc) (held : map leaving arcs ≡ arcs_of n u) where
    of_places : (places : List ℕ) → first_up arcs states places ≡ place_of (first_live states (joined_over (arcs_to n u) places))
    unfolding joined_over arcs_to first_live place_of
    of_places [] = refl
    of_places (v ∷ vs) = rw (of_places vs, ← held) (sym (of_place v arcs (joined_over (arcs_to n u) vs)))

    -- the first place of the row of u is that of the entry which is chosen there
    pub first-up : (table : List ℕ) → first_up arcs states (places_in table u) ≡ place_of (first_live states (entries_in n table u))
    unfolding entries_in
    first-up table = of_places (places_in table u)

-- no place is that of no entry, and a place that of an entry which leads there
pub none_chosen : (entry : chosen.Option network.Arc) → place_of entry ≡ None → entry ≡ chosen.none
unfolding place_of
none_chosen chosen.none e = refl
none_chosen (chosen.some b) e = cc

pub some_chosen : (entry : chosen.Option network.Arc) (v : Place) → place_of entry ≡ Some v → (b : network.Arc) × (entry ≡ chosen.some b) × (b.to ≡ v.0)
unfolding place_of
some_chosen chosen.none v e = cc
some_chosen (chosen.some b) v e = (b, refl, cc)
