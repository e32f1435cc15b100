-- The entries that an accepted table lists lead in turn to the places of its rows.
-- Assumes nothing.
use Prim.Native.Nat.{ℕ, suc, ◌≤◌, ◌<◌}
use mathlib.Core.List.{List, [], ◌∷◌, ◌++◌, map, Memᴰ}
use mathlib.Core.Path.{◌≡◌, refl, sym, ap, ◌∙◌}
use native.Mathlib.Omega.{arith}
use lib.Dec.{T}
use lib.ListN.{length, get_or, drop, length-append, length-map, drop_of_length-le}
use lib.Seq.{drop-cons}
use Rattle.network.specs.Network.{Arc}
use Rattle.network.proofs.Lists.{split}
use Rattle.topology_types.specs.declared.Topology.{Topology}
use Rattle.topology_types.specs.Topology.{network_of}
use Rattle.topology_types.specs.Outcome.{answer}
use Rattle.topology_sound.specs.Sound.{sound}
use Rattle.topology_sound.proofs.Stores.{get_d_mapped}
use Rattle.order.proofs.Ranges.{get_d_mem}
use Rattle.table.specs.Listed.{places_in, entries_in}
use Rattle.table.specs.Calls.{table_checking}
use Rattle.forwarding_rules.specs.Theorems.{ListsPlace}
use Rattle.paths_rules.proofs.Listed.{o}

-- the place of the arc behind others
place_behind : (before : List Arc) (a : Arc) (behind : List Arc) → get_or (map (λ b. b.to) (before ++ (a ∷ behind))) (length before) 0 ≡ a.to
place_behind [] a behind = refl
place_behind (b ∷ before) a behind = place_behind before a behind

module _ (t : Topology) (good : T (sound t)) (table : List ℕ) (right : table_checking t table ≡ answer 0 0) (v : ℕ) where
  places : places_in table v ≡ map (λ a. a.to) (entries_in (network_of t) table v)
  places = (o t good table right).stands.places v

  -- an entry is listed at its turn
  pub lists : (before : List Arc) (a : Arc) (behind : List Arc) → entries_in (network_of t) table v ≡ before ++ (a ∷ behind) →
      ListsPlace table v (length before) a.to
  lists before a behind e =
      rw (places, e) (simp (length-map, length-append) (omega arith), place_behind before a behind)

  pub listed : (a : Arc) → Memᴰ a (entries_in (network_of t) table v) → (j : ℕ) × ListsPlace table v j a.to
  listed a m = let (before, behind, e) = split m in (length before, lists before a behind e)

  many : length (places_in table v) ≡ length (entries_in (network_of t) table v)
  many = ap length places ∙ length-map (entries_in (network_of t) table v) (λ (a : Arc). a.to)

  -- what is listed is the place of the entry at its turn, and past the row there is none
  pub record Turn (j w : ℕ) : Type 0 where
    pub arc : Arc
    pub to : arc.to ≡ w
    pub among : Memᴰ arc (entries_in (network_of t) table v)
    pub parts : drop j (entries_in (network_of t) table v) ≡ arc ∷ drop (suc j) (entries_in (network_of t) table v)

  pub turn : (j w : ℕ) → ListsPlace table v j w → Turn j w
  turn j w (h, e) =
      let arcs = entries_in (network_of t) table v in
      let z : Arc = record { to = 0; cost = 0; link = 0 } in
      let inside : j < length arcs = omega (arith, many) in
      record {
        arc = get_or arcs j z;
        to = sym (get_d_mapped (λ (a : Arc). a.to) arcs j 0 z inside) ∙ rw (← places) e;
        among = get_d_mem arcs j z inside;
        parts = drop-cons arcs j z inside;
      }

  pub none_past : (j : ℕ) → length (places_in table v) ≤ j → drop j (entries_in (network_of t) table v) ≡ []
  none_past j h = drop_of_length-le (entries_in (network_of t) table v) {i = j} (omega (arith, many))
