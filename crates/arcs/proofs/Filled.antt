-- The arcs of the first links in their slots, and one link more: its two arcs go to the next slots of its ends, where there is room.
-- Assumes nothing.
use Prim.Native.Nat.{ℕ, ◌≤◌, ◌<◌}
use mathlib.Core.Bool.{Bool, true, false, cond}
use mathlib.Core.List.{List, [], ◌∷◌, ◌++◌, map, map-append}
use mathlib.Core.Logic.{◌≢◌}
use mathlib.Core.Path.{◌≡◌, refl, ap, sym, ◌∙◌}
use native.Mathlib.Decide.{ℕ_discrete}
use native.Mathlib.Omega.{arith}
use borrow.Author.Tests.{eq-eqb, ne_eqb}
use lib.Dec.{eqb}
use lib.ListN.{length, get_or, length-append}
use Rattle.network.specs.Network as network
use Rattle.network.specs.Network.{Link, arcs_among}
use Rattle.topology_types.proofs.Arcs.{arcs_stay}
use Rattle.arcs.specs.declared.Arc.{Arc}
use Rattle.arcs.specs.declared.Arcs.{Arcs}
use Rattle.arcs.specs.Inner.{arcs_at, with_arc}
use Rattle.arcs.proofs.Slots.{Slotted, still_slotted, count_there, count_elsewhere, arc_there, arcs_elsewhere}
use Rattle.arcs.proofs.Among.{there, back, among_first, among_second, among_neither}

-- each of so many routers has these arcs, seen in a way
pub record Filled (seen : Arc → network.Arc) (routers : ℕ) (held : ℕ → List network.Arc) (a : Arcs) : Type 0 where
  pub slots : Slotted a
  pub counts : (u : ℕ) → u < routers → get_or a.count u 0 ≡ length (held u)
  pub each : (u : ℕ) → u < routers → map seen (arcs_at a u) ≡ held u

-- no arcs yet
pub filled_none : (seen : Arc → network.Arc) (routers : ℕ) (a : Arcs) → Slotted a → ((u : ℕ) → u < routers → get_or a.count u 0 ≡ 0) → Filled seen routers (λ u. []) a
unfolding arcs_at
filled_none seen routers a s none = record { slots = s; counts = none; each = λ u h. rw (none u h) }

-- one arc more of u
module _ {seen : Arc → network.Arc} {routers : ℕ} {held : ℕ → List network.Arc} {a : Arcs} (f : Filled seen routers held a) (more : ℕ → List network.Arc)
    (limit : routers ≤ 64) (few : (v : ℕ) → v < routers → length (more v) ≤ 16)
    (u : ℕ) (place : u < routers) (arc : Arc) (there : more u ≡ held u ++ (seen arc ∷ [])) where
  pub room : get_or a.count u 0 < 16
  room = omega (arith, f.counts u place, simp length-append at (ap length there), few u place)

  pub one_arc : ((v : ℕ) → v < routers → v ≢ u → more v ≡ held v) → Filled seen routers more (with_arc a u arc)
  one_arc elsewhere =
      record {
        slots = still_slotted a u arc f.slots;
        counts = λ v h. count v h (ℕ_discrete v u);
        each = λ v h. arcs v h (ℕ_discrete v u);
      }
    where
      inside : u < 64
      inside = omega arith

      count : (v : ℕ) → v < routers → Dec (v ≡ u) → get_or (with_arc a u arc).count v 0 ≡ length (more v)
      count v h (yes e) =
          rw e (omega (arith, count_there a u arc f.slots inside room, f.counts u place, simp length-append at (ap length there)))
      count v h (no e) = count_elsewhere a u arc v e ∙ f.counts v h ∙ ap length (sym (elsewhere v h e))

      arcs : (v : ℕ) → v < routers → Dec (v ≡ u) → map seen (arcs_at (with_arc a u arc) v) ≡ more v
      arcs v h (yes e) =
          rw (e, arc_there a u arc f.slots inside room, map-append) (ap (λ (xs : List network.Arc). xs ++ (seen arc ∷ [])) (f.each u place) ∙ sym there)
      arcs v h (no e) =
          ap (map seen) (arcs_elsewhere a u arc f.slots inside room v e (omega (arith, f.counts v h, ap length (elsewhere v h e), few v h)))
          ∙ f.each v h ∙ sym (elsewhere v h e)

-- the link comes next after those, with that number: it joins two of the routers, none of which has too many arcs with it
pub record Next (routers : ℕ) (ls : List Link) (l : Link) (number : ℕ) : Type 0 where
  pub limit : routers ≤ 64
  pub long : length ls ≡ number
  pub first_in : l.first < routers
  pub second_in : l.second < routers
  pub apart : l.first ≢ l.second
  pub few : (u : ℕ) → u < routers → length (arcs_among u 0 (ls ++ (l ∷ []))) ≤ 16

-- the arcs of each router among the links, and those with a link more that only one router has taken yet
abbrev pub among : List Link → ℕ → List network.Arc
among ls u = arcs_among u 0 ls

unfoldable pub half_among : List Link → Link → ℕ → List network.Arc
half_among ls l u = cond (eqb u l.first) (arcs_among u 0 (ls ++ (l ∷ []))) (arcs_among u 0 ls)

-- the two arcs of a link in turn
module _ {seen : Arc → network.Arc} {routers : ℕ} {ls : List Link} {l : Link} {number : ℕ} {a : Arcs} (w : Next routers ls l number)
    (f : Filled seen routers (among ls) a) (first second : Arc) (first_is : seen first ≡ there l number) (second_is : seen second ≡ back l number) where
  half_few : (v : ℕ) → v < routers → length (half_among ls l v) ≤ 16
  unfolding half_among
  half_few v h = step (eqb v l.first)
    where
      step : (b : Bool) → length (cond b (arcs_among v 0 (ls ++ (l ∷ []))) (arcs_among v 0 ls)) ≤ 16
      step true = w.few v h
      step false = omega (arith, arcs_stay v ls (l ∷ []), w.few v h)

  half_there : half_among ls l l.first ≡ among ls l.first ++ (seen first ∷ [])
  unfolding half_among
  half_there = rw (eq-eqb l.first l.first refl, first_is) (among_first ls l number w.long)

  half_elsewhere : (v : ℕ) → v ≢ l.first → half_among ls l v ≡ among ls v
  unfolding half_among
  half_elsewhere v e = rw (ne_eqb v l.first e)

  pub room_first : get_or a.count l.first 0 < 16
  room_first = room f (half_among ls l) w.limit half_few l.first w.first_in first half_there

  half : Filled seen routers (half_among ls l) (with_arc a l.first first)
  half = one_arc f (half_among ls l) w.limit half_few l.first w.first_in first half_there (λ v _. half_elsewhere v)

  whole_there : among (ls ++ (l ∷ [])) l.second ≡ half_among ls l l.second ++ (seen second ∷ [])
  whole_there = rw (second_is, half_elsewhere l.second (λ e. w.apart (sym e))) (among_second ls l number w.long w.apart)

  pub room_second : get_or (with_arc a l.first first).count l.second 0 < 16
  room_second = room half (among (ls ++ (l ∷ []))) w.limit w.few l.second w.second_in second whole_there

  whole_elsewhere : (v : ℕ) → v ≢ l.second → among (ls ++ (l ∷ [])) v ≡ half_among ls l v
  unfolding half_among
  whole_elsewhere v e = step (ℕ_discrete v l.first)
    where
      step : Dec (v ≡ l.first) → among (ls ++ (l ∷ [])) v ≡ cond (eqb v l.first) (arcs_among v 0 (ls ++ (l ∷ []))) (arcs_among v 0 ls)
      step (yes d) = rw (eq-eqb v l.first d)
      step (no d) = rw (ne_eqb v l.first d) (among_neither ls l number w.long v (λ k. d (sym k)) (λ k. e (sym k)))

  pub one_link : Filled seen routers (among (ls ++ (l ∷ []))) (with_arc (with_arc a l.first first) l.second second)
  one_link = one_arc half (among (ls ++ (l ∷ []))) w.limit w.few l.second w.second_in second whole_there (λ v _. whole_elsewhere v)
