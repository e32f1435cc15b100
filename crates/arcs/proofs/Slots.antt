-- A store in the next slot of a router adds its arc at the end of that router's arcs, and leaves every other router's as they were: slots of
-- different routers never meet.
-- Assumes nothing.
use Prim.Native.Nat.{ℕ, zero, suc, ◌+◌, ◌-◌, ◌*◌, ◌≤◌, ◌<◌}
use mathlib.Core.List.{List, [], ◌∷◌, ◌++◌, map, Memᴰ}
use mathlib.Core.Logic.{◌≢◌}
use mathlib.Core.Path.{◌≡◌, refl, ap, ◌∙◌}
use native.Mathlib.Decide.{dec_lt}
use native.Mathlib.Nat.{add-zero}
use native.Mathlib.Numerals.{add-one}
use native.Mathlib.Omega.{arith}
use lib.ListN.{length, get_or, set, take, drop, length-set, length-drop}
use lib.Seq.{get_or-set_same, get_or-set_other, length-take-le}
use Rattle.std.proofs.lemmas.List.{take_more_set, take-set-le, drop-set-lt, drop-set-add}
use Rattle.network.specs.Lists.{below, numbers_from}
use Rattle.arcs.specs.declared.Arc.{Arc}
use Rattle.arcs.specs.declared.Arcs.{Arcs}
use Rattle.arcs.specs.Inner.{arcs_at, with_arc}

-- two functions that agree on a list make the same list of it
pub map_same : {A B : Type 0} (f g : A → B) (xs : List A) → ((x : A) → Memᴰ x xs → f x ≡ g x) → map f xs ≡ map g xs
map_same f g [] h = refl
map_same f g (x ∷ xs) h = λ k. h x (Memᴰ.head refl) k ∷ map_same f g xs (λ y m. h y (Memᴰ.tail m)) k

from_more : (s n : ℕ) → numbers_from s (suc n) ≡ numbers_from s n ++ ((s + n) ∷ [])
unfolding numbers_from
from_more s zero = rw add-zero
from_more s (suc n) = ap (λ (l : List ℕ). s ∷ l) (from_more (suc s) n ∙ ap (λ (k : ℕ). numbers_from (suc s) n ++ (k ∷ [])) (omega arith))

pub below_more : (n : ℕ) → below (n + 1) ≡ below n ++ (n ∷ [])
unfolding below
below_more n = rw add-one (from_more 0 n ∙ ap (λ (k : ℕ). numbers_from 0 n ++ (k ∷ [])) (omega arith))

-- each array has all its slots
pub record Slotted (a : Arcs) : Type 0 where
  pub counts : length a.count ≡ 64
  pub slots : length a.slot ≡ 1024

-- a router has as many arcs as its count says
pub length_arcs : (a : Arcs) → Slotted a → (u : ℕ) → u < 64 → get_or a.count u 0 ≤ 16 → length (arcs_at a u) ≡ get_or a.count u 0
unfolding arcs_at
length_arcs a s u inside few =
    length-take-le (get_or a.count u 0) (drop (u * 16) a.slot) (omega (arith, length-drop (u * 16) a.slot, s.slots))

-- a store before a part of a list, or past it, leaves the part
part_before : {A : Type 0} (n from : ℕ) (xs : List A) (at : ℕ) (x : A) → at < from → take n (drop from (set xs at x)) ≡ take n (drop from xs)
part_before n from xs at x h = ap (take n) (drop-set-lt from xs at x h)

part_past : {A : Type 0} (n from : ℕ) (xs : List A) (past : ℕ) (x : A) → n ≤ past → take n (drop from (set xs (from + past) x)) ≡ take n (drop from xs)
part_past n from xs past x h = rw (drop-set-add from xs past x) (take-set-le n (drop from xs) past x h)

module _ (a : Arcs) (u : ℕ) (arc : Arc) where
  pub still_slotted : Slotted a → Slotted (with_arc a u arc)
  unfolding with_arc
  still_slotted s = record { counts = simp length-set s.counts; slots = simp length-set s.slots }

  -- the count of another router stays
  pub count_elsewhere : (v : ℕ) → v ≢ u → get_or (with_arc a u arc).count v 0 ≡ get_or a.count v 0
  unfolding with_arc
  count_elsewhere v e = get_or-set_other a.count u v _ 0 e

  module _ (s : Slotted a) (inside : u < 64) (room : get_or a.count u 0 < 16) where
    pub count_there : get_or (with_arc a u arc).count u 0 ≡ get_or a.count u 0 + 1
    unfolding with_arc
    count_there = get_or-set_same a.count u _ 0 (omega (arith, s.counts))

    pub arc_there : arcs_at (with_arc a u arc) u ≡ arcs_at a u ++ (arc ∷ [])
    unfolding arcs_at with_arc
    arc_there =
        let h : get_or a.count u 0 < length (drop (u * 16) a.slot) = omega (arith, length-drop (u * 16) a.slot, s.slots) in
        let e = get_or-set_same a.count u (get_or a.count u 0 + 1) 0 (omega (arith, s.counts)) in
        rw (e, drop-set-add (u * 16) a.slot (get_or a.count u 0) arc) (take_more_set (drop (u * 16) a.slot) (get_or a.count u 0) arc h)

    pub arcs_elsewhere : (v : ℕ) → v ≢ u → get_or a.count v 0 ≤ 16 → arcs_at (with_arc a u arc) v ≡ arcs_at a v
    unfolding arcs_at with_arc
    arcs_elsewhere v e few = rw (get_or-set_other a.count u v (get_or a.count u 0 + 1) 0 e) (step (dec_lt u v))
      where
        step : Dec (u < v) → take (get_or a.count v 0) (drop (v * 16) (set a.slot (u * 16 + get_or a.count u 0) arc)) ≡ take (get_or a.count v 0) (drop (v * 16) a.slot)
        step (yes h) = part_before (get_or a.count v 0) (v * 16) a.slot (u * 16 + get_or a.count u 0) arc (omega arith)
        step (no h) =
            let past : v * 16 + (u * 16 + get_or a.count u 0 - v * 16) ≡ u * 16 + get_or a.count u 0 = omega arith in
            rw (← past) (part_past (get_or a.count v 0) (v * 16) a.slot (u * 16 + get_or a.count u 0 - v * 16) arc (omega arith))
