-- A loop over arcs that are handed out: each is one of them, and the arcs passed with it are one more.
-- Assumes nothing.
use Prim.Native.Nat.{ℕ, zero, suc, ◌+◌, ◌<◌}
use mathlib.Core.List.{List, [], ◌∷◌, ◌++◌, map, map-append, Memᴰ}
use mathlib.Core.Path.{◌≡◌, refl, ap, sym, ◌∙◌}
use native.Mathlib.Omega.{arith}
use lib.ListN.{length, get_or, take, drop, take-append-drop}
use Rattle.std.proofs.lemmas.List.{take_more}
use Rattle.network.specs.Network as network
use Rattle.arcs.specs.declared.Arc.{Arc}

-- what stands past the end of a list of arcs
abbrev pub no_arc : Arc
no_arc = record { to = record { 0 = 0 }; link = 0; cost = 0; back = 0 }

pub listed : (seen : Arc → network.Arc) (arcs : List Arc) (i : ℕ) → i < length arcs → Memᴰ (seen (get_or arcs i no_arc)) (map seen arcs)
listed seen [] i h = absurd (omega arith)
listed seen (arc ∷ arcs) zero h = Memᴰ.head refl
listed seen (arc ∷ arcs) (suc i) h = Memᴰ.tail (listed seen arcs i (omega arith))

pub one_more : (seen : Arc → network.Arc) (arcs : List Arc) (i : ℕ) → i < length arcs →
    map seen (take (i + 1) arcs) ≡ map seen (take i arcs) ++ (seen (get_or arcs i no_arc) ∷ [])
one_more seen arcs i h = rw (take_more arcs i no_arc h, map-append)

-- all arcs are those passed with it, and the rest
pub split : (seen : Arc → network.Arc) (arcs : List Arc) (i : ℕ) → i < length arcs →
    map seen arcs ≡ (map seen (take i arcs) ++ (seen (get_or arcs i no_arc) ∷ [])) ++ map seen (drop (i + 1) arcs)
split seen arcs i h =
    ap (map seen) (sym (take-append-drop (i + 1) arcs)) ∙ map-append seen (take (i + 1) arcs) (drop (i + 1) arcs)
    ∙ ap (λ (xs : List network.Arc). xs ++ map seen (drop (i + 1) arcs)) (one_more seen arcs i h)
