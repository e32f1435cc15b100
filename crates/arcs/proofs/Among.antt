-- The arcs of a router among links, a part of the links after the other: a link adds one arc for each of its ends, at the end.
-- Assumes nothing.
use Prim.Native.Nat.{ℕ, suc, ◌+◌}
use mathlib.Core.Bool.{Bool, true, false, cond}
use mathlib.Core.List.{List, [], ◌∷◌, ◌++◌, append-nil}
use mathlib.Core.Logic.{◌≢◌}
use mathlib.Core.Path.{◌≡◌, refl, ap, ◌∙◌}
use native.Mathlib.Nat.{zero-add}
use native.Mathlib.Omega.{arith}
use borrow.Author.Tests.{eq-eqb, ne_eqb}
use lib.Dec.{eqb}
use lib.ListN.{length}
use Rattle.network.specs.Network.{Arc, Link, arcs_among}

-- the link seen from its first end, and from its second
unfoldable pub there : Link → ℕ → Arc
there l number = record { to = l.second; cost = l.cost; link = number }

unfoldable pub back : Link → ℕ → Arc
back l number = record { to = l.first; cost = l.back; link = number }

part : (p q : Bool) (x y : Arc) (both one other : List Arc) → both ≡ one ++ other →
    cond p (x ∷ both) (cond q (y ∷ both) both) ≡ cond p (x ∷ one) (cond q (y ∷ one) one) ++ other
part true q x y both one other e = ap (λ (l : List Arc). x ∷ l) e
part false true x y both one other e = ap (λ (l : List Arc). y ∷ l) e
part false false x y both one other e = e

among_append : (u number : ℕ) (ls ms : List Link) → arcs_among u number (ls ++ ms) ≡ arcs_among u number ls ++ arcs_among u (number + length ls) ms
unfolding arcs_among
among_append u number [] ms = ap (λ (k : ℕ). arcs_among u k ms) (omega arith)
among_append u number (l ∷ ls) ms =
    part (eqb l.first u) (eqb l.second u) _ _ _ _ _
    (among_append u (suc number) ls ms ∙ ap (λ (k : ℕ). arcs_among u (suc number) ls ++ arcs_among u k ms) (omega arith))

module _ (ls : List Link) (l : Link) (number : ℕ) (long : length ls ≡ number) where
  one_more : (u : ℕ) → arcs_among u 0 (ls ++ (l ∷ [])) ≡ arcs_among u 0 ls ++ arcs_among u number (l ∷ [])
  one_more u = rw (zero-add, long) at (among_append u 0 ls (l ∷ []))

  pub among_first : arcs_among l.first 0 (ls ++ (l ∷ [])) ≡ arcs_among l.first 0 ls ++ (there l number ∷ [])
  unfolding arcs_among there
  among_first = one_more l.first ∙ rw (eq-eqb l.first l.first refl)

  pub among_second : l.first ≢ l.second → arcs_among l.second 0 (ls ++ (l ∷ [])) ≡ arcs_among l.second 0 ls ++ (back l number ∷ [])
  unfolding arcs_among back
  among_second apart = one_more l.second ∙ rw (ne_eqb l.first l.second apart, eq-eqb l.second l.second refl)

  pub among_neither : (u : ℕ) → l.first ≢ u → l.second ≢ u → arcs_among u 0 (ls ++ (l ∷ [])) ≡ arcs_among u 0 ls
  unfolding arcs_among
  among_neither u e f = one_more u ∙ rw (ne_eqb l.first u e, ne_eqb l.second u f, append-nil)
