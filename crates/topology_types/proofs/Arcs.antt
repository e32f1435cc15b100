-- The arcs that a list of links gives to a place: one for each link that ends there. Those of a network's place are those that its links give it.
-- Assumes nothing.
use Prim.Native.Nat.{ℕ, suc, ◌+◌, ◌≤◌, ◌<◌}
use mathlib.Core.Bool.{Bool, true, false, cond}
use mathlib.Core.List.{List, [], ◌∷◌, ◌++◌, map, append-nil}
use mathlib.Core.Logic.{◌⊎◌, inl, inr}
use mathlib.Core.Path.{◌≡◌, refl}
use native.Mathlib.Omega.{arith}
use borrow.Author.Tests.{eq-eqb}
use lib.Dec.{eqb}
use lib.ListN.{length}
use lib.Seq.{append_snoc}
use Rattle.network.specs.Network.{Link, Arc, arcs_among, arcs_of, linked}
use Rattle.network.proofs.Below.{get_d_below}
use Rattle.topology_types.specs.Topology.{Contents, seen, network_in}

-- how many arcs of u a link is: one, if it ends there
unfoldable pub ending : ℕ → Link → ℕ
ending u l = cond (eqb l.first u) 1 (cond (eqb l.second u) 1 0)

arcs_end : (p q : Bool) (a b : Arc) (xs ys : List Arc) (k : ℕ) → length xs ≡ length ys + k →
    length (cond p (a ∷ xs) (cond q (b ∷ xs) xs)) ≡ length (cond p (a ∷ ys) (cond q (b ∷ ys) ys)) + k
arcs_end true q a b xs ys k h = omega arith
arcs_end false true a b xs ys k h = omega arith
arcs_end false false a b xs ys k h = h

-- a link more
pub arcs_more : (u number : ℕ) (ls : List Link) (l : Link) →
    length (arcs_among u number (ls ++ (l ∷ []))) ≡ length (arcs_among u number ls) + ending u l
unfolding arcs_among ending
arcs_more u number [] l = only (eqb l.first u) (eqb l.second u) _ _
  where
    only : (p q : Bool) (a b : Arc) → length (cond p (a ∷ []) (cond q (b ∷ []) [])) ≡ 0 + cond p 1 (cond q 1 0)
    only true q a b = refl
    only false true a b = refl
    only false false a b = refl
arcs_more u number (k ∷ ls) l = arcs_end (eqb k.first u) (eqb k.second u) _ _ _ _ (ending u l) (arcs_more u (suc number) ls l)

-- further links take none away
pub arcs_stay : (u : ℕ) (ls ks : List Link) → length (arcs_among u 0 ls) ≤ length (arcs_among u 0 (ls ++ ks))
arcs_stay u ls [] = rw append-nil (omega arith)
arcs_stay u ls (k ∷ ks) = rw (← append_snoc ls k ks) (omega (arith, arcs_stay u (ls ++ (k ∷ [])) ks, arcs_more u 0 ls k))

-- a link gives an arc to each of its ends
pub ends_at : (u : ℕ) (l : Link) → (l.first ≡ u) ⊎ (l.second ≡ u) → ending u l ≡ 1
unfolding ending
ends_at u l (inl e) = rw (eq-eqb l.first u e)
ends_at u l (inr e) = rw (eq-eqb l.second u e) (either (eqb l.first u))
  where
    either : (p : Bool) → ◌≡◌ {A = ℕ} (cond p 1 1) 1
    either true = refl
    either false = refl

-- the arcs of a place that is listed
pub arcs_listed : (c : Contents) (u : ℕ) → u < length c.ids → arcs_of (network_in c) u ≡ arcs_among u 0 (map seen c.links)
unfolding arcs_of network_in linked
arcs_listed c u h = get_d_below (λ v. arcs_among v 0 (map seen c.links)) (length c.ids) u [] h
