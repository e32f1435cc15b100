-- Among the arcs of a router each comes from a link of its own, numbered by the link's turn, and each link gives one arc to either of its ends.
-- Assumes nothing.
use Prim.Native.Nat.{ℕ, suc, ◌+◌}
use mathlib.Core.Bool.{Bool, true, false, cond}
use mathlib.Core.List.Memᴰ
use mathlib.Core.List.{List, [], ◌∷◌, ◌++◌, Memᴰ}
use mathlib.Core.List.{nil≢cons, head-eq_of_cons-eq, tail-eq_of_cons-eq}
use mathlib.Core.Logic.{◌≢◌, ◌⊎◌, inl, inr, ⊎_elim}
use mathlib.Core.Path.{◌≡◌, refl, sym, ◌∙◌, ap, subst}
use native.Mathlib.Omega.{arith}
use borrow.Author.Tests.{eqb-true, eqb-false}
use lib.Dec.{eqb}
use lib.ListN.{length}
use Rattle.network.specs.Lists.{Pairwise, nothing, then}
use Rattle.network.specs.Network.{Arc, Link, arcs_among}
use Rattle.network.specs.Theorems.Network.{SamePair}

-- the arc a of u is the link l, seen from one of its ends
abbrev pub Seen : ℕ → Link → Arc → Type 0
Seen u l a =
    ((l.first ≡ u) × (a.to ≡ l.second) × (a.cost ≡ l.cost)) ⊎ ((l.second ≡ u) × (a.to ≡ l.first) × (a.cost ≡ l.back))

-- the link numbered `number` gives u no arc, as none of its ends is u, or the first of its arcs
Step : ℕ → ℕ → Link → List Arc → List Arc → Type 0
Step u number l rest entries =
    ((entries ≡ rest) × (l.first ≢ u) × (l.second ≢ u)) ⊎ ((a : Arc) × (entries ≡ a ∷ rest) × Seen u l a × (a.link ≡ number))

step_of : (u number : ℕ) (l : Link) (ls : List Link) → Step u number l (arcs_among u (suc number) ls) (arcs_among u number (l ∷ ls))
unfolding Step arcs_among
step_of u number l ls = go (eqb l.first u) refl (eqb l.second u) refl
  where
    rest : List Arc
    rest = arcs_among u (suc number) ls

    go : (b : Bool) → eqb l.first u ≡ b → (c : Bool) → eqb l.second u ≡ c →
        Step u number l rest
        (cond b (record { to = l.second; cost = l.cost; link = number } ∷ rest)
        (cond c (record { to = l.first; cost = l.back; link = number } ∷ rest) rest))
    go true e c f = inr (_, refl, inl (eqb-true _ _ e, refl, refl), refl)
    go false e true f = inr (_, refl, inr (eqb-true _ _ f, refl, refl), refl)
    go false e false f = inl (refl, eqb-false _ _ e, eqb-false _ _ f)

-- the arc comes from a link of the list, whose turn, counted from `number`, is its number
pub record From (u number : ℕ) (ls : List Link) (a : Arc) : Type 0 where
  pub before : List Link
  pub link : Link
  pub after : List Link
  pub stands : ls ≡ before ++ (link ∷ after)
  pub seen : Seen u link a
  pub turn : a.link ≡ number + length before

pub link-in : {u number : ℕ} {ls : List Link} {a : Arc} (w : From u number ls a) → Memᴰ w.link ls
link-in w = subst (Memᴰ w.link) (sym w.stands) (Memᴰ.append_right w.before (Memᴰ.head refl))

from_head : {u number : ℕ} {l : Link} (ls : List Link) {a : Arc} → Seen u l a → a.link ≡ number → From u number (l ∷ ls) a
from_head {number} {l} ls seen turn = record { before = []; link = l; after = ls; stands = refl; seen = seen; turn = omega arith }

from_tail : {u number : ℕ} (l : Link) {ls : List Link} {a : Arc} → From u (suc number) ls a → From u number (l ∷ ls) a
from_tail l w =
    record {
      before = l ∷ w.before;
      link = w.link;
      after = w.after;
      stands = ap (λ (k : List Link). l ∷ k) w.stands;
      seen = w.seen;
      turn = omega (arith, w.turn);
    }

pub arc_from : (u number : ℕ) (ls : List Link) (a : Arc) → Memᴰ a (arcs_among u number ls) → From u number ls a
unfolding Step arcs_among
arc_from u number [] a m = absurd (Memᴰ.not-nil m)
arc_from u number (l ∷ ls) a m = go (step_of u number l ls) m (arc_from u (suc number) ls a)
  where
    go : {entries : List Arc} → Step u number l (arcs_among u (suc number) ls) entries → Memᴰ a entries →
        (Memᴰ a (arcs_among u (suc number) ls) → From u (suc number) ls a) → From u number (l ∷ ls) a
    go (inl (e, f, g)) m' rest = from_tail l (rest (subst (Memᴰ a) e m'))
    go (inr (b, e, seen, turn)) m' rest =
        ⊎_elim (λ (same : a ≡ b). from_head ls (subst (Seen u l) (sym same) seen) (ap (λ (c : Arc). c.link) same ∙ turn)) (λ k. from_tail l (rest k))
        (Memᴰ.cases_cons (subst (Memᴰ a) e m'))

-- a link whose ends differ is seen from one of them in one way
one_way : {u : ℕ} {l : Link} {a b : Arc} → l.first ≢ l.second → Seen u l a → Seen u l b → a.link ≡ b.link → a ≡ b
one_way {u} {l} {a} {b} apart s t e = let (to, cost) = same s t in λ i. record { to = to i; cost = cost i; link = e i }
  where
    same : Seen u l a → Seen u l b → (a.to ≡ b.to) × (a.cost ≡ b.cost)
    same (inl f) (inl g) = (omega arith, omega arith)
    same (inl f) (inr g) = absurd (apart (omega arith))
    same (inr f) (inl g) = absurd (apart (omega arith))
    same (inr f) (inr g) = (omega arith, omega arith)

pub from_arc : (u number : ℕ) (ls : List Link) → ((l : Link) → Memᴰ l ls → l.first ≢ l.second) → (before : List Link) (k : Link) (after : List Link)
    (a : Arc) → ls ≡ before ++ (k ∷ after) → Seen u k a → a.link ≡ number + length before → Memᴰ a (arcs_among u number ls)
unfolding Step
from_arc u number [] apart [] k after a e seen turn = absurd (nil≢cons e)
from_arc u number [] apart (w ∷ before) k after a e seen turn = absurd (nil≢cons e)
from_arc u number (l ∷ ls) apart [] k after a e seen turn = go (step_of u number l ls) (subst (λ (j : Link). Seen u j a) (sym (head-eq_of_cons-eq e)) seen)
  where
    go : {entries : List Arc} → Step u number l (arcs_among u (suc number) ls) entries → Seen u l a → Memᴰ a entries
    go (inl (same, f, s)) here = ⊎_elim (λ g. absurd (f g.0)) (λ g. absurd (s g.0)) here
    go (inr (b, same, there, at)) here =
        subst (Memᴰ a) (sym same) (Memᴰ.head (one_way (apart l (Memᴰ.head refl)) here there (omega arith)))
from_arc u number (l ∷ ls) apart (w ∷ before) k after a e seen turn =
    go (step_of u number l ls)
    (from_arc u (suc number) ls (λ j m. apart j (Memᴰ.tail m)) before k after a (tail-eq_of_cons-eq e) seen (omega arith))
  where
    go : {entries : List Arc} → Step u number l (arcs_among u (suc number) ls) entries → Memᴰ a (arcs_among u (suc number) ls) → Memᴰ a entries
    go (inl (same, f, g)) m = subst (Memᴰ a) (sym same) m
    go (inr (b, same, there, at)) m = subst (Memᴰ a) (sym same) (Memᴰ.tail m)

-- A relation holds of each two arcs of u if it holds of the arc of a link and any arc of the links after it, none of which joins the same pair.
pub arcs_pairwise : (u : ℕ) (R : Arc → Arc → Type 0) →
    ((number : ℕ) (l : Link) (ls : List Link) (a b : Arc) → ((k : Link) → Memᴰ k ls → SamePair l k → ⊥) → Seen u l a → a.link ≡ number →
    From u (suc number) ls b → R a b) → (number : ℕ) {ls : List Link} → Pairwise (λ l k. SamePair l k → ⊥) ls → Pairwise R (arcs_among u number ls)
unfolding Step
arcs_pairwise u R h number nothing = unfold arcs_among in nothing
arcs_pairwise u R h number (then {x = l} {xs = ls} apart p) = go (step_of u number l ls) (arcs_pairwise u R h (suc number) p)
  where
    go : {entries : List Arc} → Step u number l (arcs_among u (suc number) ls) entries → Pairwise R (arcs_among u (suc number) ls) → Pairwise R entries
    go (inl (e, f, g)) q = subst (Pairwise R) (sym e) q
    go (inr (a, e, seen, turn)) q =
        subst (Pairwise R) (sym e) (then (λ b m. h number l ls a b apart seen turn (arc_from u (suc number) ls b m)) q)

-- two links that one router sees as arcs to one place join the same pair
pub same-pair : {u : ℕ} {l k : Link} (a b : Arc) → Seen u l a → Seen u k b → a.to ≡ b.to → SamePair l k
same-pair a b (inl f) (inl g) e = inl (omega arith)
same-pair a b (inl f) (inr g) e = inr (omega arith)
same-pair a b (inr f) (inl g) e = inr (omega arith)
same-pair a b (inr f) (inr g) e = inl (omega arith)
