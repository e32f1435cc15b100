-- Arcs that differ in the numbers of their links at most: each router has as many, to the same places and at the same costs, both ways.
-- Assumes nothing.
use Prim.Native.Nat.{ℕ, ◌+◌, ◌*◌, ◌≤◌}
use mathlib.Core.List.Memᴰ
use mathlib.Core.List.{List, map, Memᴰ}
use mathlib.Core.Logic.{inl, inr, ⊎_elim}
use mathlib.Core.Path.{◌≡◌, sym, ◌∙◌, ap, subst}
use native.Mathlib.Omega.{arith}
use lib.ListN.{length, get_or, take, drop, length-map}
use Rattle.std.proofs.lemmas.List.{take-map, drop-map}
use Rattle.network.specs.Network.{Arc}
use Rattle.arcs.specs.declared.Arc as own
use Rattle.arcs.specs.declared.Arcs.{Arcs}
use Rattle.arcs.specs.Inner.{arcs_at, leaving, returning}
use Rattle.distances.specs.Inner.{Passable, Relaxed, unnumbered, Alike}

-- the arcs of each router
part : (n from : ℕ) (slots : List own.Arc) → map unnumbered (take n (drop from slots)) ≡ take n (drop from (map unnumbered slots))
part n from slots = sym (take-map unnumbered n (drop from slots)) ∙ ap (take n) (sym (drop-map unnumbered from slots))

pub arcs_alike : {a b : Arcs} → Alike a b → (u : ℕ) → map unnumbered (arcs_at a u) ≡ map unnumbered (arcs_at b u)
unfolding arcs_at
arcs_alike {a} {b} same u =
    part (get_or a.count u 0) (u * 16) a.slot
    ∙ ap (λ (count : List ℕ). take (get_or count u 0) (drop (u * 16) (map unnumbered a.slot))) same.counts
    ∙ ap (λ (slots : List own.Arc). take (get_or b.count u 0) (drop (u * 16) slots)) same.slots
    ∙ sym (part (get_or b.count u 0) (u * 16) b.slot)

-- seen so, an arc's number does not matter
abbrev pub Sees : (own.Arc → Arc) → Type 0
Sees seen = (x y : own.Arc) → unnumbered x ≡ unnumbered y → ((seen x).to ≡ (seen y).to) × ((seen x).cost ≡ (seen y).cost)

pub sees_out : Sees leaving
sees_out x y e = (ap (λ (z : own.Arc). z.to.0) e, ap (λ (z : own.Arc). z.cost) e)

pub sees_back : Sees returning
sees_back x y e = (ap (λ (z : own.Arc). z.to.0) e, ap (λ (z : own.Arc). z.back) e)

module _ (seen : own.Arc → Arc) (sees : Sees seen) (xs ys : List own.Arc) (e : map unnumbered xs ≡ map unnumbered ys) where
  -- for each arc there is one to the same place at the same cost
  pub partner : (b : Arc) → Memᴰ b (map seen xs) → (y : Arc) × Memᴰ y (map seen ys) × (y.to ≡ b.to) × (y.cost ≡ b.cost)
  partner b m =
      let (x, k, at) = Memᴰ.of_map seen xs m in
      let (y, l, same) = Memᴰ.of_map unnumbered ys (subst (Memᴰ (unnumbered x)) e (Memᴰ.map unnumbered k)) in
      let (to, cost) = sees y x same in
      (seen y, Memᴰ.map seen l, to ∙ ap (λ (z : Arc). z.to) at, cost ∙ ap (λ (z : Arc). z.cost) at)

  pub as_many : length (map seen xs) ≡ length (map seen ys)
  as_many =
      length-map xs seen ∙ sym (length-map xs unnumbered) ∙ ap length e ∙ length-map ys unnumbered ∙ sym (length-map ys seen)

pub passable_alike : (seen : own.Arc → Arc) → Sees seen → (xs ys : List own.Arc) {ds : List ℕ} → map unnumbered xs ≡ map unnumbered ys →
    Passable (map seen xs) ds → Passable (map seen ys) ds
passable_alike seen sees xs ys e p =
    record {
      few = omega (arith, as_many seen sees xs ys e, p.few);
      leads = λ b m. let (x, k, to, cost) = partner seen sees ys xs (sym e) b m in omega (arith, p.leads x k);
      cheap = λ b m. let (x, k, to, cost) = partner seen sees ys xs (sym e) b m in omega (arith, p.cheap x k);
      near = p.near;
    }

pub relaxed_alike : (xs ys : List own.Arc) {here : ℕ} {old new : List ℕ} → map unnumbered xs ≡ map unnumbered ys →
    Relaxed (map returning xs) here old new → Relaxed (map returning ys) here old new
relaxed_alike xs ys {here} {old} {new} e r =
    record {
      long = r.long;
      nearer = r.nearer;
      reached = λ b m.
          let (x, k, to, cost) = partner returning sees_back ys xs (sym e) b m in
          subst (λ (v : ℕ). get_or new v 0 ≤ b.cost + here) to (omega (arith, r.reached x k));
      by_way = λ v.
          ⊎_elim (λ same. inl same)
          (λ (b, m, at, way). let (y, k, to, cost) = partner returning sees_back xs ys e b m in inr (y, k, to ∙ at, omega arith)) (r.by_way v);
    }
