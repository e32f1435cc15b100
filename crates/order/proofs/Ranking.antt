-- From an order's places to their ranks: the place at a rank stands at no rank before, so once its rank is stored the ranks of one more are right.
-- Assumes nothing.
use Prim.Native.Nat.{ℕ, suc, ◌+◌, ◌<◌}
use mathlib.Core.List.Memᴰ
use mathlib.Core.List.{List, [], ◌∷◌, ◌++◌, Memᴰ}
use mathlib.Core.Logic.{⊎_elim}
use mathlib.Core.Path.{◌≡◌, refl, sym, ap, subst, ◌∙◌}
use native.Mathlib.Numerals.{add-one}
use native.Mathlib.Omega.{arith}
use lib.ListN.{length, get_or, take, drop, set}
use lib.Seq.{split_at, take-suc, length-take-le}
use Rattle.network.specs.Lists.{Distinct}
use Rattle.network.specs.Row as row
use Rattle.network.proofs.Lists.{pairwise_split}
use Rattle.network.proofs.Rank.{rank_is_turn}
use Rattle.topology_types.specs.declared.Rank.{Rank}
use Rattle.order.specs.Inner.{Ranked}
use Rattle.distances.proofs.Stored.{stored}

abbrev zeroth : Rank
zeroth = record { 0 = 0 }

-- the place at rank r
module _ (order : List ℕ) (ranked : Ranked order) (r : ℕ) (h : r < length order) where
  whole : order ≡ take r order ++ (get_or order r 0 ∷ drop (suc r) order)
  whole = split_at order r 0 h

  held : Memᴰ (get_or order r 0) order
  held = subst (Memᴰ _) (sym whole) (Memᴰ.append_right (take r order) (Memᴰ.head refl))

  pub place : get_or order r 0 < 64
  place = ranked.places _ held

  fresh : Memᴰ (get_or order r 0) (take r order) → ⊥
  fresh m = pairwise_split (take r order) _ (drop (suc r) order) (subst Distinct whole ranked.once) _ m refl

  turn : r ≡ row.rank order (get_or order r 0)
  turn =
      let u = get_or order r 0 in
      let rank_is = ap (λ (l : List ℕ). row.rank l u) whole ∙ (rank_is_turn u).0 (take r order) (drop (suc r) order) fresh in
      sym (rank_is ∙ length-take-le r order (omega arith))

  pub ranks_more : (by : List Rank) → length by ≡ 64 → ((v : ℕ) → Memᴰ v (take r order) → (get_or by v zeroth).0 ≡ row.rank order v) →
      (v : ℕ) → Memᴰ v (take (r + 1) order) → (get_or (set by (get_or order r 0) (record { 0 = r })) v zeroth).0 ≡ row.rank order v
  ranks_more by long passed =
      let u = get_or order r 0 in
      rw (add-one, take-suc order r 0 h)
      (stored (λ v x. Memᴰ v (take r order ++ (u ∷ [])) → x.0 ≡ row.rank order v) by u _ zeroth (omega (arith, place))
      (λ _. turn)
      (λ v apart m. ⊎_elim (passed v) (λ last. absurd (apart (Memᴰ.eq_of_singleton last))) (Memᴰ.append_cases (take r order) m)))

  pub others_more : (by : List Rank) → length by ≡ 64 → ((v : ℕ) → v < 64 → (Memᴰ v order → ⊥) → (get_or by v zeroth).0 ≡ 255) →
      (v : ℕ) → v < 64 → (Memᴰ v order → ⊥) → (get_or (set by (get_or order r 0) (record { 0 = r })) v zeroth).0 ≡ 255
  others_more by long passed =
      stored (λ v x. v < 64 → (Memᴰ v order → ⊥) → x.0 ≡ 255) by (get_or order r 0) _ zeroth (omega (arith, place))
      (λ _ out. absurd (out held))
      (λ v apart. passed v)
