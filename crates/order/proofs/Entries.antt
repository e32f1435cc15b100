-- Where no rank of an order is wrong, each entry is a place and stands nowhere before, and the other way round; so too of the first wrong rank.
-- Assumes nothing.
use Prim.Native.Nat.{ℕ, ◌≤◌, ◌<◌}
use mathlib.Core.Bool.{Bool, true, false, not, ◌||◌}
use mathlib.Core.List.{List, [], ◌∷◌, Memᴰ}
use mathlib.Core.Logic.{◌⊎◌, inl, inr}
use mathlib.Core.Path.{◌≡◌, refl, sym, subst}
use native.Mathlib.Omega.{arith}
use borrow.Author.Tests.{lt-ltb, le-ltb, ltb-false}
use lib.Dec.{T, ltb, ltb→lt}
use lib.ListN.{length, get_or, take}
use Rattle.network.specs.Lists.{below, member}
use Rattle.network.proofs.Tests.{as_true, as_false}
use Rattle.network.proofs.Lists.{member_mem, mem_member}
use Rattle.topology_types.specs.Outcome.{first_or}
use Rattle.order.specs.Calls.{wrong_ranks}
use Rattle.order.proofs.Ranges.{keep_none, none_passes, keep_first, first_passes}

neither : (a b : Bool) → (not a || b) ≡ false → T a × (T b → ⊥)
neither true b e = (tt, subst T e)
neither false b e = absurd (subst T e tt)

one_of : (a b : Bool) → (not a || b) ≡ true → (a ≡ false) ⊎ T b
one_of true b e = inr (subst T (sym e) tt)
one_of false b e = inl refl

or_true : (a : Bool) → (a || true) ≡ true
or_true true = refl
or_true false = refl

module _ (count : ℕ) (order : List ℕ) where
  -- the entry at a rank is right, or wrong, as a fact and as a test
  abbrev pub Right : ℕ → Type 0
  Right r = (get_or order r 0 < count) × (Memᴰ (get_or order r 0) (take r order) → ⊥)

  abbrev pub Wrong : ℕ → Type 0
  Wrong r = (count ≤ get_or order r 0) ⊎ Memᴰ (get_or order r 0) (take r order)

  abbrev wrong? : ℕ → Bool
  wrong? r = not (ltb (get_or order r 0) count) || member (get_or order r 0) (take r order)

  is_right : (r : ℕ) → wrong? r ≡ false → Right r
  is_right r e =
      let u = get_or order r 0 in
      let (t, out) = neither (ltb u count) (member u (take r order)) e in
      (ltb→lt u count t, λ m. out (mem_member u (take r order) m))

  right_passes : (r : ℕ) → Right r → wrong? r ≡ false
  right_passes r (l, out) =
      let u = get_or order r 0 in
      rw (lt-ltb u count l, as_false (member u (take r order)) (λ t. out (member_mem u (take r order) t)))

  is-wrong : (r : ℕ) → wrong? r ≡ true → Wrong r
  is-wrong r e = step (one_of (ltb (get_or order r 0) count) (member (get_or order r 0) (take r order)) e)
    where
      step : (ltb (get_or order r 0) count ≡ false) ⊎ T (member (get_or order r 0) (take r order)) → Wrong r
      step (inl out) = inl (ltb-false _ _ out)
      step (inr t) = inr (member_mem _ _ t)

  wrong_fails : (r : ℕ) → Wrong r → wrong? r ≡ true
  wrong_fails r (inl h) = rw (le-ltb (get_or order r 0) count h)
  wrong_fails r (inr k) =
      rw (as_true (member (get_or order r 0) (take r order)) (mem_member _ _ k)) (or_true (not (ltb (get_or order r 0) count)))

  pub entry_right : wrong_ranks count order ≡ [] → (r : ℕ) → r < length order → Right r
  unfolding wrong_ranks below
  entry_right none r h = is_right r (none_passes _ 0 (length order) none r (omega arith) (omega arith))

  pub none_wrong : ((r : ℕ) → r < length order → Right r) → wrong_ranks count order ≡ []
  unfolding wrong_ranks below
  none_wrong right = keep_none _ 0 (length order) (λ r h k. right_passes r (right r (omega arith)))

  pub first-wrong : (r : ℕ) (rest : List ℕ) → wrong_ranks count order ≡ r ∷ rest → (r < length order) × Wrong r × ((k : ℕ) → k < r → Right k)
  unfolding wrong_ranks below
  first-wrong r rest e =
      let w = first_passes wrong? 0 (length order) r rest e in
      (omega (arith, w.within), is-wrong r w.passes, λ k h. is_right k (w.earlier k (omega arith) h))

  pub wrong_first : (other r : ℕ) → r < length order → Wrong r → ((k : ℕ) → k < r → Right k) → first_or other (wrong_ranks count order) ≡ r
  unfolding wrong_ranks below
  wrong_first other r h wrong earlier =
      keep_first wrong? other 0 (length order) r
      (record { least = omega arith; within = omega arith; passes = wrong_fails r wrong; earlier = λ k l m. right_passes k (earlier k m) })
