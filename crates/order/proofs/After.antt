-- The ranks after the reached ones: where none of them is ranked each of their entries is 255, so that the bytes are those of the reached ranks and then
-- 255; so too of the first one that is ranked.
-- Assumes nothing.
use Prim.Native.Nat.{ℕ, suc, ◌+◌, ◌-◌, ◌≤◌, ◌<◌}
use mathlib.Core.Bool.{Bool, true, false, cond, not}
use mathlib.Core.List.{List, [], ◌∷◌, ◌++◌}
use mathlib.Core.Logic.{◌≢◌}
use mathlib.Core.Path.{◌≡◌, refl, sym, ◌∙◌, ap}
use native.Mathlib.Omega.{arith}
use borrow.Author.Tests.{not-true, not-false, eq-eqb, ne_eqb, eqb-true, eqb-false, ltb-false}
use lib.Dec.{eqb, ltb}
use lib.ListN.{length, get_or, drop, replicate, length-drop, length-replicate, get_or-replicate}
use lib.Seq.{ext_get_or, get_or-drop, get_or-append-add}
use Rattle.std.specs.Prelude.{Some, None}
use Rattle.std.specs.List.{position, position_or_len}
use Rattle.std.proofs.lemmas.List.Quantifiers.{position-Some}
use Rattle.std.proofs.lemmas.List.Sums.{fails_before_first}
use Rattle.topology_types.specs.Outcome.{first_or}
use Rattle.order.specs.Calls.{first_of, ranks_after}
use Rattle.order.proofs.First.{first_is}
use Rattle.order.proofs.Ranges.{keep_none, none_passes, keep_first, first_passes}

module _ (bytes : List ℕ) (reach : ℕ) where
  abbrev ranked? : ℕ → Bool
  ranked? r = not (eqb (get_or bytes r 0) 255)

  pub none_ranked : ranks_after reach bytes ≡ [] → (r : ℕ) → reach ≤ r → r < length bytes → get_or bytes r 0 ≡ 255
  unfolding ranks_after
  none_ranked none r h k = eqb-true _ _ (not-false _ (none_passes ranked? reach (length bytes - reach) none r h (omega arith)))

  pub all_none : ((r : ℕ) → reach ≤ r → r < length bytes → get_or bytes r 0 ≡ 255) → ranks_after reach bytes ≡ []
  unfolding ranks_after
  all_none same = keep_none ranked? reach (length bytes - reach) (λ r h k. rw (eq-eqb (get_or bytes r 0) 255 (same r h (omega arith))))

  pub first_ranked : (r : ℕ) (rest : List ℕ) → ranks_after reach bytes ≡ r ∷ rest →
      (reach ≤ r) × (r < length bytes) × (get_or bytes r 0 ≢ 255) × ((k : ℕ) → reach ≤ k → k < r → get_or bytes k 0 ≡ 255)
  unfolding ranks_after
  first_ranked r rest e =
      let w = first_passes ranked? reach (length bytes - reach) r rest e in (
        w.least,
        omega (arith, w.within, w.least),
        eqb-false _ _ (not-true _ w.passes),
        λ k h l. eqb-true _ _ (not-false _ (w.earlier k h l)),
      )

  pub ranked_first : (other r : ℕ) → reach ≤ r → r < length bytes → get_or bytes r 0 ≢ 255 → ((k : ℕ) → reach ≤ k → k < r → get_or bytes k 0 ≡ 255) →
      first_or other (ranks_after reach bytes) ≡ r
  unfolding ranks_after
  ranked_first other r least within out earlier =
      keep_first ranked? other reach (length bytes - reach) r
      (record {
        least = least;
        within = omega arith;
        passes = rw (ne_eqb (get_or bytes r 0) 255 out);
        earlier = λ k h l. rw (eq-eqb (get_or bytes k 0) 255 (earlier k h l));
      })

  pub rest_same : (count : ℕ) → length bytes ≡ count → ((r : ℕ) → reach ≤ r → r < length bytes → get_or bytes r 0 ≡ 255) →
      drop reach bytes ≡ replicate (count - reach) 255
  rest_same count long same =
      ext_get_or 0 (drop reach bytes) (replicate (count - reach) 255)
      (length-drop reach bytes ∙ rw long (sym (length-replicate {A = ℕ} (count - reach) 255)))
      (λ i h.
      let within : i < length bytes - reach = rw length-drop at h in
      get_or-drop reach bytes i 0 ∙ same (reach + i) (omega arith) (omega arith) ∙ sym (get_or-replicate {A = ℕ} (count - reach) i 255 0 (omega arith)))

-- an entry past those of an order, up to N
pub past_part : (order : List ℕ) (count r : ℕ) → length order ≤ r → r < count → get_or (order ++ replicate (count - length order) 255) r 0 ≡ 255
past_part order count r h k =
    let split : r ≡ length order + (r - length order) = omega arith in
    ap (λ (i : ℕ). get_or (order ++ replicate (count - length order) 255) i 0) split
    ∙ get_or-append-add order (replicate (count - length order) 255) (r - length order) 0
    ∙ get_or-replicate {A = ℕ} (count - length order) (r - length order) 255 0 (omega arith)

-- the first byte that is anything but 255, of those from `reach` on
module _ (bytes : List ℕ) (reach : ℕ) (h : reach ≤ length bytes) where
  at_drop : (k : ℕ) → get_or (drop reach bytes) k 0 ≡ get_or bytes (reach + k) 0
  at_drop k = get_or-drop reach bytes k 0

  pub found_after : (i : ℕ) → position (λ u. not (eqb u 255)) (drop reach bytes) ≡ Some i → first_of (ranks_after reach bytes) ≡ Some (reach + i)
  found_after i e =
      let (within, passes, earlier) = position-Some (λ u. not (eqb u 255)) (drop reach bytes) i 0 e in
      first_is _ (reach + i)
      (ranked_first bytes reach (suc (reach + i)) (reach + i) (omega arith) (omega (arith, length-drop reach bytes))
      (rw at_drop at (eqb-false _ _ (not-true _ passes)))
      (λ k a b.
      let there : reach + (k - reach) ≡ k = omega arith in
      rw (at_drop (k - reach), there) at (eqb-true _ _ (not-false _ (earlier (k - reach) (omega arith))))))

  pub none_after : position (λ u. not (eqb u 255)) (drop reach bytes) ≡ None → ranks_after reach bytes ≡ []
  none_after e =
      all_none bytes reach
      (λ k a b.
      let there : reach + (k - reach) ≡ k = omega arith in
      rw (at_drop (k - reach), there) at
      (eqb-true _ _ (not-false _ (fails_before_first (λ u. not (eqb u 255)) (drop reach bytes) (k - reach) 0 (omega (arith, length-drop reach bytes, past e))))))
    where
      past : position (λ u. not (eqb u 255)) (drop reach bytes) ≡ None → length (drop reach bytes) ≤ position_or_len (λ u. not (eqb u 255)) (drop reach bytes)
      past e = step (ltb (position_or_len (λ u. not (eqb u 255)) (drop reach bytes)) (length (drop reach bytes))) refl e
        where
          step : (b : Bool) → ltb (position_or_len (λ u. not (eqb u 255)) (drop reach bytes)) (length (drop reach bytes)) ≡ b →
              cond b (Some (position_or_len (λ u. not (eqb u 255)) (drop reach bytes))) None ≡ None →
              length (drop reach bytes) ≤ position_or_len (λ u. not (eqb u 255)) (drop reach bytes)
          step true same e' = absurd cc
          step false same e' = ltb-false _ _ same
