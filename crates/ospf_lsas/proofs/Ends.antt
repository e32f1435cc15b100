-- Every LSA begins before the end of the file, so that what points at the end points at none.
-- Assumes nothing.
use Prim.Native.Nat.{ℕ, ◌+◌, ◌≤◌, ◌<◌}
use mathlib.Core.Bool.{Bool, true, false, cond}
use mathlib.Core.List.Memᴰ
use mathlib.Core.List.{List, [], ◌∷◌, Memᴰ}
use mathlib.Core.Logic.{◌⊎◌, ⊎_elim}
use Rattle.std.proofs.Common.{Some, None}
use Rattle.std.specs.Option.{option_map}
use Rattle.std.specs.List.{find}
use mathlib.Core.Path.{◌≡◌, refl, ap}
use native.Mathlib.Omega.{arith}
use lib.ListN.{length, length-drop}
use Rattle.ospf_lsas.specs.Lsa.{malformed, wrong_sum, Lsa, lsas, first_at, first_malformed_lem, first_wrong_sum_lem}
use Rattle.stream_rules.specs.Theorems.{two_at}
use Rattle.ospf_lsas.specs.Theorems.{Consecutive, end, faulty, next, PointsWithin}
use Rattle.ospf_lsas.proofs.Malformed.{well_formed}
use Rattle.ospf_lsas.proofs.InTurn.{lsas_consecutive}

begins : {at : ℕ} {s : List ℕ} {ls : List Lsa} → Consecutive at s ls → (l : Lsa) → Memᴰ l ls → l.at < at + length s
begins end l m = absurd (Memᴰ.not-nil m)
begins (faulty s some e) l m = omega (arith, ap (λ (l : Lsa). l.at) (Memᴰ.eq_of_singleton m))
begins (next s e rest) l m =
    let (ls, r) = (well_formed s).0 e in
    ⊎_elim (λ is. omega (arith, ap (λ (l : Lsa). l.at) is, r.begun, r.whole))
    (λ m. omega (arith, begins rest l m, r.whole, length-drop (two_at s 18) s)) (Memᴰ.cases_cons m)

module _ (test : List ℕ → Bool) (size : ℕ) where
  none_has : (ls : List Lsa) → ((l : Lsa) → Memᴰ l ls → test l.bytes ≡ false) → first_at test size ls ≡ size
  unfolding first_at
  none_has [] h = refl
  none_has (l ∷ ls) h = rw (h l (Memᴰ.head refl)) (none_has ls (λ k m. h k (Memᴰ.tail m)))

  has_none : (ls : List Lsa) → ((l : Lsa) → Memᴰ l ls → l.at < size) → first_at test size ls ≡ size →
      (l : Lsa) → Memᴰ l ls → test l.bytes ≡ false
  unfolding first_at
  has_none [] h e k m = absurd (Memᴰ.not-nil m)
  has_none (l ∷ ls) h e k m =
      go (test l.bytes) refl e (λ z. has_none ls (λ k m. h k (Memᴰ.tail m)) z) (Memᴰ.cases_cons m)
    where
      go : (b : Bool) → test l.bytes ≡ b → cond b l.at (first_at test size ls) ≡ size →
          (first_at test size ls ≡ size → (k : Lsa) → Memᴰ k ls → test k.bytes ≡ false) → (k ≡ l) ⊎ Memᴰ k ls →
          test k.bytes ≡ false
      go true t e others c = absurd (omega (arith, h l (Memᴰ.head refl)))
      go false t e others c = ⊎_elim (λ is. rw is t) (others e k) c

  within : (ls : List Lsa) → ((l : Lsa) → Memᴰ l ls → l.at < size) → first_at test size ls ≤ size
  unfolding first_at
  within [] h = omega arith
  within (l ∷ ls) h = go (test l.bytes) (within ls (λ k m. h k (Memᴰ.tail m)))
    where
      go : (b : Bool) → first_at test size ls ≤ size → cond b l.at (first_at test size ls) ≤ size
      go true w = omega (arith, h l (Memᴰ.head refl))
      go false w = w

  -- where a search for the first that has the fault ends
  first_found : (ls : List Lsa) → ((l : Lsa) → Memᴰ l ls → l.at < size) → (at : ℕ) →
      Some at ≡ option_map (λ (l : Lsa). l.at) (find (λ (l : Lsa). test l.bytes) ls) → (first_at test size ls ≡ at) × (at < size)
  unfolding first_at
  first_found [] h at e = cc
  first_found (l ∷ ls) h at e = go (test l.bytes) (first_found ls (λ k m. h k (Memᴰ.tail m)) at) e
    where
      go : (b : Bool) →
          (Some at ≡ option_map (λ (l : Lsa). l.at) (find (λ (l : Lsa). test l.bytes) ls) → (first_at test size ls ≡ at) × (at < size)) →
          Some at ≡ option_map (λ (l : Lsa). l.at) (cond b (Some l) (find (λ (l : Lsa). test l.bytes) ls)) →
          (cond b l.at (first_at test size ls) ≡ at) × (at < size)
      go true rest e = let is : l.at ≡ at = cc in (is, omega (arith, is, h l (Memᴰ.head refl)))
      go false rest e = rest e

  nowhere : (ls : List Lsa) → None ≡ option_map (λ (l : Lsa). l.at) (find (λ (l : Lsa). test l.bytes) ls) → first_at test size ls ≡ size
  unfolding first_at
  nowhere [] e = refl
  nowhere (l ∷ ls) e = go (test l.bytes) (nowhere ls) e
    where
      go : (b : Bool) → (None ≡ option_map (λ (l : Lsa). l.at) (find (λ (l : Lsa). test l.bytes) ls) → first_at test size ls ≡ size) →
          None ≡ option_map (λ (l : Lsa). l.at) (cond b (Some l) (find (λ (l : Lsa). test l.bytes) ls)) → cond b l.at (first_at test size ls) ≡ size
      go true rest e = cc
      go false rest e = rest e

below_size : (file : List ℕ) (l : Lsa) → Memᴰ l (lsas file) → l.at < length file
below_size file l m = omega (arith, begins (lsas_consecutive file) l m)

pub wrong_at : (file : List ℕ) (at : ℕ) → Some at ≡ option_map (λ (l : Lsa). l.at) (find (λ (l : Lsa). wrong_sum l.bytes) (lsas file)) →
    (first_wrong_sum_lem file ≡ at) × (at < length file)
unfolding first_wrong_sum_lem
wrong_at file = first_found wrong_sum (length file) (lsas file) (below_size file)

pub wrong_nowhere : (file : List ℕ) → None ≡ option_map (λ (l : Lsa). l.at) (find (λ (l : Lsa). wrong_sum l.bytes) (lsas file)) →
    first_wrong_sum_lem file ≡ length file
unfolding first_wrong_sum_lem
wrong_nowhere file = nowhere wrong_sum (length file) (lsas file)

pub points_within : PointsWithin
unfolding first_malformed_lem first_wrong_sum_lem
points_within file =
    let size = length file in
    let below = below_size file in
    record {
      none_malformed = (has_none malformed size (lsas file) below, none_has malformed size (lsas file));
      no_wrong_sum = (has_none wrong_sum size (lsas file) below, none_has wrong_sum size (lsas file));
      within_26 = within malformed size (lsas file) below;
      within_27 = within wrong_sum size (lsas file) below;
    }
