-- The elements of a list by place, and the numbers of a run that pass a test: none of them, or the first.
-- Assumes nothing.
use Prim.Native.Nat.{ℕ, zero, suc, ◌+◌, ◌≤◌, ◌<◌}
use mathlib.Core.Bool.{Bool, true, false, cond}
use mathlib.Core.List.{List, [], ◌∷◌, Memᴰ}
use mathlib.Core.List.{nil≢cons, head-eq_of_cons-eq}
use mathlib.Core.Path.{◌≡◌, refl, sym, subst}
use native.Mathlib.Decide.{ℕ_discrete}
use native.Mathlib.Nat.{not-suc-le-zero, le_of_suc-le-suc}
use native.Mathlib.Omega.{arith}
use lib.ListN.{length, get_or, take}
use lib.Seq.{take-suc, take-length}
use Rattle.network.specs.Lists.{numbers_from, keep, Distinct, nothing}
use Rattle.network.proofs.Pigeon.{distinct_snoc}
use Rattle.topology_types.specs.Outcome.{first_or}

module _ {A : Type 0} where
  pub get_d_mem : (xs : List A) (i : ℕ) (z : A) → i < length xs → Memᴰ (get_or xs i z) xs
  get_d_mem [] i z h = absurd (not-suc-le-zero h)
  get_d_mem (x ∷ xs) zero z h = Memᴰ.head refl
  get_d_mem (x ∷ xs) (suc i) z h = Memᴰ.tail (get_d_mem xs i z (le_of_suc-le-suc h))

  pub mem_get_d : {x : A} {xs : List A} (z : A) → Memᴰ x xs → (i : ℕ) × (i < length xs) × (get_or xs i z ≡ x)
  mem_get_d z (Memᴰ.head e) = (0, omega arith, sym e)
  mem_get_d z (Memᴰ.tail m) = let (i, h, e) = mem_get_d z m in (suc i, omega arith, e)

  -- elements differ where none stands among those before it
  pub differ : (xs : List A) (z : A) → ((i : ℕ) → i < length xs → Memᴰ (get_or xs i z) (take i xs) → ⊥) → Distinct xs
  differ xs z out = rw take-length at (first (length xs) (omega arith))
    where
      first : (k : ℕ) → k ≤ length xs → Distinct (take k xs)
      first zero h = nothing
      first (suc k) h = rw (take-suc xs k z (omega arith)) (distinct_snoc (first k (omega arith)) (out k (omega arith)))

-- what holds at s and from s + 1 on holds from s on
from_here : (P : ℕ → Type 0) (s : ℕ) → P s → ((i : ℕ) → suc s ≤ i → P i) → (i : ℕ) → s ≤ i → P i
from_here P s here on i h = step (ℕ_discrete s i)
  where
    step : Dec (s ≡ i) → P i
    step (yes e) = subst P e here
    step (no apart) = on i (omega arith)

module _ (f : ℕ → Bool) where
  -- no number of the run passes
  abbrev None : ℕ → ℕ → Type 0
  None s k = (i : ℕ) → s ≤ i → i < s + k → f i ≡ false

  pub keep_none : (s k : ℕ) → None s k → keep f (numbers_from s k) ≡ []
  unfolding numbers_from
  keep_none s zero out = refl
  keep_none s (suc k) out = rw (out s (omega arith) (omega arith)) (keep_none (suc s) k (λ i h l. out i (omega arith) (omega arith)))

  pub none_passes : (s k : ℕ) → keep f (numbers_from s k) ≡ [] → None s k
  unfolding numbers_from
  none_passes s zero e = λ i h l. absurd (omega arith)
  none_passes s (suc k) e = step (f s) refl e (none_passes (suc s) k)
    where
      rest : List ℕ
      rest = keep f (numbers_from (suc s) k)

      step : (b : Bool) → f s ≡ b → cond b (s ∷ rest) rest ≡ [] → (rest ≡ [] → None (suc s) k) → None s (suc k)
      step true g e' on = λ i h l. absurd (nil≢cons (sym e'))
      step false g e' on = from_here (λ i. i < s + suc k → f i ≡ false) s (λ l. g) (λ i h l. on e' i h (omega arith))

  -- r passes, and none before it
  pub record First (s k r : ℕ) : Type 0 where
    pub least : s ≤ r
    pub within : r < s + k
    pub passes : f r ≡ true
    pub earlier : (i : ℕ) → s ≤ i → i < r → f i ≡ false

  pub keep_first : (other s k r : ℕ) → First s k r → first_or other (keep f (numbers_from s k)) ≡ r
  unfolding numbers_from first_or
  keep_first other s zero r w = absurd (omega (arith, w.least, w.within))
  keep_first other s (suc k) r w = step (ℕ_discrete s r) (keep_first other (suc s) k r)
    where
      rest : List ℕ
      rest = keep f (numbers_from (suc s) k)

      step : Dec (s ≡ r) → (First (suc s) k r → first_or other rest ≡ r) → first_or other (cond (f s) (s ∷ rest) rest) ≡ r
      step (yes e) on = rw (e, w.passes)
      step (no apart) on =
          let h = w.least in
          let l = w.within in
          rw (w.earlier s (omega arith) (omega arith))
          (on (record { least = omega arith; within = omega arith; passes = w.passes; earlier = λ i above. w.earlier i (omega arith) }))

  pub first_passes : (s k r : ℕ) (others : List ℕ) → keep f (numbers_from s k) ≡ r ∷ others → First s k r
  unfolding numbers_from
  first_passes s zero r others e = absurd (nil≢cons e)
  first_passes s (suc k) r others e = step (f s) refl e (first_passes (suc s) k r others)
    where
      rest : List ℕ
      rest = keep f (numbers_from (suc s) k)

      step : (b : Bool) → f s ≡ b → cond b (s ∷ rest) rest ≡ r ∷ others → (rest ≡ r ∷ others → First (suc s) k r) → First s (suc k) r
      step true g e' on =
          let same : s ≡ r = head-eq_of_cons-eq e' in
          record { least = omega arith; within = omega arith; passes = rw (← same) g; earlier = λ i h l. absurd (omega arith) }
      step false g e' on =
          let w = on e' in
          record {
            least = omega (arith, w.least);
            within = omega (arith, w.within);
            passes = w.passes;
            earlier = from_here (λ i. i < r → f i ≡ false) s (λ l. g) w.earlier;
          }
