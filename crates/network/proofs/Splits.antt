-- What holds at every split of a list, of an element and what stands before it, holds at its head and behind the head, and the other way round.
-- Assumes nothing.
use Prim.Native.Nat.{ℕ}
use mathlib.Core.List.{List, [], ◌∷◌, ◌++◌, append-nil, nil≢cons, head-eq_of_cons-eq, tail-eq_of_cons-eq}
use mathlib.Core.Path.{◌≡◌, refl, ap}
use lib.Seq.{append_snoc}

module _ (P : List ℕ → ℕ → Type 0) where
  -- P holds of each element of `rest`, behind `placed` and what stands before it
  abbrev pub Splits : List ℕ → List ℕ → Type 0
  Splits placed rest = (before : List ℕ) (u : ℕ) (after : List ℕ) → rest ≡ before ++ (u ∷ after) → P (placed ++ before) u

  pub no_more : (placed : List ℕ) → Splits placed []
  no_more placed [] u after e = absurd (nil≢cons e)
  no_more placed (v ∷ before) u after e = absurd (nil≢cons e)

  pub one_more : (placed : List ℕ) (w : ℕ) (rest : List ℕ) → P placed w → Splits (placed ++ (w ∷ [])) rest → Splits placed (w ∷ rest)
  one_more placed w rest p h [] u after e = rw (append-nil, ← head-eq_of_cons-eq e) p
  one_more placed w rest p h (v ∷ before) u after e =
      rw (← head-eq_of_cons-eq e, ← append_snoc placed w before) (h before u after (tail-eq_of_cons-eq e))

  pub head_of : (placed : List ℕ) (w : ℕ) (rest : List ℕ) → Splits placed (w ∷ rest) → P placed w
  head_of placed w rest h = rw append-nil at (h [] w rest refl)

  pub tail_of : (placed : List ℕ) (w : ℕ) (rest : List ℕ) → Splits placed (w ∷ rest) → Splits (placed ++ (w ∷ [])) rest
  tail_of placed w rest h before u after e = rw (append_snoc placed w before) (h (w ∷ before) u after (ap (λ (l : List ℕ). w ∷ l) e))
