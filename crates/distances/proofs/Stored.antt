-- What holds of every element after a store: it holds of what was stored, and of what stood elsewhere.
-- Assumes nothing.
use Prim.Native.Nat.{ℕ, ◌<◌}
use mathlib.Core.List.{List}
use mathlib.Core.Logic.{◌≢◌}
use mathlib.Core.Path.{◌≡◌}
use native.Mathlib.Decide.{ℕ_discrete}
use lib.ListN.{length, get_or, set}
use lib.Seq.{get_or-set_same, get_or-set_other}

pub stored : {A : Type 0} (P : ℕ → A → Type 0) (l : List A) (u : ℕ) (x z : A) → u < length l → P u x → ((v : ℕ) → v ≢ u → P v (get_or l v z)) →
    (v : ℕ) → P v (get_or (set l u x) v z)
stored P l u x z inside here there v = cases (ℕ_discrete v u)
  where
    cases : Dec (v ≡ u) → P v (get_or (set l u x) v z)
    cases (yes e) = rw (e, get_or-set_same l u x z inside) here
    cases (no e) = rw (get_or-set_other l u v x z e) (there v e)
