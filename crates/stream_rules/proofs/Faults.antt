-- What the tests of a record say of its fault: a fault refuses, and the tests of halves in turn, from one of them on, as the tables have them.
-- Assumes nothing.
use Prim.Native.Nat.{ℕ, zero, suc, ◌+◌}
use mathlib.Core.Bool.{cond}
use mathlib.Core.List.{List}
use mathlib.Core.Path.{◌≡◌, refl}
use lib.Dec.{eqb, ltb}
use lib.ListN.{length}
use Rattle.network.specs.Lists.{any}
use Rattle.topology_types.specs.declared.Half.{Half}
use Rattle.topology_types.specs.Limits.{most_halves}
use Rattle.stream_rules.specs.declared.Reading.{Reading}
use Rattle.stream_rules.specs.Halves.{StreamListing, halves}
use Rattle.stream_rules.specs.Reading.{refusal, repeated, crowded, unless}

pub unless_fault : (number at : ℕ) (r : Reading) → (number ≡ 0 → ⊥) → unless number at r ≡ refusal number at
unfolding unless
unless_fault zero at r h = absurd (h refl)
unless_fault (suc number) at r h = refl

-- the tests of halves from one of them on, the last first
module _ (p : StreamListing) (h : Half) (new : List Half) where
  abbrev pub from_10 : ℕ
  from_10 = cond (any (λ k. crowded p k.from.0) new) 10 0

  abbrev pub from_9 : ℕ
  from_9 = cond (ltb most_halves (length (halves p) + length new)) 9 from_10

  abbrev pub from_8 : ℕ
  from_8 = cond (any (repeated p) new) 8 from_9

  abbrev pub from_7 : ℕ
  from_7 = cond (eqb h.cost 0) 7 from_8

  abbrev pub from_6 : ℕ
  from_6 = cond (eqb h.from.0 h.to.0) 6 from_7
