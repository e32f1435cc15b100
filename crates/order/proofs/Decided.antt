-- What checking an order answers, test by test: each test that fails decides, and each that passes leaves the tests after it.
-- Assumes nothing.
use Prim.Native.Nat.{ℕ, ◌≤◌, ◌<◌}
use mathlib.Core.List.{List, [], ◌∷◌}
use mathlib.Core.Path.{◌≡◌, refl, sym, ap}
use borrow.Author.Tests.{eq-eqb, ne_eqb}
use lib.Dec.{T}
use lib.ListN.{length, get_or, take}
use Rattle.std.specs.Prelude.{Some, None}
use Rattle.topology_types.specs.declared.Answer.{Answer}
use Rattle.topology_types.specs.declared.Topology.{Topology}
use Rattle.topology_sound.specs.Sound.{sound}
use Rattle.topology_sound.proofs.Place.{on_place_unsound, on_place_outside, on_place_next}
use Rattle.topology_types.specs.Topology.{network_of}
use Rattle.topology_types.specs.Outcome.{answer}
use Rattle.order_standings.specs.declared.Mode.{Mode}
use Rattle.order.specs.Calls.{first_of, refused_at_first, reached_count_lem, wrong_ranks, ranks_after, unready_ranks, mode_of, judging, checking}

-- the tests before 20 pass: the order has a sound topology's length, holds places in its reached ranks, none twice, and 255 after them, and begins with d
pub record Proposed (t : Topology) (d : ℕ) (order : List ℕ) : Type 0 where
  pub on_sound : T (sound t)
  pub place : d < t.routers
  pub long : length order ≡ t.routers
  pub once : wrong_ranks t.routers (take (reached_count_lem (network_of t) d) order) ≡ []
  pub none_after : ranks_after (reached_count_lem (network_of t) d) order ≡ []
  pub first : get_or order 0 0 ≡ d

-- a test over the whole order that has a first rank answers at it, and one that has none has no rank
pub first_found : (xs : List ℕ) (r number : ℕ) (next : Answer) → Some r ≡ first_of xs → answer number r ≡ refused_at_first number xs next
unfolding refused_at_first
first_found [] r number next e = absurd cc
first_found (x ∷ xs) r number next e = let same : r ≡ x = cc in ap (answer number) same

pub none_found : (xs : List ℕ) → None ≡ first_of xs → xs ≡ []
none_found [] e = refl
none_found (x ∷ xs) e = absurd cc

module _ (t : Topology) (d : ℕ) (m : Mode) (order : List ℕ) where
  -- how many ranks are reached
  abbrev pub reach : ℕ
  reach = reached_count_lem (network_of t) d

  pub unsound : (T (sound t) → ⊥) → checking t d m order ≡ answer 14 0
  unfolding checking
  unsound = on_place_unsound answer t d _

  module _ (good : T (sound t)) where
    pub outside : t.routers ≤ d → checking t d m order ≡ answer 15 d
    unfolding checking
    outside = on_place_outside answer t d _ good

    pub judged : d < t.routers → judging t d m order ≡ checking t d m order
    unfolding checking
    judged place = sym (on_place_next answer t d _ good place)

  pub other_length : (length order ≡ t.routers → ⊥) → answer 17 (length order) ≡ judging t d m order
  unfolding judging
  other_length h = rw (ne_eqb _ _ h)

  module _ (long : length order ≡ t.routers) where
    pub wrong_entry : (r : ℕ) → Some r ≡ first_of (wrong_ranks t.routers (take reach order)) → answer 18 r ≡ judging t d m order
    unfolding judging
    wrong_entry r e = rw (eq-eqb _ _ long) (first_found (wrong_ranks t.routers (take reach order)) r 18 _ e)

    module _ (once : wrong_ranks t.routers (take reach order) ≡ []) where
      pub ranked_after : (r : ℕ) → Some r ≡ first_of (ranks_after reach order) → answer 18 r ≡ judging t d m order
      unfolding judging refused_at_first
      ranked_after r e = rw (eq-eqb _ _ long, once) (first_found (ranks_after reach order) r 18 _ e)

      pub other_first : ranks_after reach order ≡ [] → (get_or order 0 0 ≡ d → ⊥) → answer 19 0 ≡ judging t d m order
      unfolding judging refused_at_first
      other_first after h = rw (eq-eqb _ _ long, once, after, ne_eqb _ _ h)

  module _ (p : Proposed t d order) where
    abbrev unready-ranks : List ℕ
    unready-ranks = unready_ranks (network_of t) d (mode_of m) (take reach order)

    pub unready : (r : ℕ) → Some r ≡ first_of unready-ranks → answer 20 r ≡ judging t d m order
    unfolding judging refused_at_first
    unready r e = rw (eq-eqb _ _ p.long, p.once, p.none_after, eq-eqb _ _ p.first) (first_found unready-ranks r 20 _ e)

    pub passes : unready-ranks ≡ [] → answer 0 0 ≡ judging t d m order
    unfolding judging refused_at_first
    passes e = rw (eq-eqb _ _ p.long, p.once, p.none_after, eq-eqb _ _ p.first, e)
