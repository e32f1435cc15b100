-- The tests of `checking`, one after the other: what each answer says of them. Later tests have higher numbers, or 0, so a number tells its test.
-- Assumes nothing.
use Prim.Native.Nat.{ℕ, ◌≤◌, ◌<◌}
use mathlib.Core.Bool.{Bool, true, false, cond, not}
use mathlib.Core.List.{List, [], ◌∷◌}
use mathlib.Core.Logic.{◌≢◌, ◌⊎◌, inl, inr}
use mathlib.Core.Path.{◌≡◌, refl, ap, sym, ◌∙◌}
use native.Mathlib.Omega.{arith}
use lib.Dec.{T, eqb, ltb, eqb→eq, ltb→lt}
use lib.ListN.{length, get_or, take}
use Rattle.topology_types.specs.declared.Answer.{Answer}
use Rattle.topology_types.specs.declared.Topology.{Topology}
use Rattle.topology_types.specs.Topology.{network_of}
use Rattle.topology_types.specs.Outcome.{answer}
use Rattle.topology_sound.specs.Sound.{sound}
use Rattle.topology_sound.specs.Place.{on_place}
use Rattle.order_standings.specs.declared.Mode.{Mode}
use Rattle.order.specs.Calls.{mode_of, reached_count_lem, wrong_ranks, ranks_after, unready_ranks, refused_at_first, judging, checking}
use Rattle.order.proofs.Decided.{Proposed}

-- the answer's number is another
abbrev Apart : ℕ → Answer → Type 0
Apart k x = x.number ≡ k → ⊥

-- 14 and 15 in the form of the tests after them
both_tests : (a b : Bool) (next x y : Answer) → cond a (cond b next x) y ≡ cond (not a) y (cond (not b) x next)
both_tests true true next x y = refl
both_tests true false next x y = refl
both_tests false b next x y = refl

-- an answer with another number comes from a later test
later : (b : Bool) (number other at at' : ℕ) (next : Answer) → number ≢ other → cond (not b) (answer number at) next ≡ answer other at' →
    T b × (next ≡ answer other at')
later true number other at at' next apart e = (tt, e)
later false number other at at' next apart e = absurd (apart (ap (λ (x : Answer). x.number) e))

none_first : (ranks : List ℕ) (number other at : ℕ) (next : Answer) → number ≢ other → refused_at_first number ranks next ≡ answer other at →
    (ranks ≡ []) × (next ≡ answer other at)
unfolding refused_at_first
none_first [] number other at next apart e = (refl, e)
none_first (r ∷ ranks) number other at next apart e = absurd (apart (ap (λ (x : Answer). x.number) e))

-- an answer with a number that no later test has comes from this one
fails_here : (b : Bool) (number at at' : ℕ) (next : Answer) → Apart number next → cond (not b) (answer number at) next ≡ answer number at' →
    (at' ≡ at) × (T b → ⊥)
fails_here true number at at' next apart e = absurd (apart (ap (λ (x : Answer). x.number) e))
fails_here false number at at' next apart e = (sym (ap (λ (x : Answer). x.at) e), λ t. t)

-- and over the order it points at the first rank
first_here : (ranks : List ℕ) (number r : ℕ) (next : Answer) → Apart number next → refused_at_first number ranks next ≡ answer number r →
    (rest : List ℕ) × (ranks ≡ r ∷ rest)
unfolding refused_at_first
first_here [] number r next apart e = absurd (apart (ap (λ (x : Answer). x.number) e))
first_here (x ∷ rest) number r next apart e = (rest, ap (λ (y : Answer). y.at ∷ rest) e)

apart_test : (b : Bool) (number at k : ℕ) (next : Answer) → number ≢ k → Apart k next → Apart k (cond (not b) (answer number at) next)
apart_test true number at k next apart on = on
apart_test false number at k next apart on = apart

apart_first : (ranks : List ℕ) (number k : ℕ) (next : Answer) → number ≢ k → Apart k next → Apart k (refused_at_first number ranks next)
unfolding refused_at_first
apart_first [] number k next apart on = on
apart_first (x ∷ rest) number k next apart on = apart

module _ (t : Topology) (d : ℕ) (m : Mode) (order : List ℕ) where
  -- the reached ranks
  abbrev part : List ℕ
  part = take (reached_count_lem (network_of t) d) order

  abbrev later_ranks : List ℕ
  later_ranks = ranks_after (reached_count_lem (network_of t) d) order

  -- the tests from one on
  abbrev from_20 : Answer
  from_20 = refused_at_first 20 (unready_ranks (network_of t) d (mode_of m) part) (answer 0 0)

  abbrev from_19 : Answer
  from_19 = cond (not (eqb (get_or order 0 0) d)) (answer 19 0) from_20

  abbrev after_18 : Answer
  after_18 = refused_at_first 18 later_ranks from_19

  abbrev from_18 : Answer
  from_18 = refused_at_first 18 (wrong_ranks t.routers part) after_18

  abbrev from_17 : Answer
  from_17 = cond (not (eqb (length order) t.routers)) (answer 17 (length order)) from_18

  abbrev from_15 : Answer
  from_15 = cond (not (ltb d t.routers)) (answer 15 d) from_17

  module _ (k : ℕ) (least : 1 ≤ k) where
    apart_0 : Apart k (answer 0 0)
    apart_0 e = omega arith

    apart_20 : k < 20 → Apart k from_20
    apart_20 h = apart_first (unready_ranks (network_of t) d (mode_of m) part) 20 k (answer 0 0) (λ e. omega arith) apart_0

    apart_19 : k < 19 → Apart k from_19
    apart_19 h = apart_test (eqb (get_or order 0 0) d) 19 0 k from_20 (λ e. omega arith) (apart_20 (omega arith))

    apart_18 : k < 18 → Apart k from_18
    apart_18 h =
        apart_first (wrong_ranks t.routers part) 18 k after_18 (λ e. omega arith)
        (apart_first later_ranks 18 k from_19 (λ e. omega arith) (apart_19 (omega arith)))

    apart_17 : k < 17 → Apart k from_17
    apart_17 h = apart_test (eqb (length order) t.routers) 17 (length order) k from_18 (λ e. omega arith) (apart_18 (omega arith))

    apart_15 : k < 15 → Apart k from_15
    apart_15 h = apart_test (ltb d t.routers) 15 d k from_17 (λ e. omega arith) (apart_17 (omega arith))

  from_14 : cond (not (sound t)) (answer 14 0) from_15 ≡ checking t d m order
  unfolding checking judging on_place
  from_14 = sym (both_tests (sound t) (ltb d t.routers) from_17 (answer 15 d) (answer 14 0))

  module _ (at : ℕ) where
    pub is_14 : checking t d m order ≡ answer 14 at → (at ≡ 0) × (T (sound t) → ⊥)
    is_14 e = fails_here (sound t) 14 0 at from_15 (apart_15 14 (omega arith) (omega arith)) (from_14 ∙ e)

    module _ (number : ℕ) where
      past_14 : 14 ≢ number → checking t d m order ≡ answer number at → T (sound t) × (from_15 ≡ answer number at)
      past_14 a e = later (sound t) 14 number 0 at from_15 a (from_14 ∙ e)

      past_15 : 14 ≢ number → 15 ≢ number → checking t d m order ≡ answer number at → T (sound t) × (d < t.routers) × (from_17 ≡ answer number at)
      past_15 a b e =
          let (s, e₁) = past_14 a e in
          let (h, e₂) = later (ltb d t.routers) 15 number d at from_17 b e₁ in
          (s, ltb→lt d t.routers h, e₂)

      past_17 : 14 ≢ number → 15 ≢ number → 17 ≢ number → checking t d m order ≡ answer number at →
          T (sound t) × (d < t.routers) × (length order ≡ t.routers) × (from_18 ≡ answer number at)
      past_17 a b c e =
          let (s, h, e₁) = past_15 a b e in
          let (l, e₂) = later (eqb (length order) t.routers) 17 number (length order) at from_18 c e₁ in
          (s, h, eqb→eq _ _ l, e₂)

      past_18 : 14 ≢ number → 15 ≢ number → 17 ≢ number → 18 ≢ number → checking t d m order ≡ answer number at →
          T (sound t) × (d < t.routers) × (length order ≡ t.routers) × (wrong_ranks t.routers part ≡ []) × (later_ranks ≡ [])
          × (from_19 ≡ answer number at)
      past_18 a b c f e =
          let (s, h, l, e₁) = past_17 a b c e in
          let (once, e₂) = none_first (wrong_ranks t.routers part) 18 number at after_18 f e₁ in
          let (after, e₃) = none_first later_ranks 18 number at from_19 f e₂ in
          (s, h, l, once, after, e₃)

      past_19 : 14 ≢ number → 15 ≢ number → 17 ≢ number → 18 ≢ number → 19 ≢ number → checking t d m order ≡ answer number at →
          Proposed t d order × (from_20 ≡ answer number at)
      past_19 a b c f g e =
          let (s, h, l, once, after, e₁) = past_18 a b c f e in
          let (first, e₂) = later (eqb (get_or order 0 0) d) 19 number 0 at from_20 g e₁ in
          (record { on_sound = s; place = h; long = l; once = once; none_after = after; first = eqb→eq _ _ first }, e₂)

    pub is_15 : checking t d m order ≡ answer 15 at → T (sound t) × (at ≡ d) × (T (ltb d t.routers) → ⊥)
    is_15 e =
        let (s, e₁) = past_14 15 (λ h. omega arith) e in
        let (there, out) = fails_here (ltb d t.routers) 15 d at from_17 (apart_17 15 (omega arith) (omega arith)) e₁ in
        (s, there, out)

    pub is_17 : checking t d m order ≡ answer 17 at → T (sound t) × (d < t.routers) × (at ≡ length order) × (T (eqb (length order) t.routers) → ⊥)
    is_17 e =
        let (s, h, e₁) = past_15 17 (λ k. omega arith) (λ k. omega arith) e in
        let (there, out) = fails_here (eqb (length order) t.routers) 17 (length order) at from_18 (apart_18 17 (omega arith) (omega arith)) e₁ in
        (s, h, there, out)

    -- 18 comes from the reached ranks, or where these pass from those after them
    pub is_18 : checking t d m order ≡ answer 18 at →
        T (sound t) × (d < t.routers) × (length order ≡ t.routers)
        × (((rest : List ℕ) × (wrong_ranks t.routers part ≡ at ∷ rest))
        ⊎ ((wrong_ranks t.routers part ≡ []) × ((rest : List ℕ) × (later_ranks ≡ at ∷ rest))))
    is_18 e =
        let (s, h, l, e₁) = past_17 18 (λ k. omega arith) (λ k. omega arith) (λ k. omega arith) e in
        (s, h, l, either (wrong_ranks t.routers part) e₁)
      where
        either : (ranks : List ℕ) → refused_at_first 18 ranks after_18 ≡ answer 18 at →
            ((rest : List ℕ) × (ranks ≡ at ∷ rest)) ⊎ ((ranks ≡ []) × ((rest : List ℕ) × (later_ranks ≡ at ∷ rest)))
        either [] e = unfold refused_at_first in inr (refl, first_here later_ranks 18 at from_19 (apart_19 18 (omega arith) (omega arith)) e)
        either (r ∷ rest) e = unfold refused_at_first in inl (rest, ap (λ (y : Answer). y.at ∷ rest) e)

    pub is_19 : checking t d m order ≡ answer 19 at →
        T (sound t) × (d < t.routers) × (length order ≡ t.routers) × (wrong_ranks t.routers part ≡ []) × (later_ranks ≡ []) × (at ≡ 0)
        × (T (eqb (get_or order 0 0) d) → ⊥)
    is_19 e =
        let (s, h, l, once, after, e₁) = past_18 19 (λ k. omega arith) (λ k. omega arith) (λ k. omega arith) (λ k. omega arith) e in
        let (there, out) = fails_here (eqb (get_or order 0 0) d) 19 0 at from_20 (apart_20 19 (omega arith) (omega arith)) e₁ in
        (s, h, l, once, after, there, out)

    pub is_20 : checking t d m order ≡ answer 20 at →
        Proposed t d order × ((rest : List ℕ) × (unready_ranks (network_of t) d (mode_of m) part ≡ at ∷ rest))
    is_20 e =
        let (p, e₁) = past_19 20 (λ k. omega arith) (λ k. omega arith) (λ k. omega arith) (λ k. omega arith) (λ k. omega arith) e in
        (p, first_here (unready_ranks (network_of t) d (mode_of m) part) 20 at (answer 0 0) (apart_0 20 (omega arith)) e₁)

    pub is_0 : checking t d m order ≡ answer 0 at → (at ≡ 0) × Proposed t d order × (unready_ranks (network_of t) d (mode_of m) part ≡ [])
    is_0 e =
        let (p, e₁) = past_19 0 (λ k. omega arith) (λ k. omega arith) (λ k. omega arith) (λ k. omega arith) (λ k. omega arith) e in
        let (none, e₂) = none_first (unready_ranks (network_of t) d (mode_of m) part) 20 0 at (answer 0 0) (λ k. omega arith) e₁ in
        (sym (ap (λ (x : Answer). x.at) e₂), p, none)
