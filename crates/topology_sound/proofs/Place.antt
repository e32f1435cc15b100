-- 14, then 15, by cases of the two tests: a refusal of `refused_at` is that of every call that begins with them, and where it answers 0 both pass.
-- Assumes nothing.
use Prim.Native.Nat.{ℕ, ◌≤◌, ◌<◌}
use mathlib.Core.Bool.{Bool, true, false, cond}
use mathlib.Core.Path.{◌≡◌, refl, ap}
use native.Mathlib.Omega.{arith}
use borrow.Author.Tests.{lt-ltb, le-ltb}
use lib.Dec.{T, ltb, ltb→lt}
use Rattle.network.proofs.Tests.{as_true, as_false}
use Rattle.topology_types.specs.declared.Topology.{Topology}
use Rattle.topology_types.specs.declared.Refusal.{Refusal}
use Rattle.topology_types.specs.declared.Answer.{Answer}
use Rattle.topology_types.specs.Outcome.{answer, number_of, refused}
use Rattle.topology_types.proofs.Outcome.{numbered}
use Rattle.topology_sound.specs.Sound.{sound}
use Rattle.topology_sound.specs.Place.{on_place}
use Rattle.topology_sound.specs.Theorems.{PlacesTested}

module _ {A : Type 0} (refuse : ℕ → ℕ → A) (t : Topology) (u : ℕ) (next : A) where
  pub on_place_unsound : (T (sound t) → ⊥) → on_place refuse t u next ≡ refuse 14 0
  unfolding on_place
  on_place_unsound out = rw (as_false (sound t) out)

  module _ (good : T (sound t)) where
    pub on_place_outside : t.routers ≤ u → on_place refuse t u next ≡ refuse 15 u
    unfolding on_place
    on_place_outside past = rw (as_true (sound t) good, le-ltb u t.routers past)

    pub on_place_next : u < t.routers → on_place refuse t u next ≡ next
    unfolding on_place
    on_place_next place = rw (as_true (sound t) good, lt-ltb u t.routers place)

pub places_tested : PlacesTested
places_tested A refuse t u next =
    record {
      not_sound = on_place_unsound refuse t u next;
      no_place = on_place_outside refuse t u next;
      passes = on_place_next refuse t u next;
    }

-- what is answered, by the values of the tests
module _ (u : ℕ) (r : Answer) where
  abbrev Answers : Bool → Bool → Type 0
  Answers a b = r ≡ cond a (cond b (answer 0 0) (answer 15 u)) (answer 14 0)

  refuses : {A : Type 0} (refuse : ℕ → ℕ → A) (next : A) (a b : Bool) → Answers a b → (r.number ≡ 0 → ⊥) →
      refuse r.number r.at ≡ cond a (cond b next (refuse 15 u)) (refuse 14 0)
  refuses refuse next true true e off = absurd (off (ap (λ (x : Answer). x.number) e))
  refuses refuse next true false e off = ap (λ (x : Answer). refuse x.number x.at) e
  refuses refuse next false b e off = ap (λ (x : Answer). refuse x.number x.at) e

  both_pass : (a b : Bool) → Answers a b → r.number ≡ 0 → T a × T b
  both_pass true true e zero = (tt, tt)
  both_pass true false e zero = absurd (omega (arith, ap (λ (x : Answer). x.number) e))
  both_pass false b e zero = absurd (omega (arith, ap (λ (x : Answer). x.number) e))

module _ (t : Topology) (u : ℕ) (r : Answer) (e : r ≡ on_place answer t u (answer 0 0)) where
  pub on_place_refused : {A : Type 0} (refuse : ℕ → ℕ → A) (next : A) → (r.number ≡ 0 → ⊥) → refuse r.number r.at ≡ on_place refuse t u next
  unfolding on_place
  on_place_refused refuse next off = refuses u r refuse next (sound t) (ltb u t.routers) e off

  pub on_place_passed : r.number ≡ 0 → T (sound t) × (u < t.routers)
  unfolding on_place
  on_place_passed zero =
      let (good, place) = both_pass u r (sound t) (ltb u t.routers) e zero in
      (good, ltb→lt u t.routers place)

-- the same of what `test_place` returns
module _ (t : Topology) (u : ℕ) where
  pub on_place_err : {A : Type 0} (refuse : ℕ → ℕ → A) (next : A) (r : Refusal) → refused r ≡ on_place answer t u (answer 0 0) →
      refuse (number_of r.fault) r.at ≡ on_place refuse t u next
  on_place_err refuse next r e = on_place_refused t u (refused r) e refuse next (λ z. omega (arith, numbered r.fault, z))

  pub on_place_ok : answer 0 0 ≡ on_place answer t u (answer 0 0) → T (sound t) × (u < t.routers)
  on_place_ok e = on_place_passed t u (answer 0 0) e refl
