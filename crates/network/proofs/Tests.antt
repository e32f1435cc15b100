-- A test that passes, as a fact: conjunction, negation and the comparisons of numbers, each read off the test's value.
-- Assumes nothing.
use Prim.Native.Nat.{ℕ, ◌<◌}
use mathlib.Core.Bool.{Bool, true, false, cond, ◌&&◌, ◌||◌}
use mathlib.Core.Logic.{◌≢◌, ◌⊎◌, inl, inr}
use mathlib.Core.Path.{◌≡◌, refl, subst}
use native.Mathlib.Decide.{dec_lt}
use native.Mathlib.Omega.{arith}
use lib.Dec.{T, eqb, ltb, eqb→eq, eqb_refl, ltb→lt, lt→ltb}
use Rattle.network.specs.Lists.{wins}

pub both : (a b : Bool) → T (a && b) → T a × T b
both true b t = (tt, t)
both false b t = absurd t

pub and : (a b : Bool) → T a → T b → T (a && b)
and true b s t = t
and false b s t = absurd s

pub three : (a b c : Bool) → T (a && b && c) → T a × T b × T c
three true true c t = (tt, tt, t)
three true false c t = absurd t
three false b c t = absurd t

pub and_three : (a b c : Bool) → T a → T b → T c → T (a && b && c)
and_three true true c r s t = t
and_three true false c r s t = absurd s
and_three false b c r s t = absurd r

pub either : (a b : Bool) → T (a || b) → T a ⊎ T b
either true b t = inl tt
either false b t = inr t

pub or_left : (a b : Bool) → T a → T (a || b)
or_left true b t = tt
or_left false b t = absurd t

pub or_right : (a b : Bool) → T b → T (a || b)
or_right true b t = tt
or_right false b t = t

pub truth : (b : Bool) → T b ⊎ (T b → ⊥)
truth true = inl tt
truth false = inr (λ t. t)

pub as_true : (b : Bool) → T b → b ≡ true
as_true true t = refl
as_true false t = absurd t

pub as_false : (b : Bool) → (T b → ⊥) → b ≡ false
as_false true o = absurd (o tt)
as_false false o = refl

-- what a test picks
pub passes {ℓ} : {A : Type ℓ} (b : Bool) → T b → (x y : A) → cond b x y ≡ x
passes true t x y = refl
passes false t x y = absurd t

pub fails {ℓ} : {A : Type ℓ} (b : Bool) → (T b → ⊥) → (x y : A) → cond b x y ≡ y
fails true o x y = absurd (o tt)
fails false o x y = refl

pub eq_test : {m n : ℕ} → m ≡ n → T (eqb m n)
eq_test {m} e = subst (λ (k : ℕ). T (eqb m k)) e (eqb_refl m)

-- what the test for ties says, both ways
pub wins_fact : (x y i j : ℕ) → T (wins x y i j) → (x < y) ⊎ ((x ≡ y) × (j < i))
unfolding wins
wins_fact x y i j t = cases (either (ltb x y) (eqb x y && ltb j i) t)
  where
    cases : T (ltb x y) ⊎ T (eqb x y && ltb j i) → (x < y) ⊎ ((x ≡ y) × (j < i))
    cases (inl s) = inl (ltb→lt x y s)
    cases (inr s) = let (e, l) = both (eqb x y) (ltb j i) s in inr (eqb→eq x y e, ltb→lt j i l)

pub fact_wins : {x y i j : ℕ} → (x < y) ⊎ ((x ≡ y) × (j < i)) → T (wins x y i j)
unfolding wins
fact_wins {x} {y} {i} {j} (inl h) = or_left (ltb x y) (eqb x y && ltb j i) (lt→ltb x y h)
fact_wins {x} {y} {i} {j} (inr (e, h)) = or_right (ltb x y) (eqb x y && ltb j i) (and (eqb x y) (ltb j i) (eq_test e) (lt→ltb j i h))

-- The relation of that test, over any tie-break: transitive if the tie-break is; of two, the first or the second is ahead if their IDs differ.
pub ties_trans : {P Q R : Type 0} (x y z : ℕ) → (P → Q → R) → (x < y) ⊎ ((x ≡ y) × P) → (y < z) ⊎ ((y ≡ z) × Q) → (x < z) ⊎ ((x ≡ z) × R)
ties_trans x y z f (inl h) (inl k) = inl (omega arith)
ties_trans x y z f (inl h) (inr (e, q)) = inl (omega arith)
ties_trans x y z f (inr (e, p)) (inl k) = inl (omega arith)
ties_trans x y z f (inr (e, p)) (inr (e', q)) = inr (omega arith, f p q)

pub wins_either : (x y i j : ℕ) → i ≢ j → T (wins x y i j) ⊎ T (wins y x j i)
wins_either x y i j apart = cases (dec_lt x y) (dec_lt y x) (dec_lt j i)
  where
    cases : Dec (x < y) → Dec (y < x) → Dec (j < i) → T (wins x y i j) ⊎ T (wins y x j i)
    cases (yes h) k l = inl (fact_wins (inl h))
    cases (no h) (yes k) l = inr (fact_wins (inl k))
    cases (no h) (no k) (yes l) = inl (fact_wins (inr (omega arith, l)))
    cases (no h) (no k) (no l) = inr (fact_wins (inr (omega arith, omega arith)))
