-- A chain of tests says r exactly where each test before the one that says r passes and that one fails: so for one test, then, test by test, for the
-- table, the length of states and the states, with which a hop and a walk both end.
-- Assumes nothing.
use Prim.Native.Nat.{ℕ, ◌≤◌, ◌<◌}
use mathlib.Core.Bool.{Bool, true, false, cond, not}
use mathlib.Core.List.{List, [], ◌∷◌, Memᴰ}
use mathlib.Core.Logic.Iff
use mathlib.Core.Logic.{◌↔◌, ◌⊎◌, inl, inr, ⊎_elim}
use mathlib.Core.Path.{◌≡◌, refl, sym, ap, ◌∙◌, subst}
use native.Mathlib.Omega.{arith}
use borrow.Author.Tests.{ltb-false}
use lib.Dec.{T, eqb, ltb, ltb→lt, lt→ltb}
use lib.ListN.{length}
use Rattle.network.proofs.Tests.{truth, as_true, as_false, passes, fails}
use Rattle.topology_types.specs.declared.Answer.{Answer}
use Rattle.topology_types.specs.declared.Topology.{Topology}
use Rattle.topology_types.specs.Topology.{network_of}
use Rattle.topology_types.specs.Outcome.{answer}
use Rattle.topology_sound.specs.Sound.{sound}
use Rattle.order.specs.Calls.{refused_at_first}
use Rattle.table_rows.specs.Layout.{table_length, row_start_lem}
use Rattle.table.specs.Listed.{layout_of}
use Rattle.table.specs.Calls.{wrong_bytes, table_judging, table_checking}
use Rattle.table.proofs.Accepting.{starts?}
use Rattle.forwarding_rules.specs.Schedule.{wrong_states}
use Rattle.forwarding_rules.specs.Calls.{Said, done, refused, tested, tested_by, tested_over}
use Rattle.forwarding_rules.specs.Theorems.{FirstOver}
use Rattle.forwarding_rules.proofs.Schedules.{none_over, first-over, over_first}

pub clash : {A : Type 0} → ◌≡◌ {A = ℕ} 0 1 → A
clash e = absurd (omega arith)

-- a test passes where P holds, and fails where Q does
pub record Decides (b : Bool) (P Q : Type 0) : Type 0 where
  pub passing : T b ↔ P
  pub failing : (T b → ⊥) ↔ Q

pub decides : {b : Bool} {P : Type 0} → T b ↔ P → Decides b P (P → ⊥)
decides (f, g) = record { passing = (f, g); failing = (λ out p. out (g p), λ out t. out (f t)) }

pub decides_below : (m n : ℕ) → Decides (ltb m n) (m < n) (n ≤ m)
decides_below m n =
    record {
      passing = (ltb→lt m n, lt→ltb m n);
      failing = (λ out. omega (arith, ltb-false m n (as_false (ltb m n) out)), λ h t. omega (arith, ltb→lt m n t));
    }

module _ {A : Type 0} {b : Bool} {P Q : Type 0} (k a : ℕ) (next : Said A) (d : Decides b P Q) where
  went : P → tested b k a next ≡ next
  unfolding tested
  went p = passes b (d.passing.1 p) next (refused k a)

  stopped : Q → tested b k a next ≡ refused k a
  unfolding tested
  stopped q = fails b (d.failing.1 q) next (refused k a)

  either : P ⊎ Q
  either = ⊎_elim (λ t. inl (d.passing.0 t)) (λ out. inr (d.failing.0 out)) (truth b)

  -- r is said by this test, which fails, or by the next
  pub fork : {r : Said A} {Z Y : Type 0} → (Q × (refused k a ≡ r)) ↔ Z → (P → (next ≡ r) ↔ Y) → (tested b k a next ≡ r) ↔ (Z ⊎ (P × Y))
  fork (f, g) on = (
    λ e. ⊎_elim (λ p. inr (p, (on p).0 (sym (went p) ∙ e))) (λ q. inl (f (q, sym (stopped q) ∙ e))) either,
    ⊎_elim (λ z. let (q, e) = g z in stopped q ∙ e) (λ (p, y). went p ∙ (on p).1 y),
  )

  -- not by this one, so this one passes
  pub pass : {r : Said A} {Y : Type 0} → (Q → refused k a ≡ r → ⊥) → (P → (next ≡ r) ↔ Y) → (tested b k a next ≡ r) ↔ (P × Y)
  pass other on = Iff.trans (fork {Z = ⊥} (λ (q, e). other q e, λ z. absurd z) on) (⊎_elim (λ z. absurd z) (λ y. y), λ y. inr y)

  -- not by the next, so this one fails
  pub stop : {r : Said A} {Z : Type 0} → (P → next ≡ r → ⊥) → (Q × (refused k a ≡ r)) ↔ Z → (tested b k a next ≡ r) ↔ Z
  stop other here = Iff.trans (fork {Y = ⊥} here (λ p. (other p, λ z. absurd z))) (⊎_elim (λ z. z) (λ (p, y). absurd y), λ z. inl z)

  -- what holds of its number and of those of the next holds of every number that is said
  pub numbers : (R : ℕ → Type 0) → (Q → R k) → (P → (number at : ℕ) → next ≡ refused number at → R number) →
      (number at : ℕ) → tested b k a next ≡ refused number at → R number
  numbers R here on number at e =
      ⊎_elim (λ p. on p number at (sym (went p) ∙ e))
      (λ q. let same : k ≡ number = cc (stopped q) in subst R same (here q)) either

-- a refusal with a number points where the test points
pub points : {A Q : Type 0} (k a at : ℕ) → (Q × (◌≡◌ {A = Said A} (refused k a) (refused k at))) ↔ (Q × (at ≡ a))
points k a at = (λ (q, s). (q, (cc)), λ (q, e). (q, (cc)))

pub flat_three : {A B C : Type 0} → (A × (B × C)) ↔ (A × B × C)
flat_three = (λ (a, (b, c)). (a, b, c), λ (a, b, c). (a, (b, c)))

pub flat_four : {A B C D : Type 0} → (A × (B × (C × D))) ↔ (A × B × C × D)
flat_four = (λ (a, (b, (c, d))). (a, b, c, d), λ (a, b, c, d). (a, (b, (c, d))))

pub flat_five : {A B C D E : Type 0} → (A × (B × (C × (D × E)))) ↔ (A × B × C × D × E)
flat_five = (λ (a, (b, (c, (d, e)))). (a, b, c, d, e), λ (a, b, c, d, e). (a, (b, (c, (d, e)))))

-- what checking a table answers on a sound topology: 0, or 21
abbrev pub Kind : Answer → Type 0
Kind a = (a ≡ answer 0 0) ⊎ ((at : ℕ) × (a ≡ answer 21 at))

kind_tested : (a : Answer) → Kind a → Decides (eqb a.number 0) (a ≡ answer 0 0) ((at : ℕ) × (a ≡ answer 21 at))
kind_tested a (inl e) =
    record {
      passing = (λ t. e, λ e'. rw e tt);
      failing = (λ out. absurd (out (rw e tt)), λ (at, e') t. omega (arith, ap (λ (y : Answer). y.number) (sym e ∙ e')));
    }
kind_tested a (inr (at, e)) =
    record {
      passing = (λ t. absurd (rw e at t), λ e'. absurd (omega (arith, ap (λ (y : Answer). y.number) (sym e ∙ e'))));
      failing = (λ out. (at, e), λ q t. rw e at t);
    }

module _ (t : Topology) (good : T (sound t)) (table : List ℕ) where
  pub kind : Kind (table_checking t table)
  unfolding table_checking table_judging refused_at_first row_start_lem
  kind =
      rw (as_true (sound t) good)
      (by_tests (not (eqb (length table) (table_length (layout_of table) t.routers))) (not (starts? t table)) (length table) (wrong_bytes (network_of t) t.routers table))
    where
      by_tests : (b c : Bool) (long : ℕ) (wrong : List ℕ) → Kind (cond b (answer 21 long) (cond c (answer 21 0) (refused_at_first 21 wrong (answer 0 0))))
      by_tests true c long wrong = inr (long, refl)
      by_tests false true long wrong = inr (0, refl)
      by_tests false false long (i ∷ wrong) = inr (i, refl)
      by_tests false false long [] = inl refl

  abbrev checked : Decides (eqb (table_checking t table).number 0) (table_checking t table ≡ answer 0 0) ((at : ℕ) × (table_checking t table ≡ answer 21 at))
  checked = kind_tested (table_checking t table) kind

-- the test of the states' bytes, and then x
module _ {A : Type 0} (states : List ℕ) (x : A) where
  abbrev bytes_tested : Said A
  bytes_tested = tested_over (wrong_states states) 23 (done x)

  bytes_23 : (at : ℕ) → (bytes_tested ≡ refused 23 at) ↔ FirstOver states at
  unfolding tested_over
  bytes_23 at = (step (wrong_states states) refl, λ f. let (rest, e) = over_first states at f in rw e)
    where
      step : (wrong : List ℕ) → wrong_states states ≡ wrong → tested_over wrong 23 (done x) ≡ refused 23 at → FirstOver states at
      step [] e said = clash (cc)
      step (i ∷ rest) e said = let same : i ≡ at = cc in subst (FirstOver states) same (first-over states i rest e)

  bytes_done : (y : A) → (bytes_tested ≡ done y) ↔ (((b : ℕ) → Memᴰ b states → b ≤ 1) × (x ≡ y))
  unfolding tested_over
  bytes_done y = (step (wrong_states states) refl, λ (small, e). rw ((none_over states).1 small, e))
    where
      step : (wrong : List ℕ) → wrong_states states ≡ wrong → tested_over wrong 23 (done x) ≡ done y → ((b : ℕ) → Memᴰ b states → b ≤ 1) × (x ≡ y)
      step [] e said = ((none_over states).0 e, (cc))
      step (i ∷ rest) e said = clash (cc)

  bytes_number : (number at : ℕ) → bytes_tested ≡ refused number at → number ≡ 23
  unfolding tested_over
  bytes_number number at = step (wrong_states states)
    where
      step : (wrong : List ℕ) → tested_over wrong 23 (done x) ≡ refused number at → number ≡ 23
      step [] said = clash (cc)
      step (i ∷ rest) said = cc

-- The table, the length of the states, which is right where L holds, their bytes, and then x.
module _ (t : Topology) (table : List ℕ) {A : Type 0} (right : Bool) (L : Type 0) (states : List ℕ) (x : A) where
  abbrev length_tested : Said A
  length_tested = tested right 22 (length states) (bytes_tested states x)

  abbrev pub ending : Said A
  ending = tested_by (table_checking t table) length_tested

  pub record Ends : Type 1 where
    pub numbers_are : (R : ℕ → Type 0) → R 21 → R 22 → R 23 → (number at : ℕ) → ending ≡ refused number at → R number
    pub ends_21 : (at : ℕ) → (ending ≡ refused 21 at) ↔ (table_checking t table ≡ answer 21 at)
    pub ends_22 : (at : ℕ) → (ending ≡ refused 22 at) ↔ ((table_checking t table ≡ answer 0 0) × ((L → ⊥) × (at ≡ length states)))
    pub ends_23 : (at : ℕ) → (ending ≡ refused 23 at) ↔ ((table_checking t table ≡ answer 0 0) × (L × FirstOver states at))
    pub ends_done : (y : A) → (ending ≡ done y) ↔ ((table_checking t table ≡ answer 0 0) × (L × (((b : ℕ) → Memᴰ b states → b ≤ 1) × (x ≡ y))))

  module _ (good : T (sound t)) (d : Decides right L (L → ⊥)) where
    -- the table's test passes, or says 21
    past_table : {r : Said A} {Y : Type 0} → ((at : ℕ) → refused 21 at ≡ r → ⊥) → (length_tested ≡ r) ↔ Y →
        (ending ≡ r) ↔ ((table_checking t table ≡ answer 0 0) × Y)
    unfolding tested_by
    past_table other on = pass _ _ length_tested (checked t good table) (λ (at, e) s. other at (rw e at s)) (λ e. on)

    pub ends : Ends
    unfolding tested_by
    ends =
        record {
          numbers_are = λ R is-21 is-22 is-23.
              numbers _ _ length_tested (checked t good table) R (λ (at, e). rw e is-21)
              (λ e. numbers 22 (length states) (bytes_tested states x) d R (λ out. is-22) (λ l number at s. rw (bytes_number states x number at s) is-23));
          ends_21 = λ at.
              stop _ _ length_tested (checked t good table)
              (λ e s.
              omega (
                arith,
                numbers 22 (length states) (bytes_tested states x) d (λ n. 21 < n) (λ out. omega arith)
                    (λ l n a said. omega (arith, bytes_number states x n a said)) 21 at s,
              ))
              (λ ((a, e), s). let s' : ◌≡◌ {A = Said A} (refused 21 a) (refused 21 at) = rw e at s in let same : a ≡ at = cc in e ∙ ap (answer 21) same, λ e. ((at, e), rw e));
          ends_22 = λ at. past_table (λ a s. clash (cc)) (stop 22 (length states) (bytes_tested states x) d (λ l s. omega (arith, bytes_number states x 22 at s))
              (points 22 (length states) at));
          ends_23 = λ at. past_table (λ a s. clash (cc)) (pass 22 (length states) (bytes_tested states x) d (λ out s. clash (cc)) (λ l. bytes_23 states x at));
          ends_done = λ y. past_table (λ a s. clash (cc)) (pass 22 (length states) (bytes_tested states x) d (λ out s. clash (cc)) (λ l. bytes_done states x y));
        }
