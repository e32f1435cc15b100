-- What the calls return at each of their tests: a table that was judged is checked, once 14 passed, and a test over all bytes points at the first that
-- was found.
-- Assumes nothing.
use Rattle.std.proofs.Common.{◌≡◌, ℕ, List, [], ◌∷◌, Some, None, T, refl, sym, ap, ◌∙◌, arith}
use borrow.Author.Tests.{ne_eqb}
use Rattle.network.proofs.Tests.{as_true}
use Rattle.topology_types.specs.Outcome as outcome
use Rattle.topology_types.specs.Outcome.{answer, number_of}
use Rattle.topology_types.specs.declared.Refusal.{Refusal}
use Rattle.topology_types.specs.declared.Topology.{Topology}
use Rattle.topology_types.proofs.Outcome.{numbered}
use Rattle.topology_sound.specs.Sound.{sound}
use Rattle.order.specs.Calls.{first_of}
use Rattle.table.specs.Calls.{table_judging, table_checking}
use Rattle.table.proofs.Verdicts.{tables_each}
use Rattle.forwarding_rules.specs.Calls.{Said, refused, tested, tested_by, tested_over}

pub judged_checked : (t : Topology) (table : List ℕ) → T (sound t) → table_judging t table ≡ table_checking t table
unfolding table_checking
judged_checked t table good = rw (as_true (sound t) good)

-- number 0 is the answer that accepts
pub passed_table : (t : Topology) (table : List ℕ) → (table_checking t table).number ≡ 0 → table_checking t table ≡ answer 0 0
passed_table t table e =
    let at = (table_checking t table).at in
    let this : table_checking t table ≡ answer 0 at = ap (λ (k : ℕ). answer k at) e in
    this ∙ ap (answer 0) ((tables_each t table at).says_0.0 this).0

module _ (t : Topology) (table : List ℕ) (good : T (sound t)) where
  -- a table that is judged and refused
  pub table_refused : {A : Type 0} (next : Said A) (r : Refusal) → outcome.refused r ≡ table_judging t table →
      refused (number_of r.fault) r.at ≡ tested_by (table_checking t table) next
  unfolding tested_by tested
  table_refused next r e =
      let is : table_checking t table ≡ outcome.refused r = sym (e ∙ judged_checked t table good) in
      rw (is, ne_eqb (number_of r.fault) 0 (λ z. omega (arith, numbered r.fault, z)))

  -- one that is accepted
  pub table_passed : answer 0 0 ≡ table_judging t table → table_checking t table ≡ answer 0 0
  table_passed e = sym (e ∙ judged_checked t table good)

-- the first byte that fails a test, or none
pub points_at : {A : Type 0} (xs : List ℕ) (r number : ℕ) (next : Said A) → Some r ≡ first_of xs → refused number r ≡ tested_over xs number next
unfolding tested_over
points_at [] r number next e = cc
points_at (x ∷ xs) r number next e = cc

pub none_points : (xs : List ℕ) → None ≡ first_of xs → xs ≡ []
none_points [] e = refl
none_points (x ∷ xs) e = cc
