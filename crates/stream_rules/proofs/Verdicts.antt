-- What each number of a record's fault says, and each answer at the end record.
-- Assumes nothing.
use Prim.Native.Nat.{ℕ, ◌+◌, ◌≤◌, ◌<◌}
use mathlib.Core.Bool.{Bool, true, false, cond, false≢true}
use mathlib.Core.List.{Memᴰ}
use mathlib.Core.Logic.{◌≢◌, ◌↔◌}
use mathlib.Core.Path.{◌≡◌, refl, sym, ap}
use native.Mathlib.Omega.{arith}
use borrow.Author.Tests.{leb-false, eqb-false}
use lib.Dec.{eqb, leb, eqb→eq, leb→le}
use lib.ListN.{length}
use Rattle.network.specs.Lists.{member}
use Rattle.network.proofs.Tests.{as_false}
use Rattle.network.proofs.Lists.{member_mem, mem_member}
use Rattle.topology_types.specs.declared.Answer.{Answer}
use Rattle.topology_types.specs.Topology.{Contents, padded, no_link, held, zeros}
use Rattle.topology_types.specs.Outcome.{answer}
use Rattle.topology_sound.specs.Sound.{within}
use Rattle.stream_rules.specs.declared.Reading.{Reading}
use Rattle.stream_rules.specs.Halves.{StreamListing}
use Rattle.stream_rules.specs.Reading.{refusal, accepted_reading, router_fault_lem, fault, ended}
use Rattle.stream_rules.specs.Theorems.{RouterFaults, all_zeros, listed_in, LimitFaults, EndFaults, FaultsEach}
use Rattle.stream_rules.proofs.Decides.{Decides, holds, fails, decide, both, most, later, neither, found, past, Left, next, says, ends}
use Rattle.stream_rules.proofs.HalfVerdicts.{half_faults, link_faults}

module _ (p : StreamListing) where
  listed : (id : ℕ) → Decides (Memᴰ id p.contents.ids) (Memᴰ id p.contents.ids → ⊥) (member id p.contents.ids)
  listed id = decide (member id p.contents.ids) (member_mem id p.contents.ids) (λ o m. o (mem_member id p.contents.ids m)) (λ o m. o m)

  router_faults : (id : ℕ) → RouterFaults p id
  unfolding fault router_fault_lem
  router_faults id =
      let full = most 64 (length p.contents.ids) in
      let from-4 : ℕ = cond (leb 64 (length p.contents.ids)) 4 0 in
      let left : Left (router_fault_lem p.contents id) from-4 3 (Memᴰ id p.contents.ids → ⊥) = past (omega arith) (listed id) in
      record {
        says_3 = found (omega arith) (listed id) (later full (omega arith) (λ s. omega arith));
        says_4 = says left (omega arith) full (λ s. omega arith);
        says_0 = ends (next left (omega arith) full);
      }

  limit_faults : (k : ℕ) → LimitFaults p k
  unfolding fault within
  limit_faults k = let d = both none (most k 16) in record { says_16 = (cases d).0; says_0 = (cases d).1 }
    where
      none : Decides (1 ≤ k) (k ≡ 0) (leb 1 k)
      none = decide (leb 1 k) (leb→le 1 k) (λ o. omega (arith, leb-false 1 k (as_false (leb 1 k) o))) (λ e h. omega arith)

      cases : {P Q : Type 0} {b : Bool} → Decides P Q b → ((◌≡◌ {A = ℕ} (cond b 0 16) 16) ↔ Q) × ((◌≡◌ {A = ℕ} (cond b 0 16) 0) ↔ P)
      cases (holds x o) = (neither (λ e. omega (arith, e)) o, (λ e. x, λ y. refl))
      cases (fails q o) = ((λ e. q, λ y. refl), neither (λ e. omega (arith, e)) o)

number_of : {a b : Answer} → a ≡ b → a.number ≡ b.number
number_of = ap (λ (x : Answer). x.number)

at_of : {a b : Answer} → a ≡ b → b.at ≡ a.at
at_of e = sym (ap (λ (x : Answer). x.at) e)

module _ (c : Contents) (p : ℕ) where
  -- by the two tests
  by_tests : (at : ℕ) {follows none : Bool} → Decides (follows ≡ true) (follows ≡ false) follows →
      Decides (length c.ids ≡ 0) (0 < length c.ids) none →
      EndFaults c follows at p (cond follows (refusal 11 (at + 1)) (cond none (refusal 12 at) (accepted_reading c))).answer
  unfolding refusal accepted_reading
  by_tests at (holds e o) d =
      record {
        says_11 = (λ a. (at_of a, e), λ (z, f). ap (answer 11) (sym z));
        says_12 = neither (λ a. omega (arith, number_of a)) (λ (z, f, n). o f);
        says_0 = neither (λ a. omega (arith, number_of a)) (λ (z, f, h). o f);
      }
  by_tests at (fails e o) (holds n o') =
      record {
        says_11 = neither (λ a. omega (arith, number_of a)) (λ (z, f). o f);
        says_12 = (λ a. (at_of a, e, n), λ (z, f, n'). ap (answer 12) (sym z));
        says_0 = neither (λ a. omega (arith, number_of a)) (λ (z, f, h). o' h);
      }
  by_tests at (fails e o) (fails h o') =
      record {
        says_11 = neither (λ a. omega (arith, number_of a)) (λ (z, f). o f);
        says_12 = neither (λ a. omega (arith, number_of a)) (λ (z, f, n). o' n);
        says_0 = (λ a. (at_of a, e, h), λ (z, f, k). ap (answer 0) (sym z));
      }

  follows_test : (follows : Bool) → Decides (follows ≡ true) (follows ≡ false) follows
  follows_test true = holds refl (λ e. false≢true (sym e))
  follows_test false = fails refl (λ e. false≢true e)

  none_test : Decides (length c.ids ≡ 0) (0 < length c.ids) (eqb (length c.ids) 0)
  none_test =
      let n = length c.ids in
      decide (eqb n 0) (eqb→eq n 0) (λ o. omega (arith, eqb-false n 0 (as_false (eqb n 0) o))) (λ h e. omega arith)

  end_faults : (follows : Bool) (at : ℕ) → EndFaults c follows at p (ended follows at c).answer
  unfolding ended
  end_faults follows at = by_tests at (follows_test follows) none_test

-- a reading that is not refused passed every test, and returns what is listed
module _ (c : Contents) (at : ℕ) where
  by_cases : (follows none : Bool) (r : Reading) → r ≡ cond follows (refusal 11 (at + 1)) (cond none (refusal 12 at) (accepted_reading c)) →
      r.answer.number ≡ 0 → r.topology ≡ listed_in c
  unfolding refusal accepted_reading held padded no_link
  by_cases true none r e z = absurd (omega (arith, ap (λ (x : Reading). x.answer.number) e))
  by_cases false true r e z = absurd (omega (arith, ap (λ (x : Reading). x.answer.number) e))
  by_cases false false r e z = ap (λ (x : Reading). x.topology) e

  returned : (follows : Bool) → (ended follows at c).answer.number ≡ 0 → (ended follows at c).topology ≡ listed_in c
  unfolding ended
  returned follows z = by_cases follows (eqb (length c.ids) 0) _ refl z

  zeros_by : (follows none : Bool) (r : Reading) → r ≡ cond follows (refusal 11 (at + 1)) (cond none (refusal 12 at) (accepted_reading c)) →
      r.answer.number ≢ 0 → r.topology ≡ all_zeros
  unfolding refusal accepted_reading zeros held padded no_link
  zeros_by true none r e z = ap (λ (x : Reading). x.topology) e
  zeros_by false true r e z = ap (λ (x : Reading). x.topology) e
  zeros_by false false r e z = absurd (z (ap (λ (x : Reading). x.answer.number) e))

  all-zeros : (follows : Bool) → (ended follows at c).answer.number ≢ 0 → (ended follows at c).topology ≡ all_zeros
  unfolding ended
  all-zeros follows z = zeros_by follows (eqb (length c.ids) 0) _ refl z

pub faults_each : FaultsEach
unfolding fault
faults_each p =
    record {
      routers = router_faults p;
      links = link_faults p;
      halves = half_faults p;
      limits = limit_faults p;
      refused = λ number. refl;
      end = refl;
      at_end = λ follows at place. end_faults p.contents place follows at;
      returns = λ follows at. returned p.contents at follows;
      zeros = λ follows at. all-zeros p.contents at follows;
    }
