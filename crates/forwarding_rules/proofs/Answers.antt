-- What each refusal of a hop and of a walk says and when it is given: the tests of the topology and of the start or the packet, then those with which
-- both end, each by the law on one test.
-- Assumes nothing.
use Prim.Native.Nat.{ℕ, ◌≤◌, ◌<◌}
use mathlib.Core.List.{List, Memᴰ}
use mathlib.Core.Logic.Iff
use mathlib.Core.Logic.{◌↔◌, ◌⊎◌, inl, inr, ⊎_elim}
use mathlib.Core.Path.{◌≡◌, refl}
use native.Mathlib.Omega.{arith}
use lib.Dec.{T, eqb, ltb, eqb→eq}
use lib.ListN.{length}
use Rattle.network.specs.Forwarding as network
use Rattle.network.specs.Forwarding.{Packet, start, hop, walk}
use Rattle.network.proofs.Tests.{eq_test}
use Rattle.topology_types.specs.declared.Topology.{Topology}
use Rattle.topology_types.specs.Outcome.{answer}
use Rattle.topology_sound.specs.Sound.{sound}
use Rattle.topology_sound.specs.Place.{on_place}
use Rattle.table.specs.Calls.{table_checking}
use Rattle.forwarding_rules.specs.Schedule.{rows_in, sound_length}
use Rattle.forwarding_rules.specs.Calls.{Said, done, refused, by, tested, hopping, walking}
use Rattle.forwarding_rules.specs.Theorems.{PacketStands, WholeRows, HopAnswers, HopsAnswer, WalkAnswers, WalksAnswer}
use Rattle.forwarding_rules.proofs.Schedules.{sound-length}
use Rattle.forwarding_rules.proofs.Tested.{clash, Decides, decides, decides_below, pass, stop, fork, numbers, points, flat_three, flat_four, flat_five, ending, Ends, ends}

-- 01, Refusals: the numbers that a hop and a walk refuse with
abbrev Refuses : ℕ → Type 0
Refuses number = (number ≡ 14) ⊎ ((number ≡ 15) ⊎ ((number ≡ 21) ⊎ ((number ≡ 22) ⊎ (number ≡ 23))))

sound_tested : (t : Topology) → Decides (sound t) (T (sound t)) (T (sound t) → ⊥)
sound_tested t = decides (λ s. s, λ s. s)

module _ (t : Topology) (table states : List ℕ) (p : Packet ℕ) where
  abbrev hop_ending : Said (network.Hop ℕ)
  hop_ending = ending t table (eqb (length states) t.links) (length states ≡ t.links) states (hop (by t table) states p)

  hop_ends : T (sound t) → Ends t table (eqb (length states) t.links) (length states ≡ t.links) states (hop (by t table) states p)
  hop_ends good = ends t table _ _ states _ good (decides (eqb→eq (length states) t.links, eq_test))

  abbrev hops_tested : Said (network.Hop ℕ)
  hops_tested = tested (ltb p.hops t.routers) 15 p.hops hop_ending

  abbrev packet_tested : Said (network.Hop ℕ)
  packet_tested = tested (ltb p.station t.routers) 15 p.station hops_tested

  packet_numbers : T (sound t) → (R : ℕ → Type 0) → R 15 → R 21 → R 22 → R 23 → (number at : ℕ) → packet_tested ≡ refused number at → R number
  packet_numbers good R is_15 is-21 is-22 is-23 =
      numbers 15 p.station hops_tested (decides_below p.station t.routers) R (λ out. is_15)
      (λ s. numbers 15 p.hops hop_ending (decides_below p.hops t.routers) R (λ out. is_15)
      (λ h. (hop_ends good).numbers_are R is-21 is-22 is-23))

  -- what neither 14 nor 15 is, is said where the topology is sound, the packet stands, and the tests of the table and the states end so
  standing : {r : Said (network.Hop ℕ)} {Y : Type 0} → (refused 14 0 ≡ r → ⊥) → ((at : ℕ) → refused 15 at ≡ r → ⊥) →
      (T (sound t) → (hop_ending ≡ r) ↔ Y) → (hopping t table states p ≡ r) ↔ (PacketStands t p × Y)
  unfolding hopping on_place tested
  standing not-14 not-15 on =
      Iff.trans
      (pass 14 0 packet_tested (sound_tested t) (λ out. not-14)
      (λ good. pass 15 p.station hops_tested (decides_below p.station t.routers) (λ out. not-15 _)
      (λ s. pass 15 p.hops hop_ending (decides_below p.hops t.routers) (λ out. not-15 _) (λ h. on good))))
      (λ (good, (s, (h, y))). (record { is-sound = good; station = s; hops = h }, y), λ (s, y). (s.is-sound, (s.station, (s.hops, y))))

  pub hops_done : (h : network.Hop ℕ) → (hopping t table states p ≡ done h)
      ↔ (PacketStands t p × ((table_checking t table ≡ answer 0 0) × ((length states ≡ t.links)
      × (((b : ℕ) → Memᴰ b states → b ≤ 1) × (hop (by t table) states p ≡ h)))))
  hops_done h = standing (λ s. clash (cc)) (λ a s. clash (cc)) (λ good. (hop_ends good).ends_done h)

  hop_answers : (at : ℕ) → HopAnswers t table states p at
  unfolding hopping on_place tested
  hop_answers at =
      record {
        says_14 =
            stop 14 0 packet_tested (sound_tested t)
            (λ good s. omega (arith, packet_numbers good (λ n. 14 < n) (omega arith) (omega arith) (omega arith) (omega arith) 14 at s))
            (λ (out, s). ((cc), out), λ (e, out). (out, (cc)));
        says_15 =
            pass 14 0 packet_tested (sound_tested t) (λ out s. clash (cc))
            (λ good. Iff.trans
            (fork 15 p.station hops_tested (decides_below p.station t.routers) (points 15 p.station at)
            (λ h. stop 15 p.hops hop_ending (decides_below p.hops t.routers)
            (λ h s. omega (arith, (hop_ends good).numbers_are (λ n. 15 < n) (omega arith) (omega arith) (omega arith) 15 at s))
            (points 15 p.hops at)))
            (⊎_elim (λ e. inl e) (λ h. inr (flat_three.0 h)), ⊎_elim (λ e. inl e) (λ h. inr (flat_three.1 h))));
        says_21 = standing (λ s. clash (cc)) (λ a s. clash (cc)) (λ good. (hop_ends good).ends_21 at);
        says_22 = Iff.trans (standing (λ s. clash (cc)) (λ a s. clash (cc)) (λ good. (hop_ends good).ends_22 at)) flat_four;
        says_23 = Iff.trans (standing (λ s. clash (cc)) (λ a s. clash (cc)) (λ good. (hop_ends good).ends_23 at)) flat_four;
        no_other = λ number.
            numbers 14 0 packet_tested (sound_tested t) Refuses (λ out. inl refl)
            (λ good. packet_numbers good Refuses (inr (inl refl)) (inr (inr (inl refl))) (inr (inr (inr (inl refl)))) (inr (inr (inr (inr refl))))) number at;
      }

pub hops_answer : HopsAnswer
hops_answer = hop_answers

module _ (t : Topology) (table : List ℕ) (u : ℕ) (schedule : List ℕ) where
  abbrev walk_ending : Said (network.Walk ℕ)
  walk_ending =
      ending t table (sound_length t.routers t.links (length schedule)) (WholeRows t schedule) schedule
      (walk (by t table) (rows_in t.routers t.links schedule) (start u))

  walk_ends : T (sound t) → Ends t table (sound_length t.routers t.links (length schedule)) (WholeRows t schedule) schedule
      (walk (by t table) (rows_in t.routers t.links schedule) (start u))
  walk_ends good = ends t table _ _ schedule _ good (decides (sound-length t schedule))

  abbrev start_tested : Said (network.Walk ℕ)
  start_tested = tested (ltb u t.routers) 15 u walk_ending

  start_numbers : T (sound t) → (R : ℕ → Type 0) → R 15 → R 21 → R 22 → R 23 → (number at : ℕ) → start_tested ≡ refused number at → R number
  start_numbers good R is_15 is-21 is-22 is-23 =
      numbers 15 u walk_ending (decides_below u t.routers) R (λ out. is_15) (λ s. (walk_ends good).numbers_are R is-21 is-22 is-23)

  -- the same of a walk and its start
  starting : {r : Said (network.Walk ℕ)} {Y : Type 0} → (refused 14 0 ≡ r → ⊥) → ((at : ℕ) → refused 15 at ≡ r → ⊥) →
      (T (sound t) → (walk_ending ≡ r) ↔ Y) → (walking t table u schedule ≡ r) ↔ (T (sound t) × ((u < t.routers) × Y))
  unfolding walking on_place tested
  starting not-14 not-15 on =
      pass 14 0 start_tested (sound_tested t) (λ out. not-14)
      (λ good. pass 15 u walk_ending (decides_below u t.routers) (λ out. not-15 _) (λ s. on good))

  pub walks_done : (w : network.Walk ℕ) → (walking t table u schedule ≡ done w)
      ↔ (T (sound t) × ((u < t.routers) × ((table_checking t table ≡ answer 0 0) × (WholeRows t schedule
      × (((b : ℕ) → Memᴰ b schedule → b ≤ 1) × (walk (by t table) (rows_in t.routers t.links schedule) (start u) ≡ w))))))
  walks_done w = starting (λ s. clash (cc)) (λ a s. clash (cc)) (λ good. (walk_ends good).ends_done w)

  walk_answers : (at : ℕ) → WalkAnswers t table u schedule at
  unfolding walking on_place tested
  walk_answers at =
      record {
        says_14 =
            stop 14 0 start_tested (sound_tested t)
            (λ good s. omega (arith, start_numbers good (λ n. 14 < n) (omega arith) (omega arith) (omega arith) (omega arith) 14 at s))
            (λ (out, s). ((cc), out), λ (e, out). (out, (cc)));
        says_15 =
            Iff.trans
            (pass 14 0 start_tested (sound_tested t) (λ out s. clash (cc))
            (λ good. stop 15 u walk_ending (decides_below u t.routers)
            (λ h s. omega (arith, (walk_ends good).numbers_are (λ n. 15 < n) (omega arith) (omega arith) (omega arith) 15 at s)) (points 15 u at)))
            flat_three;
        says_21 = Iff.trans (starting (λ s. clash (cc)) (λ a s. clash (cc)) (λ good. (walk_ends good).ends_21 at)) flat_three;
        says_22 = Iff.trans (starting (λ s. clash (cc)) (λ a s. clash (cc)) (λ good. (walk_ends good).ends_22 at)) flat_five;
        says_23 = Iff.trans (starting (λ s. clash (cc)) (λ a s. clash (cc)) (λ good. (walk_ends good).ends_23 at)) flat_five;
        no_other = λ number.
            numbers 14 0 start_tested (sound_tested t) Refuses (λ out. inl refl)
            (λ good. start_numbers good Refuses (inr (inl refl)) (inr (inr (inl refl))) (inr (inr (inr (inl refl)))) (inr (inr (inr (inr refl))))) number at;
      }

pub walks_answer : WalksAnswer
walks_answer = walk_answers
