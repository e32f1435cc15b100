-- Each way in which a stream goes on has its answer, and every stream goes one of them: so each answer has its way.
-- Assumes nothing.
use Prim.Native.Nat.{ℕ, zero, suc, ◌<◌}
use mathlib.Core.Bool.{true, false}
use mathlib.Core.List.{List, [], ◌∷◌, ◌++◌}
use mathlib.Core.Logic.{◌≢◌}
use mathlib.Core.Path.{◌≡◌, refl, sym, ap, ◌∙◌}
use native.Mathlib.Omega.{arith}
use lib.Dec.{T}
use lib.ListN.{length}
use Rattle.network.specs.Lists.{member}
use Rattle.network.proofs.Lists.{every_all, member_mem, mem_member}
use Rattle.topology_types.specs.declared.Answer.{Answer}
use Rattle.topology_types.specs.Outcome.{answer}
use Rattle.stream_rules.specs.declared.Reading.{Reading}
use Rattle.stream_rules.specs.Record.{Record}
use Rattle.stream_rules.specs.Halves.{StreamListing}
use Rattle.stream_rules.specs.Reading.{fault, reading}
use Rattle.stream_rules.specs.Theorems.{success, refused, listed_in, BytesList, RecordBytes, ReadAnswers, ReadNumbers}
use Rattle.stream_rules.proofs.Verdicts.{faults_each}
use Rattle.stream_rules.proofs.InTurn.{reads_in_turn}
use Rattle.stream_rules.proofs.Numbers.{faults}
use Rattle.stream_rules.proofs.Ways.{Way, accepted, cut, unknown, faulty, followed, no_router, way}

answer-of : {a b : Reading} → a ≡ b → a.answer ≡ b.answer
answer-of = ap (λ (x : Reading). x.answer)

-- each way has its answer
module _ {s : List ℕ} {p : StreamListing} (l : BytesList s p) where
  reads_end : 0 < length p.contents.ids → reading (s ++ (3 ∷ [])) ≡ success (listed_in p.contents)
  reads_end some =
      let zero-at = ((faults_each p).at_end false (length s) 0).says_0.1 (refl, refl, some) in
      let lists = (faults_each p).returns false (length s) (ap (λ (a : Answer). a.number) zero-at) in
      (reads_in_turn s p l).end ∙ (λ i. record { answer = zero-at i; topology = lists i })

answered : {stream : List ℕ} {number at : ℕ} → Way stream at number → (reading stream).answer ≡ answer number at
unfolding member
answered (accepted none l is some) = rw (is, none) (answer-of (reads_end l some))
answered (cut {s} {p} {rest} l is there c) = rw (is, there) (answer-of ((reads_in_turn s p l).cut-short rest c))
answered (unknown {s} {p} kind rest l is there u) = rw (is, there) (answer-of ((reads_in_turn s p l).unknown kind u rest))
answered (faulty {number = zero} rest l is there b e m) = absurd m
answered (faulty {s} {p} {bytes} {r} {number = suc number} rest l is there b e m) =
    rw (is, there) (answer-of ((reads_in_turn s p l).faulty bytes r b number e rest))
answered (followed {s} {p} byte rest l is there) =
    rw is (answer-of ((reads_in_turn s p l).end_followed byte rest) ∙ ((faults_each p).at_end true (length s) _).says_11.1 (there, refl))
answered (no_router {s} {p} l is there none) =
    rw is (answer-of (reads_in_turn s p l).end ∙ ((faults_each p).at_end false (length s) _).says_12.1 (there, refl, none))

-- and with a number all zeros beside it
refuses : {stream : List ℕ} {number at : ℕ} → Way stream at number → number ≢ 0 → reading stream ≡ refused number at
unfolding member
refuses (accepted none l is some) other = absurd (other refl)
refuses (cut {s} {p} {rest} l is there c) other = rw (is, there) ((reads_in_turn s p l).cut-short rest c)
refuses (unknown {s} {p} kind rest l is there u) other = rw (is, there) ((reads_in_turn s p l).unknown kind u rest)
refuses (faulty {number = zero} rest l is there b e m) other = absurd (other refl)
refuses (faulty {s} {p} {bytes} {r} {number = suc number} rest l is there b e m) other =
    rw (is, there) ((reads_in_turn s p l).faulty bytes r b number e rest)
refuses (followed {s} {p} byte rest l is there) other =
    let answers = ((faults_each p).at_end true (length s) _).says_11.1 (there, refl) in
    let none = (faults_each p).zeros true (length s) (λ z. omega (arith, sym (ap (λ (a : Answer). a.number) answers) ∙ z)) in
    rw is ((reads_in_turn s p l).end_followed byte rest ∙ (λ i. record { answer = answers i; topology = none i }))
refuses (no_router {s} {p} l is there none) other =
    let answers = ((faults_each p).at_end false (length s) _).says_12.1 (there, refl, none) in
    let empty = (faults_each p).zeros false (length s) (λ z. omega (arith, sym (ap (λ (a : Answer). a.number) answers) ∙ z)) in
    rw is ((reads_in_turn s p l).end ∙ (λ i. record { answer = answers i; topology = empty i }))

-- so an answer has its way
gone : {stream : List ℕ} {number at : ℕ} → (reading stream).answer ≡ answer number at → Way stream at number
gone {stream} e =
    let (k, there, w) = way stream in
    let same = sym (answered w) ∙ e in
    rw (← ap (λ (a : Answer). a.number) same, ← ap (λ (a : Answer). a.at) same) w

-- no fault has number 0
not_zero : (number : ℕ) → T (member number faults) → number ≢ 0
unfolding member
not_zero zero m e = absurd m
not_zero (suc number) m e = omega (arith, e)

by_fault : {stream : List ℕ} {number at : ℕ} → T (member number faults) → Way stream at number →
    (s : List ℕ) × (p : StreamListing) × (bytes : List ℕ) × (r : Record) × (rest : List ℕ) ×
    BytesList s p × (stream ≡ s ++ (bytes ++ rest)) × (at ≡ length s) × RecordBytes bytes r × (fault p r ≡ number)
unfolding member
by_fault m (accepted none l is some) = absurd m
by_fault m (cut l is there c) = absurd m
by_fault m (unknown kind rest l is there u) = absurd m
by_fault m (faulty {s} {p} {bytes} {r} rest l is there b x n) = (s, p, bytes, r, rest, l, is, there, b, x)
by_fault m (followed byte rest l is there) = absurd m
by_fault m (no_router l is there none) = absurd m

pub read_answers : ReadAnswers
unfolding member
read_answers stream at =
    record {
      says_0 = λ t. (
        λ e. elim (gone (answer-of e)) [
          | accepted {s} {p} none l is some ↦ (none, (s, p, l, is, some, ap (λ (x : Reading). x.topology) (sym e ∙ ap reading is ∙ reads_end l some)))
          | faulty rest l is there b x m ↦ absurd m
        ],
        λ (none, (s, p, l, is, some, same)). rw (is, none, same) (reads_end l some),
      );
      says_1 = (
        λ e. elim (gone (answer-of e)) [
          | cut {s} {p} {rest} l is there c ↦ (s, p, rest, l, is, there, c)
          | faulty rest l is there b x m ↦ absurd m
        ],
        λ (s, p, rest, l, is, there, c). refuses (cut l is there c) (λ z. omega (arith, z)),
      );
      says_2 = (
        λ e. elim (gone (answer-of e)) [
          | unknown {s} {p} kind rest l is there u ↦ (s, p, kind, rest, l, is, there, u)
          | faulty rest l is there b x m ↦ absurd m
        ],
        λ (s, p, kind, rest, l, is, there, u). refuses (unknown kind rest l is there u) (λ z. omega (arith, z)),
      );
      says_fault = λ number m. (
        λ e. by_fault (mem_member number faults m) (gone (answer-of e)),
        λ (s, p, bytes, r, rest, l, is, there, b, x). refuses (faulty rest l is there b x (mem_member number faults m)) (λ z. not_zero number (mem_member number faults m) z),
      );
      says_11 = (
        λ e. elim (gone (answer-of e)) [
          | followed {s} {p} byte rest l is there ↦ (s, p, byte, rest, l, is, there)
          | faulty rest l is there b x m ↦ absurd m
        ],
        λ (s, p, byte, rest, l, is, there). refuses (followed byte rest l is there) (λ z. omega (arith, z)),
      );
      says_12 = (
        λ e. elim (gone (answer-of e)) [
          | no_router {s} {p} l is there none ↦ (s, p, l, is, there, none)
          | faulty rest l is there b x m ↦ absurd m
        ],
        λ (s, p, l, is, there, none). refuses (no_router l is there none) (λ z. omega (arith, z)),
      );
    }

abbrev numbers : List ℕ
numbers = 0 ∷ 1 ∷ 2 ∷ 3 ∷ 4 ∷ 5 ∷ 6 ∷ 7 ∷ 8 ∷ 9 ∷ 10 ∷ 11 ∷ 12 ∷ 16 ∷ []

among : {stream : List ℕ} {number at : ℕ} → Way stream at number → T (member number numbers)
unfolding member
among (accepted none l is some) = tt
among (cut l is there c) = tt
among (unknown kind rest l is there u) = tt
among (faulty {number = number} rest l is there b e m) = every_all (λ n. member n numbers) faults tt number (member_mem number faults m)
among (followed byte rest l is there) = tt
among (no_router l is there none) = tt

pub read_numbers : ReadNumbers
read_numbers stream = let (number, at, w) = way stream in rw (ap (λ (a : Answer). a.number) (answered w)) (member_mem number numbers (among w))
