-- The output goes by the reading's number, and a reading with number 0 has a sound topology; the line of a refused stream has room for its longest numbers.
-- Assumes nothing.
use Prim.Native.Nat.{ℕ, suc, ◌≤◌}
use mathlib.Core.List.Memᴰ
use mathlib.Core.List.{List, [], ◌∷◌, append_assoc}
use mathlib.Core.Logic.{⊎_elim}
use mathlib.Core.Path.{◌≡◌, refl, sym, ap}
use mathlib.Core.Bool.{Bool, true, false, cond}
use native.Mathlib.Omega.{arith}
use borrow.Author.Tests.{eq-eqb, ne_eqb, eqb-true}
use lib.Dec.{T, eqb}
use Rattle.std.proofs.Common.{Ok, Err, Fits, w8}
use lib.ListN.{length, get_or}
use Rattle.topology_types.specs.declared.Answer.{Answer}
use Rattle.topology_types.specs.Outcome.{number_of, refused}
use Rattle.topology_types.specs.declared.Refusal.{Refusal}
use Rattle.topology_types.specs.declared.Topology.{Topology}
use Rattle.topology_types.proofs.Outcome.{numbered}
use Rattle.topology_sound.specs.Sound.{sound}
use Rattle.stream_rules.specs.declared.Reading.{Reading}
use Rattle.stream_rules.specs.Reading.{reading, reading_of, refusal}
use Rattle.stream_rules.specs.Theorems.{Bytes}
use Rattle.stream_rules.proofs.Returned.{reads_sound}
use Rattle.text.specs.Lines.{refused_word, answer_text, answer_line, word_line}
use Rattle.text.proofs.Texts.{word_line_length}
use Rattle.program_io.specs.Output.{refused_line, printed, output_by}
use Rattle.program_io.specs.Theorems.{AllPrint}

pub all_print : AllPrint
unfolding output_by printed refused_line word_line refused_word answer_line answer_text
all_print text stream =
    record {
      refused = λ some. rw (ne_eqb (reading stream).answer.number 0 some, append_assoc);
      read = λ none. rw (eq-eqb (reading stream).answer.number 0 none);
    }

pub refused_length : (a : Answer) → length (refused_line a) ≤ 50
unfolding refused_line refused_word
refused_length a = omega (arith, word_line_length refused_word a.number a.at)

-- the elements of a slice are bytes
pub bytes : (s : List ℕ) → ((i : ℕ) → Fits w8 (get_or s i 0)) → Bytes s
bytes [] h b m = absurd (Memᴰ.not-nil m)
bytes (x ∷ s) h b m = ⊎_elim (λ e. rw e (omega (arith, h 0))) (bytes s (λ i. h (suc i)) b) (Memᴰ.cases_cons m)

-- a topology that was read is sound
pub read_sound : (s : List ℕ) → ((i : ℕ) → Fits w8 (get_or s i 0)) → (t : Topology) → reading_of (Ok t) ≡ reading s → T (sound t)
read_sound s h t e =
    let topology : (reading s).topology ≡ t = sym (ap (λ (r : Reading). r.topology) e) in
    let number : (reading s).answer.number ≡ 0 = sym (ap (λ (r : Reading). r.answer.number) e) in
    rw topology at ((reads_sound s (bytes s h)).is-sound number)

module _ (text : Topology → List ℕ) (s : List ℕ) where
  pub output_read : (t : Topology) → reading_of (Ok t) ≡ reading s → output_by text s ≡ text t
  unfolding output_by printed
  output_read t e = rw (← e)

  pub output_refused : (r : Refusal) → reading_of (Err r) ≡ reading s → output_by text s ≡ refused_line (refused r)
  unfolding output_by printed refusal
  output_refused r e = let some = ne_eqb (number_of r.fault) 0 (omega (arith, numbered r.fault)) in rw (← e, some)

  -- room for every text, and for the line of a refusal, is room for the output
  pub output_most : (most : ℕ) → 50 ≤ most → ((t : Topology) → T (sound t) → length (text t) ≤ most) → ((i : ℕ) → Fits w8 (get_or s i 0)) → length (output_by text s) ≤ most
  unfolding output_by printed
  output_most most h fits b = cases (eqb (reading s).answer.number 0) refl
    where
      cases : (z : Bool) → eqb (reading s).answer.number 0 ≡ z → length (cond z (text (reading s).topology) (refused_line (reading s).answer)) ≤ most
      cases true e = fits (reading s).topology ((reads_sound s (bytes s b)).is-sound (eqb-true (reading s).answer.number 0 e))
      cases false e = omega (arith, refused_length (reading s).answer)
