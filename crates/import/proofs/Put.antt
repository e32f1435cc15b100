-- Each of the two texts at the start of its buffer, by the length of the file and the number of what was imported.
-- Assumes nothing.
use Prim.Native.Nat.{ℕ, ◌≤◌, ◌<◌}
use mathlib.Core.List.{List, ◌++◌}
use mathlib.Core.Path.{◌≡◌, ap, sym, ◌∙◌}
use Rattle.std.proofs.Common.{Result, Ok, Err}
use native.Mathlib.Omega.{arith}
use borrow.Author.Tests.{eq-eqb, ne_eqb, le-leb, lt-leb, le-ltb}
use lib.Dec.{T}
use lib.ListN.{length, take, drop, length-append}
use lib.Seq.{take-append_seam, length-sets}
use Rattle.topology_types.specs.declared.Answer.{Answer}
use Rattle.topology_types.specs.Outcome.{Outcome, answer, answer_of, refused, number_of, given}
use Rattle.topology_types.specs.declared.Refusal.{Refusal}
use Rattle.topology_types.specs.declared.Topology.{Topology}
use Rattle.topology_types.proofs.Outcome.{numbered}
use Rattle.stream_rules.specs.declared.Reading.{Reading}
use Rattle.stream_rules.specs.Reading.{reading_of, refusal}
use Rattle.stream_rules.specs.Theorems.{Bytes}
use Rattle.ospf.proofs.Verdict.{import_sound}
use Rattle.topology_sound.specs.Sound.{sound}
use Rattle.topology.specs.Written.{written, writing}
use Rattle.topology.proofs.Outcomes.{writing_exact}
use Rattle.topology.proofs.RoundTrip.{written_long}
use Rattle.text.specs.Inner.{Put}
use Rattle.text.proofs.Stores.{start}
use Rattle.program_io.specs.Output.{refused_line}
use Rattle.program_io.proofs.Right.{refused_length}
use Rattle.ospf.specs.Import.{importing}
use Rattle.import.specs.Inner.{StreamPut}
use Rattle.import.specs.Output.{ends_of, most_file, too_long, imported_stream, complaint_of, import_output, complaint, Writes}

-- a text that was put at the start of a buffer
put_length : {b s : List ℕ} {r : ℕ} {b' : List ℕ} → Put b 0 s r b' → length b' ≡ length b
put_length {b} {s} p = ap length p.stored ∙ length-sets b 0 s

put_taken : {b s : List ℕ} {r : ℕ} {b' : List ℕ} → Put b 0 s r b' → length s ≤ length b → take r b' ≡ s
put_taken {b} {s} {r} {b'} p h = start b s b' r p.stored (omega (arith, p.after)) (omega (arith, p.after))

pub too-long : (file : List ℕ) {stream b b' : List ℕ} {r : ℕ} → most_file < length file → Put b 0 too_long r b' → length b ≡ 50 →
    Writes file (ends_of (Err r)) stream b'
unfolding import_output complaint too_long
too-long file long p room =
    let e = lt-leb (length file) most_file long in
    record {
      output_put = rw e;
      output_fits = omega arith;
      complaint_put = rw e (put_taken p (omega arith));
      complaint_fits = omega (arith, p.after, put_length p);
    }

pub refusal_put : (file : List ℕ) (f : Refusal) {stream b b' : List ℕ} {r : ℕ} → length file ≤ most_file → (importing file).answer ≡ refused f →
    Put b 0 (refused_line (refused f)) r b' → length b ≡ 50 → Writes file (ends_of (Err r)) stream b'
unfolding import_output complaint imported_stream complaint_of
refusal_put file f short is p room =
    let e = le-leb (length file) most_file short in
    let some = ne_eqb (number_of f.fault) 0 (omega (arith, numbered f.fault)) in
    let fits = refused_length (refused f) in
    record {
      output_put = rw (e, is, some);
      output_fits = omega arith;
      complaint_put = rw (e, is, some) (put_taken p (omega arith));
      complaint_fits = omega (arith, p.after, put_length p);
    }

-- what importing gave, by its result
importing_ok : (file : List ℕ) (t : Topology) → reading_of (Ok t) ≡ importing file → (importing file).answer.number ≡ 0
importing_ok file t e = sym (ap (λ (r : Reading). r.answer.number) e)

pub import_refused : (file : List ℕ) (r : Refusal) → reading_of (Err r) ≡ importing file → (importing file).answer ≡ refused r
unfolding refusal
import_refused file r e = sym (ap (λ (r : Reading). r.answer) e)

pub stream_put : (file b : List ℕ) (t : Topology) (r : Result ℕ Refusal) {b' : List ℕ} → Bytes file → length b ≡ 2883 → reading_of (Ok t) ≡ importing file →
    ◌≡◌ {A = Outcome} (record { answer = answer_of r; buffer = b' }) (writing t b) → StreamPut file r b'
unfolding given
stream_put file b t r {b'} bytes room e put =
    let none = importing_ok file t e in
    let topology : (importing file).topology ≡ t = sym (ap (λ (r : Reading). r.topology) e) in
    let good : T (sound t) = rw topology at ((import_sound file bytes).is-sound none) in
    let most = (written_long t good).most in
    let w = rw (le-ltb (length b) (length (written t)) (omega arith)) at (put ∙ (writing_exact t b).of_sound good) in
    let whole : b' ≡ written t ++ drop (length (written t)) b = ap (λ (o : Outcome). o.buffer) w in
    cases r (ap (λ (o : Outcome). o.answer) w) good whole
  where
    cases : (r : Result ℕ Refusal) → answer_of r ≡ answer 0 (length (written t)) → T (sound t) → b' ≡ written t ++ drop (length (written t)) b → StreamPut file r b'
    cases (Ok n) w good whole =
        let long : n ≡ length (written t) = ap (λ (a : Answer). a.at) w in
        let topology : (importing file).topology ≡ t = sym (ap (λ (r : Reading). r.topology) e) in
        (importing_ok file t e, rw (long, whole, topology) (take-append_seam (written t) (drop (length (written t)) b)), omega (arith, ap length whole, length-append (written t) (drop (length (written t)) b)))
    cases (Err f) w good whole =
        let none : number_of f.fault ≡ 0 = ap (λ (a : Answer). a.number) w in
        absurd (omega (arith, numbered f.fault))

pub imported : (file : List ℕ) {end : ℕ} {b line : List ℕ} → length file ≤ most_file → StreamPut file (Ok end) b → Writes file (ends_of (Ok end)) b line
unfolding import_output complaint imported_stream complaint_of
imported file short p =
    let e = le-leb (length file) most_file short in
    let f = eq-eqb (importing file).answer.number 0 p.0 in
    record { output_put = rw (e, f) p.1; output_fits = p.2; complaint_put = rw (e, f); complaint_fits = omega arith }
