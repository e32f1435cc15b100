-- The tests are decided one after the other, so that one of the cases holds, and each case has its own outcome.
-- Assumes nothing.
use Prim.Native.Nat.{ℕ, ◌+◌, ◌*◌, ◌≤◌, ◌<◌}
use mathlib.Core.Bool.{cond}
use mathlib.Core.List.{List, ◌++◌}
use mathlib.Core.Logic.{◌≢◌, ◌⊎◌, inl, inr}
use mathlib.Core.Path.{◌≡◌, refl, sym, ap, ◌∙◌, subst}
use native.Mathlib.Decide.{dec_lt}
use native.Mathlib.Omega.{arith}
use borrow.Author.Tests.{lt-ltb, le-ltb}
use lib.Dec.{T, ltb}
use lib.ListN.{length, drop, length-append, length-drop, get_or-append}
use lib.Seq.{drop-append_seam}
use Rattle.network.proofs.Tests.{truth}
use Rattle.topology_types.specs.declared.Answer.{Answer}
use Rattle.topology_types.specs.declared.Topology.{Topology}
use Rattle.topology_types.specs.Outcome.{answer, Outcome, turned_away, given}
use Rattle.topology_sound.specs.Sound.{sound}
use Rattle.topology_sound.proofs.Place.{on_place_unsound, on_place_outside, on_place_next}
use Rattle.topology.specs.Written.{joined_over}
use Rattle.table.specs.Calls.{unless_refused, table_checking}
use Rattle.forwarding_rules.proofs.Tested.{Kind, kind}
use Rattle.paths_rules.specs.Calls.{paths_of, paths_bytes, writing_paths}
use Rattle.paths_rules.specs.Theorems.{Passed, PathsSay, says_14, says_15, says_21, says_25, says_24, says_0, PathsAnswer, RefusalsKeep, PathsGiven, PathsWritten}
use Rattle.paths_rules.specs.Theorems.{CutOffNoPath}
use Rattle.paths_rules.proofs.Right.{no_paths}
use Rattle.paths_rules.proofs.Bytes.{bytes_long, path_short, byte_place, byte_padding}

module _ (t : Topology) (table : List ℕ) (u : ℕ) (buffer : List ℕ) where
  abbrev many : ℕ
  many = length (paths_of t table u)

  abbrev written : Outcome
  written = writing_paths t table u buffer

  -- once 14, 15 and 21 have passed
  pub on_passed : Passed t table u → written ≡ cond (ltb 512 many) (turned_away 25 u buffer) (given (paths_bytes t table u) buffer)
  unfolding writing_paths unless_refused
  on_passed p = on_place_next _ t u _ p.is-sound p.place ∙ rw p.accepted

  long : Passed t table u → length (paths_bytes t table u) ≡ 64 * many
  long p = bytes_long t p.is-sound table p.accepted u p.place

  -- what each case leaves
  left : {number at : ℕ} → PathsSay t table u buffer number at → List ℕ
  left (says_14 out) = buffer
  left (says_15 good past) = buffer
  left (says_21 good place at e) = buffer
  left (says_25 p more) = buffer
  left (says_24 p few short) = buffer
  left (says_0 p few room) = paths_bytes t table u ++ drop (64 * many) buffer

  outcome : {number at : ℕ} (s : PathsSay t table u buffer number at) → written ≡ record { answer = answer number at; buffer = left s }
  unfolding writing_paths unless_refused turned_away given left
  outcome (says_14 out) = on_place_unsound _ t u _ out
  outcome (says_15 good past) = on_place_outside _ t u _ good past
  outcome (says_21 good place at e) = on_place_next _ t u _ good place ∙ rw e
  outcome (says_25 p more) = on_passed p ∙ rw (lt-ltb _ _ more)
  outcome (says_24 p few short) = on_passed p ∙ rw (le-ltb _ _ few, long p, lt-ltb _ _ short)
  outcome (says_0 p few room) = on_passed p ∙ rw (le-ltb _ _ few, long p, le-ltb _ _ room)

  -- one of them holds
  abbrev One : Type 0
  One = (number : ℕ) × (at : ℕ) × PathsSay t table u buffer number at

  by_room : (p : Passed t table u) → many ≤ 512 → Dec (length buffer < 64 * many) → One
  by_room p few (yes short) = (24, _, says_24 p few short)
  by_room p few (no h) = (0, _, says_0 p few (omega arith))

  by_count : (p : Passed t table u) → Dec (512 < many) → One
  by_count p (yes more) = (25, u, says_25 p more)
  by_count p (no h) = by_room p (omega arith) (dec_lt (length buffer) (64 * many))

  by-table : T (sound t) → u < t.routers → Kind (table_checking t table) → One
  by-table good place (inl e) = by_count (record { is-sound = good; place = place; accepted = e }) (dec_lt 512 many)
  by-table good place (inr (at, e)) = (21, at, says_21 good place at e)

  by_place : T (sound t) → Dec (u < t.routers) → One
  by_place good (yes place) = by-table good place (kind t good table)
  by_place good (no h) = (15, u, says_15 good (omega arith))

  one : One
  one = step (truth (sound t))
    where
      step : T (sound t) ⊎ (T (sound t) → ⊥) → One
      step (inl good) = by_place good (dec_lt u t.routers)
      step (inr out) = (14, 0, says_14 out)

  -- the answer tells which
  only : {n a number at : ℕ} → PathsSay t table u buffer n a → written.answer ≡ answer number at → PathsSay t table u buffer number at
  only {n} {a} {number} s e =
      let same : answer n a ≡ answer number _ = sym (ap (λ (o : Outcome). o.answer) (outcome s)) ∙ e in
      subst (PathsSay t table u buffer number) (ap (λ (x : Answer). x.at) same)
      (subst (λ (k : ℕ). PathsSay t table u buffer k a) (ap (λ (x : Answer). x.number) same) s)

  -- a refusal leaves the buffer
  kept : {number at : ℕ} (s : PathsSay t table u buffer number at) → number ≢ 0 → left s ≡ buffer
  unfolding left
  kept (says_14 out) off = refl
  kept (says_15 good past) off = refl
  kept (says_21 good place at e) off = refl
  kept (says_25 p more) off = refl
  kept (says_24 p few short) off = refl
  kept (says_0 p few room) off = absurd (off refl)

  -- success leaves the paths, each in its place
  stands : {number at : ℕ} → PathsSay t table u buffer number at → number ≡ 0 → PathsGiven t table u buffer
  unfolding left
  stands (says_14 out) e = absurd (omega arith)
  stands (says_15 good past) e = absurd (omega arith)
  stands (says_21 good place at c) e = absurd (omega arith)
  stands (says_25 p more) e = absurd (omega arith)
  stands (says_24 p few short) e = absurd (omega arith)
  stands (says_0 p few room) e =
      let is = ap (λ (o : Outcome). o.buffer) (outcome (says_0 p few room)) in
      let at = byte_place t p.is-sound table p.accepted u p.place in
      let padding = byte_padding t p.is-sound table p.accepted u p.place in
      let bytes = paths_bytes t table u in
      let rest = drop (64 * many) buffer in
      record {
        places = λ i j h k.
            let short = path_short t p.is-sound table p.accepted u p.place i h in
            rw is (get_or-append bytes rest 0 (64 * i + j) (omega (arith, long p)) ∙ at i h j k);
        padding = λ i j h past k. rw is (get_or-append bytes rest 0 (64 * i + j) (omega (arith, long p)) ∙ padding i h j past k);
        rest = rw (is, ← long p) (drop-append_seam bytes (drop (length bytes) buffer));
        long = rw is (simp (length-append, length-drop) (omega (arith, long p)));
      }

pub paths_answer : PathsAnswer
paths_answer t table u buffer number at =
    (λ e. only t table u buffer (one t table u buffer).2 e, λ s. ap (λ (o : Outcome). o.answer) (outcome t table u buffer s))

pub refusals_keep : RefusalsKeep
refusals_keep t table u buffer off =
    let (number, at, s) = one t table u buffer in
    let is = outcome t table u buffer s in
    ap (λ (o : Outcome). o.buffer) is ∙ kept t table u buffer s (λ e. off (ap (λ (o : Outcome). o.answer.number) is ∙ e))

pub paths_written : PathsWritten
paths_written t table u buffer e =
    let (number, at, s) = one t table u buffer in
    stands t table u buffer s (sym (ap (λ (o : Outcome). o.answer.number) (outcome t table u buffer s)) ∙ e)

-- no paths are no bytes, for which every buffer has room
pub cut_off_no_path : CutOffNoPath
unfolding paths_bytes joined_over given
cut_off_no_path t good table right u place out =
    let none = no_paths t good table right u out in
    record {
      none = none;
      writes_nothing = λ buffer.
          on_passed t table u buffer (record { is-sound = good; place = place; accepted = right }) ∙ rw (none, le-ltb (length buffer) 0 (omega arith));
    }
