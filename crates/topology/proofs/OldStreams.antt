-- A record 8 in front moves the reading two bytes on and sets K. No test looks at K, so the records after it are taken alike: the two readings differ in
-- where a refusal points, and in the K that is held where no record 8 follows.
-- Assumes nothing.
use Prim.Native.Nat.{ℕ, zero, suc, ◌+◌, ◌<◌}
use mathlib.Core.Bool.{Bool, true, false, cond, true≢false}
use mathlib.Core.List.Memᴰ
use mathlib.Core.List.{List, [], ◌∷◌, Memᴰ}
use mathlib.Core.Logic.{◌≢◌, ⊎_elim}
use mathlib.Core.Path.{◌≡◌, refl, sym, ap, ◌∙◌}
use native.Mathlib.Omega.{arith}
use borrow.Author.Tests.{lt-ltb, le-ltb}
use lib.Dec.{eqb}
use lib.ListN.{length, drop, drop_of_length-le}
use lib.Seq.{take-append_seam}
use Rattle.topology_types.specs.declared.Half.{Half}
use Rattle.topology_types.specs.declared.Topology.{Topology}
use Rattle.topology_types.specs.Outcome.{turned_away, given}
use Rattle.topology_types.specs.Topology.{Contents, no_link, padded, held, zeros}
use Rattle.topology_sound.specs.Sound.{within}
use Rattle.stream_rules.specs.declared.Reading.{Reading}
use Rattle.stream_rules.specs.Record.{Record}
use Rattle.stream_rules.specs.Record as record_of
use Rattle.stream_rules.specs.Stream.{body_length, records}
use Rattle.stream_rules.specs.Halves.{StreamListing, halves}
use Rattle.stream_rules.specs.Reading.{refusal, accepted_reading, router_fault_lem, repeated, crowded, halves_fault_lem, fault, with_router, with_link, with_limit, arrived, added}
use Rattle.stream_rules.specs.Reading.{width, is_end, ended, unless, any_record?, in_turn, nothing_listed, reading}
use Rattle.stream_rules.specs.Theorems.{success, refused}
use Rattle.stream_rules.proofs.InTurn.{next_router, next_link, next_half, next_limit, next_unknown, next_end, next_cut, goes_on}
use Rattle.stream_rules.proofs.Stream.{records_drop, no_bytes}
use Rattle.topology.specs.OldLimit.{with_old_limit_lem}
use Rattle.topology.specs.Theorems.{HelpExact, Cut, sixteen, read_before, OldStreamsRead}

pub help_exact : HelpExact
unfolding with_old_limit_lem given turned_away
help_exact stream buffer =
    let long : length stream + 2 ≡ suc (suc (length stream)) = omega arith in record {
      no_room = λ h. rw (long, lt-ltb (length buffer) (suc (suc (length stream))) (omega arith));
      success = λ h. rw (long, le-ltb (length buffer) (suc (suc (length stream))) (omega arith));
      made = λ h.
          rw (long, le-ltb (length buffer) (suc (suc (length stream))) (omega arith))
          (ap (λ (s : List ℕ). 8 ∷ 16 ∷ s) (take-append_seam stream (drop (suc (suc (length stream))) buffer)));
    }

-- a body that is cut short is the last record
cut-short : (kind : ℕ) (body : List ℕ) → length body < body_length kind → records 0 (kind ∷ body) ≡ record_of.Refused 1 ∷ []
cut-short kind body h =
    next_cut kind body h ∙ ap (λ rs. record_of.Refused 1 ∷ rs) (records_drop (body_length kind) body ∙ rw (drop_of_length-le body {i = body_length kind} (omega arith)) no_bytes)

records_cut : Cut
unfolding body_length
records_cut = record {
  none = no_bytes;
  router = next_router;
  link = next_link;
  half = next_half;
  limit = next_limit;
  end = next_end;
  router_cut = cut-short 1;
  link_cut = cut-short 2;
  half_cut = cut-short 4;
  limit_cut = cut-short 8 [] (omega arith);
  unknown = next_unknown;
}

-- what is listed, with K 16
sixteen_in : StreamListing → StreamListing
sixteen_in p = record { contents = with_limit p.contents 16; lone = p.lone }

-- what is listed in the two readings: the same once a record 8 was taken, and up to K before that
data Alike : Bool → StreamListing → StreamListing → Type 0 where
  same : (p : StreamListing) → Alike true p p
  but_limit : (p : StreamListing) → Alike false p (sixteen_in p)

-- whether a record 8 was taken, by the records after
taken : Bool → List Record → Bool
taken b [] = b
taken b (record_of.Router id ∷ rs) = taken b rs
taken b (record_of.Link h ∷ rs) = taken b rs
taken b (record_of.Half h ∷ rs) = taken b rs
taken b (record_of.Limit k ∷ rs) = taken true rs
taken b (record_of.End ∷ rs) = taken b rs
taken b (record_of.Refused number ∷ rs) = taken b rs

-- what the two readings return
data Moved : Bool → Reading → Reading → Type 0 where
  on : {b : Bool} (number at : ℕ) → number ≢ 0 → Moved b (refusal number at) (refusal number (at + 2))
  kept : (c : Contents) → Moved true (accepted_reading c) (accepted_reading c)
  limited : (c : Contents) → Moved false (accepted_reading c) (accepted_reading (with_limit c 16))

fault_alike : {b : Bool} {p q : StreamListing} → Alike b p q → (r : Record) → fault q r ≡ fault p r
unfolding sixteen_in with_limit fault router_fault_lem halves_fault_lem repeated crowded halves
fault_alike (same p) r = refl
fault_alike (but_limit p) (record_of.Router id) = refl
fault_alike (but_limit p) (record_of.Link h) = refl
fault_alike (but_limit p) (record_of.Half h) = refl
fault_alike (but_limit p) (record_of.Limit k) = refl
fault_alike (but_limit p) record_of.End = refl
fault_alike (but_limit p) (record_of.Refused number) = refl

-- the end record, with bytes behind it and without
end_followed : {b : Bool} (c d : Contents) (at : ℕ) → Moved b (ended true at c) (ended true (at + 2) d)
unfolding ended
end_followed c d at =
    let turned : at + 2 + 1 ≡ at + 1 + 2 = omega arith in
    rw turned (on 11 (at + 1) (λ e. omega arith))

end_alike : {b : Bool} {p q : StreamListing} → Alike b p q → (at : ℕ) → Moved b (ended false at p.contents) (ended false (at + 2) q.contents)
unfolding sixteen_in ended
end_alike (same p) at = cases (eqb (length p.contents.ids) 0)
  where
    cases : (none : Bool) → Moved true (cond none (refusal 12 at) (accepted_reading p.contents)) (cond none (refusal 12 (at + 2)) (accepted_reading p.contents))
    cases true = on 12 at (λ e. omega arith)
    cases false = kept p.contents
end_alike (but_limit p) at = unfold with_limit in cases (eqb (length p.contents.ids) 0)
  where
    cases : (none : Bool) →
        Moved false (cond none (refusal 12 at) (accepted_reading p.contents)) (cond none (refusal 12 (at + 2)) (accepted_reading (with_limit p.contents 16)))
    cases true = on 12 at (λ e. omega arith)
    cases false = limited p.contents

unless_moved : {b : Bool} {x y : Reading} (number at : ℕ) → Moved b x y → Moved b (unless number at x) (unless number (at + 2) y)
unfolding unless
unless_moved zero at m = m
unless_moved (suc number) at m = on (suc number) at (λ e. omega arith)

-- a record that is not the end, if the records after it are taken alike
module _ {b : Bool} {p q : StreamListing} (a : Alike b p q) (r : Record) (rs : List Record) (at : ℕ) where
  more : {f : Bool} → is_end r ≡ false → Moved f (in_turn (at + width r) (added p r) rs) (in_turn (at + width r + 2) (added q r) rs) →
      Moved f (in_turn at p (r ∷ rs)) (in_turn (at + 2) q (r ∷ rs))
  unfolding in_turn
  more e m =
      let swap : at + 2 + width r ≡ at + width r + 2 = omega arith in
      rw (fault_alike a r, e, swap) (unless_moved (fault p r) at m)

-- records after what is listed alike
arrived_alike : (p : StreamListing) (h : Half) (ks : List Half) → Alike false (arrived p h ks) (arrived (sixteen_in p) h ks)
unfolding sixteen_in with_limit with_link arrived
arrived_alike p h [] = but_limit _
arrived_alike p h (k ∷ ks) = but_limit _

grown : {b : Bool} {p q : StreamListing} → Alike b p q → (r : Record) → Alike (taken b (r ∷ [])) (added p r) (added q r)
unfolding taken added with_router with_link with_limit sixteen_in
grown (same p) (record_of.Router id) = same _
grown (same p) (record_of.Link h) = same _
grown (same p) (record_of.Half h) = same _
grown (same p) (record_of.Limit k) = same _
grown (same p) record_of.End = same _
grown (same p) (record_of.Refused number) = same _
grown (but_limit p) (record_of.Router id) = but_limit _
grown (but_limit p) (record_of.Link h) = but_limit _
grown (but_limit p) (record_of.Half h) = arrived_alike p h _
grown (but_limit p) (record_of.Limit k) = same _
grown (but_limit p) record_of.End = but_limit _
grown (but_limit p) (record_of.Refused number) = but_limit _

turns : {b : Bool} {p q : StreamListing} → Alike b p q → (rs : List Record) (at : ℕ) → Moved (taken b rs) (in_turn at p rs) (in_turn (at + 2) q rs)
unfolding taken in_turn unless fault is_end any_record?
turns a [] at = on 1 at (λ e. omega arith)
turns {p = p} {q = q} a (record_of.Router id ∷ rs) at = more a _ rs at refl (turns {p = added p (record_of.Router id)} {q = added q (record_of.Router id)} (grown a (record_of.Router id)) rs _)
turns {p = p} {q = q} a (record_of.Link h ∷ rs) at = more a _ rs at refl (turns {p = added p (record_of.Link h)} {q = added q (record_of.Link h)} (grown a (record_of.Link h)) rs _)
turns {p = p} {q = q} a (record_of.Half h ∷ rs) at = more a _ rs at refl (turns {p = added p (record_of.Half h)} {q = added q (record_of.Half h)} (grown a (record_of.Half h)) rs _)
turns {b = b} {p = p} {q = q} a (record_of.Limit k ∷ rs) at = more a _ rs at refl (turns {b = taken b (record_of.Limit k ∷ [])} {p = added p (record_of.Limit k)} {q = added q (record_of.Limit k)} (grown a (record_of.Limit k)) rs _)
turns {p = p} {q = q} a (record_of.Refused number ∷ rs) at = more a _ rs at refl (turns {p = added p (record_of.Refused number)} {q = added q (record_of.Refused number)} (grown a (record_of.Refused number)) rs _)
turns a (record_of.End ∷ []) at = end_alike a at
turns a (record_of.End ∷ (r ∷ rs)) at = end_followed _ _ at

-- an element behind another one
behind : {x y : Record} {rs : List Record} → x ≢ y → Memᴰ x (y ∷ rs) → Memᴰ x rs
behind other m = ⊎_elim (λ e. absurd (other e)) (λ k. k) (Memᴰ.cases_cons m)

-- whether a record 8 stands among them
taken_already : (rs : List Record) → taken true rs ≡ true
unfolding taken
taken_already [] = refl
taken_already (record_of.Router id ∷ rs) = taken_already rs
taken_already (record_of.Link h ∷ rs) = taken_already rs
taken_already (record_of.Half h ∷ rs) = taken_already rs
taken_already (record_of.Limit k ∷ rs) = taken_already rs
taken_already (record_of.End ∷ rs) = taken_already rs
taken_already (record_of.Refused number ∷ rs) = taken_already rs

taken_some : (rs : List Record) (k : ℕ) → Memᴰ (record_of.Limit k) rs → taken false rs ≡ true
unfolding taken
taken_some [] k m = absurd (Memᴰ.not-nil m)
taken_some (record_of.Limit j ∷ rs) k m = taken_already rs
taken_some (record_of.Router id ∷ rs) k m = taken_some rs k (behind (λ e. let z : ◌≡◌ {A = ℕ} 0 1 = cc in omega arith) m)
taken_some (record_of.Link h ∷ rs) k m = taken_some rs k (behind (λ e. let z : ◌≡◌ {A = ℕ} 0 1 = cc in omega arith) m)
taken_some (record_of.Half h ∷ rs) k m = taken_some rs k (behind (λ e. let z : ◌≡◌ {A = ℕ} 0 1 = cc in omega arith) m)
taken_some (record_of.End ∷ rs) k m = taken_some rs k (behind (λ e. let z : ◌≡◌ {A = ℕ} 0 1 = cc in omega arith) m)
taken_some (record_of.Refused number ∷ rs) k m = taken_some rs k (behind (λ e. let z : ◌≡◌ {A = ℕ} 0 1 = cc in omega arith) m)

taken_none : (rs : List Record) → ((k : ℕ) → Memᴰ (record_of.Limit k) rs → ⊥) → taken false rs ≡ false
unfolding taken
taken_none [] none = refl
taken_none (record_of.Limit k ∷ rs) none = absurd (none k (Memᴰ.head refl))
taken_none (record_of.Router id ∷ rs) none = taken_none rs (λ k m. none k (Memᴰ.tail m))
taken_none (record_of.Link h ∷ rs) none = taken_none rs (λ k m. none k (Memᴰ.tail m))
taken_none (record_of.Half h ∷ rs) none = taken_none rs (λ k m. none k (Memᴰ.tail m))
taken_none (record_of.End ∷ rs) none = taken_none rs (λ k m. none k (Memᴰ.tail m))
taken_none (record_of.Refused number ∷ rs) none = taken_none rs (λ k m. none k (Memᴰ.tail m))

module _ (stream : List ℕ) where
  -- the reading of the stream, with the K of a stream that gives none, and before
  front : reading (8 ∷ 16 ∷ stream) ≡ in_turn 2 (sixteen_in nothing_listed) (records 0 stream)
  unfolding reading nothing_listed sixteen_in with_limit added width fault within is_end
  front = rw (next_limit 16 stream, goes_on 0 nothing_listed (record_of.Limit 16) (records 0 stream) refl refl)

  moved : Moved (taken false (records 0 stream)) (reading stream) (reading (8 ∷ 16 ∷ stream))
  unfolding reading
  moved = rw front (turns (but_limit nothing_listed) (records 0 stream) 0)

  moved_before : Moved (taken true (records 0 stream)) (read_before stream) (reading (8 ∷ 16 ∷ stream))
  unfolding read_before sixteen_in with_limit nothing_listed
  moved_before = rw front (turns (same _) (records 0 stream) 0)

-- what they return
of_unlimited : {b : Bool} {x y : Reading} → Moved b x y → b ≡ false → (t : Topology) → x ≡ success t → y ≡ success (sixteen t)
unfolding refusal accepted_reading with_limit held
of_unlimited (on number at some) e t r = absurd (some (ap (λ (r : Reading). r.answer.number) r))
of_unlimited (kept c) e t r = absurd (true≢false e)
of_unlimited (limited c) e t r = ap (λ (r : Reading). success (sixteen r.topology)) r

of_limited : {b : Bool} {x y : Reading} → Moved b x y → b ≡ true → (t : Topology) → x ≡ success t → y ≡ success t
unfolding refusal accepted_reading
of_limited (on number at some) e t r = absurd (some (ap (λ (r : Reading). r.answer.number) r))
of_limited (kept c) e t r = r
of_limited (limited c) e t r = absurd (true≢false (sym e))

of_same : {b : Bool} {x y : Reading} → Moved b x y → b ≡ true → (y.topology ≡ x.topology) × (y.answer.number ≡ x.answer.number)
unfolding refusal accepted_reading
of_same (on number at some) e = (refl, refl)
of_same (kept c) e = (refl, refl)
of_same (limited c) e = absurd (true≢false (sym e))

of_refusals : {b : Bool} {x y : Reading} → Moved b x y → (number at : ℕ) → number ≢ 0 → x ≡ refused number at → y ≡ refused number (at + 2)
unfolding refusal accepted_reading zeros no_link held padded
of_refusals (on n p s) number at some r =
    rw (ap (λ (r : Reading). r.answer.number) r, ap (λ (r : Reading). r.answer.at) r)
of_refusals (kept c) number at some r = absurd (some (sym (ap (λ (r : Reading). r.answer.number) r)))
of_refusals (limited c) number at some r = absurd (some (sym (ap (λ (r : Reading). r.answer.number) r)))

pub old_streams_read : OldStreamsRead
old_streams_read = (
  records_cut,
  λ stream. (
    record {
      unlimited = λ none. of_unlimited (moved stream) (taken_none (records 0 stream) (λ k m. none (k, m)));
      limited = λ (k, m). of_limited (moved stream) (taken_some (records 0 stream) k m);
      refusals = of_refusals (moved stream);
    },
    record {
      topology = (of_same (moved_before stream) (taken_already (records 0 stream))).0;
      number = (of_same (moved_before stream) (taken_already (records 0 stream))).1;
      returned = of_limited (moved_before stream) (taken_already (records 0 stream));
      refusals = of_refusals (moved_before stream);
    },
  ),
)
