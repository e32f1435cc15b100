-- The reading before one of its records: what is held and the tables say what is listed, and a record that has no fault keeps them so.
-- Assumes nothing.
use Prim.Native.Nat.{ℕ, ◌+◌, ◌-◌, ◌≤◌, ◌<◌}
use mathlib.Core.Bool.{false}
use mathlib.Core.List.{List}
use mathlib.Core.Path.{◌≡◌, refl, sym, ap, ◌∙◌}
use native.Mathlib.Omega.{arith}
use lib.Dec.{ltb}
use lib.ListN.{length, drop}
use Rattle.std.specs.Prelude.{Result, Ok, Err}
use Rattle.topology_types.specs.declared.Fault.{Fault}
use Rattle.topology_types.specs.Outcome.{number_of, failed}
use Rattle.topology_types.proofs.Outcome.{numbered}
use Rattle.stream_rules.specs.declared.Record as read
use Rattle.stream_rules.specs.declared.Record.TheVariants as read_as
use Rattle.stream_rules.specs.Record.{Record}
use Rattle.stream_rules.specs.Record as record_of
use Rattle.stream_rules.specs.Halves.{StreamListing}
use Rattle.stream_rules.specs.Stream.{record_in}
use Rattle.stream_rules.specs.Reading.{refusal, fault, added, width, is_end, ended, nothing_listed, reading}
use Rattle.stream_rules.specs.Inner.{record_seen}
use Rattle.stream.specs.declared.reader.Reader.{Reader}
use Rattle.stream.specs.declared.unchecked.Listing.{Listing}
use Rattle.stream.specs.Reader.{Next, taken, next}
use Rattle.stream.specs.Listing.{Lists, Taken}
use Rattle.stream.proofs.AtTurn.{Turn, turn_first, turn_inside, turn_end, turn_refused, turn_taken}

pub record Standing (s : List ℕ) (l : Listing) (at : ℕ) : Type 0 where
  pub listing : StreamListing
  pub turn : Turn s listing at
  pub lists : Lists listing l

pub standing_first : (s : List ℕ) {l : Listing} → Lists nothing_listed l → Standing s l 0
standing_first s lists = record { listing = nothing_listed; turn = turn_first s; lists = lists }

-- any record but the end
going_on : (q : read.Record) → (q ≡ read_as.End → ⊥) → is_end (record_seen (Ok q)) ≡ false
unfolding is_end
going_on (read_as.Router id) h = refl
going_on (read_as.Link k) h = refl
going_on (read_as.Half k) h = refl
going_on (read_as.Limit k) h = refl
going_on read_as.End h = absurd (h refl)

-- a reader of the stream at the reading's turn, what it gives, and the reader that it leaves
module _ {s : List ℕ} {l : Listing} (r r' : Reader) (same : r.stream.now ≡ s) (w : Standing s l r.at) (given : Result read.Record Fault)
    (e : record { found = record_seen given; reader = r' } ≡ next r) where
  found : record_seen given ≡ record_in (drop r.at s)
  unfolding next taken
  found = ap (λ (n : Next). n.found) e ∙ ap (λ (s : List ℕ). record_in (drop r.at s)) same

  pub same_stream : r'.stream.now ≡ s
  unfolding next
  same_stream = ap (λ (n : Next). n.reader.stream.now) e ∙ same

  -- no record is there
  pub no_record : (f : Fault) → given ≡ Err f → refusal (number_of f) r.at ≡ reading s
  unfolding fault
  no_record f was =
      turn_refused s w.listing r.at w.turn (record_of.Refused (number_of f)) (ap record_seen (sym was) ∙ found) (λ z. omega (arith, numbered f))

  -- a record
  module _ (q : read.Record) (was : given ≡ Ok q) where
    pub record_is : record_seen (Ok q) ≡ record_in (drop r.at s)
    record_is = ap record_seen (sym was) ∙ found

    pub reached : r'.at ≡ r.at + width (record_seen (Ok q))
    unfolding next taken
    reached = ap (λ (n : Next). n.reader.at) e ∙ ap (λ (x : Record). r.at + width x) (ap (λ (s : List ℕ). record_in (drop r.at s)) same ∙ sym record_is)

    pub end_inside : q ≡ read_as.End → r.at < length s
    end_inside is = turn_inside s w.listing r.at w.turn (sym record_is ∙ ap (λ q. record_seen (Ok q)) is)

    pub end_is : q ≡ read_as.End → ended (ltb (r.at + 1) (length s)) r.at w.listing.contents ≡ reading s
    end_is is = sym (turn_end s w.listing r.at w.turn (sym record_is ∙ ap (λ q. record_seen (Ok q)) is))

    -- it is taken
    module _ {l' : Listing} {answer : Result (Unit {0}) Fault} (takes : Taken (record_seen (Ok q)) l l' answer) where
      pub is_refused : (f : Fault) → answer ≡ Err f → refusal (number_of f) r.at ≡ reading s
      is_refused f was =
          let number : number_of f ≡ fault w.listing (record_seen (Ok q)) = ap failed (sym was) ∙ takes.number w.listing w.lists in
          ap (λ n. refusal n r.at) number
          ∙ turn_refused s w.listing r.at w.turn (record_seen (Ok q)) record_is (λ z. omega (arith, numbered f, number))

      module _ (passed : answer ≡ Ok tt) (more : q ≡ read_as.End → ⊥) where
        pub none : fault w.listing (record_seen (Ok q)) ≡ 0
        none = sym (takes.number w.listing w.lists) ∙ ap failed passed

        turn : Turn s (added w.listing (record_seen (Ok q))) (r.at + width (record_seen (Ok q))) × (1 ≤ width (record_seen (Ok q)))
        turn = turn_taken s w.listing r.at w.turn (record_seen (Ok q)) record_is none (going_on q more)

        -- less is left of the stream
        pub falls : length s - r'.at < length s - r.at
        falls = omega (arith, reached, turn.0.inside, turn.1)

        pub onward : Standing s l' r'.at
        onward =
            record {
              listing = added w.listing (record_seen (Ok q));
              turn = rw reached turn.0;
              lists = rw passed at (takes.listed w.listing w.lists);
            }
