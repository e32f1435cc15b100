-- What reading returns. While records are taken what is listed stays good, and at the end record it has a router besides, so it is sound; every other
-- way out is a refusal, with a number that is not 0.
-- Assumes nothing.
use Prim.Native.Nat.{ℕ, zero, suc, ◌+◌, ◌-◌, ◌≤◌, ◌<◌, ◌^◌}
use mathlib.Core.Bool.{Bool, true, false, cond}
use mathlib.Core.List.Memᴰ
use mathlib.Core.List.{List, [], ◌∷◌, Memᴰ}
use mathlib.Core.List.{map}
use mathlib.Core.Logic.{◌≢◌, ⊎_elim}
use mathlib.Core.Path.{◌≡◌, refl}
use native.Mathlib.Omega.{arith}
use borrow.Author.Tests.{eqb-false}
use lib.Dec.{T, eqb}
use lib.ListN.{length, drop, replicate}
use lib.Seq.{drop-append_seam}
use Rattle.network.specs.Network.{arcs_of}
use Rattle.network.specs.Theorems.Network.{SoundLinks}
use Rattle.network.proofs.SoundLinks.{sound_links_exact}
use Rattle.topology_types.specs.Topology.{Contents, no_link, padded, contents, held, zeros, seen, network_of}
use Rattle.topology_types.proofs.Arcs.{arcs_listed}
use Rattle.topology_sound.specs.Sound.{sound}
use Rattle.topology_sound.specs.Theorems.{Sound}
use Rattle.topology_sound.proofs.Sound.{sound_exact}
use Rattle.stream_rules.specs.Record.{Record}
use Rattle.stream_rules.specs.Halves.{StreamListing}
use Rattle.stream_rules.specs.Stream.{body_length, records}
use Rattle.stream_rules.specs.Reading.{refusal, accepted_reading, fault, added, width, is_end, ended, unless, any_record?, in_turn, nothing_listed, reading}
use Rattle.stream_rules.specs.Theorems.{Bytes, Read, ReadsSound}
use Rattle.stream_rules.proofs.Held.{contents_held, padded_length}
use Rattle.stream_rules.proofs.Fitting.{record_fits}
use Rattle.stream_rules.specs.Inner.{Fitting}
use Rattle.stream_rules.proofs.Kept.{Good, links-fit, linked, neighbours, good_nothing, kept}

mem_replicate : {A : Type 0} (n : ℕ) (a : A) {b : A} → Memᴰ b (replicate n a) → b ≡ a
mem_replicate zero a m = absurd (Memᴰ.not-nil m)
mem_replicate (suc n) a m = ⊎_elim (λ e. e) (mem_replicate n a) (Memᴰ.cases_cons m)

module _ {A : Type 0} (z : A) (slots : ℕ) (xs : List A) (fit : length xs ≤ slots) where
  padded_rest : (x : A) → Memᴰ x (drop (length xs) (padded z slots xs)) → x ≡ z
  unfolding padded
  padded_rest x m = mem_replicate (slots - length xs) z (rw drop-append_seam at m)

-- what is good and has a router is sound
module _ (p : StreamListing) (g : Good p) (some : 0 < length p.contents.ids) where
  abbrev c : Contents
  c = p.contents

  id_fits : (i : ℕ) → Memᴰ i (padded 0 64 c.ids) → i < 2 ^ 32
  unfolding padded
  id_fits i m = ⊎_elim (g.ids_fit i) (λ n. omega (arith, mem_replicate {A = ℕ} (64 - length c.ids) 0 n)) (Memᴰ.append_cases c.ids m)

  linked_held : SoundLinks (contents (held c)).ids (map seen (contents (held c)).links)
  linked_held = rw contents_held ((sound_links_exact c.ids (map seen c.links)).0 (linked p g))

  neighbours_held : (u : ℕ) → u < length c.ids → length (arcs_of (network_of (held c)) u) ≤ 16
  unfolding network_of
  neighbours_held u h = rw (contents_held, arcs_listed c u h) (neighbours p g u)

  facts : Sound (held c)
  unfolding contents held no_link seen
  facts =
      record {
        routers_least = some;
        routers_most = g.routers_fit;
        links_most = links-fit p g;
        limit_least = g.limit_least;
        limit_most = g.limit_most;
        linked = linked_held;
        neighbours = neighbours_held;
        ids_unused = λ i m. padded_rest 0 64 c.ids g.routers_fit i m;
        links_unused = λ l m. let e = padded_rest no_link 256 c.links (links-fit p g) l m in rw e (refl, refl, refl, refl);
        id_slots = padded_length 0 64 c.ids g.routers_fit;
        link_slots = padded_length no_link 256 c.links (links-fit p g);
        ids_fit = λ i m. id_fits i m;
      }

  pub good_sound : T (sound (held c))
  good_sound = (sound_exact (held c)).1 facts

pub read_refusal : (number at : ℕ) → number ≢ 0 → Read (refusal number at)
unfolding refusal zeros held padded no_link
read_refusal number at other =
    record { at_none = λ z. absurd (other z); is-sound = λ z. absurd (other z); zeros = λ n. refl }

module _ (p : StreamListing) (g : Good p) where
  read_accepted : 0 < length p.contents.ids → Read (accepted_reading p.contents)
  unfolding accepted_reading
  read_accepted some = record { at_none = λ z. refl; is-sound = λ z. good_sound p g some; zeros = λ other. absurd (other refl) }

  pub ended_reads : (follows : Bool) (at : ℕ) → Read (ended follows at p.contents)
  unfolding ended
  ended_reads true at = read_refusal 11 (at + 1) (λ e. omega (arith, e))
  ended_reads false at = cases (eqb (length p.contents.ids) 0) refl
    where
      cases : (b : Bool) → eqb (length p.contents.ids) 0 ≡ b → Read (cond b (refusal 12 at) (accepted_reading p.contents))
      cases true e = read_refusal 12 at (λ e. omega (arith, e))
      cases false e = read_accepted (omega (arith, eqb-false (length p.contents.ids) 0 e))

turns_read : (rs : List Record) (at : ℕ) (p : StreamListing) → Good p → ((r : Record) → Memᴰ r rs → Fitting r) → Read (in_turn at p rs)
unfolding in_turn unless
turns_read [] at p g fit = read_refusal 1 at (λ e. omega (arith, e))
turns_read (r ∷ rs) at p g fit =
    cases (fault p r) refl (is_end r)
    (λ e. turns_read rs (at + width r) (added p r) (kept p g r e (fit r (Memᴰ.head refl))) (λ q m. fit q (Memᴰ.tail m)))
  where
    cases : (number : ℕ) → fault p r ≡ number → (b : Bool) → (fault p r ≡ 0 → Read (in_turn (at + width r) (added p r) rs)) →
        Read (unless number at (cond b (ended (any_record? rs) at p.contents) (in_turn (at + width r) (added p r) rs)))
    cases zero e true rest = ended_reads p g (any_record? rs) at
    cases zero e false rest = rest e
    cases (suc number) e b rest = read_refusal (suc number) at (λ z. omega (arith, z))

records_fit : (s : List ℕ) (skipped : ℕ) → Bytes s → (r : Record) → Memᴰ r (records skipped s) → Fitting r
unfolding records
records_fit [] skipped bytes r m = absurd (Memᴰ.not-nil m)
records_fit (b ∷ s) zero bytes r m =
    ⊎_elim (λ e. rw e (record_fits (b ∷ s) bytes)) (records_fit s (body_length b) (λ d k. bytes d (Memᴰ.tail k)) r) (Memᴰ.cases_cons m)
records_fit (b ∷ s) (suc skipped) bytes r m = records_fit s skipped (λ d k. bytes d (Memᴰ.tail k)) r m

pub reads_sound : ReadsSound
unfolding reading
reads_sound s bytes = turns_read (records 0 s) 0 nothing_listed good_nothing (records_fit s 0 bytes)
