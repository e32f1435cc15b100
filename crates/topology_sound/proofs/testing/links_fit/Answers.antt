-- A link is tested against those before it, by what the tables have of them.
-- Assumes nothing.
use Rattle.std.proofs.Common.{ℕ, set, ◌≡◌, ◌≢◌, ◌+◌, ◌*◌, ◌^◌, ◌<◌, ◌≤◌, ◌⊎◌, inl, inr, Bool, true, false, not, List, length, take, get_or, map, sym, ap, ◌∙◌, arith}
use mathlib.Core.Bool.{and-false}
use mathlib.Core.List.{Memᴰ}
use lib.Seq.{length-take-le, get_or-take}
use Rattle.network.specs.Lists.{any}
use Rattle.network.specs.Network as network
use Rattle.network.specs.Network.{same_pair}
use Rattle.network.specs.Theorems.Network.{SoundLink}
use Rattle.network.proofs.Selection.{get_d_mem}
use Rattle.topology_types.specs.declared.Link.{Link}
use Rattle.topology_types.specs.declared.Topology.{Topology}
use Rattle.topology_types.specs.Topology.{no_link, contents, seen}
use Rattle.topology_types.proofs.Machine.{ids_length, links-length, cost_fits, back_fits}
use Rattle.topology_types.proofs.Prefix.{map_more}
use Rattle.topology_sound.proofs.InTurn.{links-fit}
use Rattle.topology_sound.proofs.Turns.{Passing, passed, failed, none_passed, all_passed}
use Rattle.topology_sound.proofs.Links.{links_sound, sound_grow, sound_passes, unsound_fails, pairs_apart, pairs_grow}
use Rattle.topology_sound.proofs.Pairs.{Tabled, tabled_none, tabled_more}
use Rattle.topology_sound.proofs.Crowds.{Tallied, twice, tallied_none, tallied_more, all_uncrowded, crowded}
use Rattle.topology_sound.proofs.testing.links_fit.Goals as goal
use Rattle.topology_sound.proofs.testing.links_fit.Goals.{then-n-first-via-then-n-first, then-n-first-via-else-n-first+then-n-second}
use Rattle.topology_sound.proofs.testing.links_fit.Goals.{then-first-second-via-then-first-second, then-first-second-via-else-first-second+then-l-eq0, then-first-second-via-else-first-second+else-l-eq0+then-l-eq0-2}
use Rattle.topology_sound.proofs.testing.links_fit.Goals.{then-at_first-ge-NEIGHBOURS-via-then-at_first-ge-NEIGHBOURS, then-at_first-ge-NEIGHBOURS-via-else-at_first-ge-NEIGHBOURS+then-at_second-ge-NEIGHBOURS}

-- what is known before the link with the number i
abbrev Before : Topology → List Bool → List ℕ → ℕ → Type 0
Before t linked count i =
    let ls = map seen (take i t.link) in
    Passing (links_sound t.routers) t.link t.links i × Passing pairs_apart t.link t.links i × Tabled linked ls × Tallied count ls

module _ (t : Topology) {linked : List Bool} {count : List ℕ} {i : ℕ} (w : Before t linked count i) (turn : i < length (take t.links t.link)) where
  inside : i < t.links
  inside = omega (arith, length-take-le t.links t.link w.0.long)

  abbrev item : Link
  item = get_or (take t.links t.link) i no_link

  abbrev link : network.Link
  link = seen (get_or t.link i no_link)

  same : seen item ≡ link
  same = ap seen (get_or-take t.links t.link i no_link inside)

  item_is : item ≡ get_or t.link i no_link
  item_is = get_or-take t.links t.link i no_link inside

  -- that costs are at most 65,535 is what a `u16` tells
  fits : ((l : Link) → Memᴰ l t.link → (l.cost < 2 ^ 16) × (l.back < 2 ^ 16)) → (item.cost < 2 ^ 16) × (item.back < 2 ^ 16)
  fits each = rw item_is (each _ (get_d_mem t.link i no_link (omega (arith, inside, w.0.long))))

  unsound : (SoundLink t.routers (seen item) → ⊥) → false ≡ links-fit t
  unfolding contents
  unsound no' = rw (sym (failed (sound_grow _) w.0 inside no_link (unsound_fails _ _ (rw same at no'))))

  module _ (s : SoundLink t.routers (seen item)) (few : t.routers ≤ 64) {first second : ℕ} (f : first ≡ item.first.0) (g : second ≡ item.second.0) where
    abbrev there : SoundLink t.routers link
    there = rw same at s

    first_is : first ≡ link.first
    unfolding seen
    first_is = f ∙ ap (λ (l : network.Link). l.first) same

    second_is : second ≡ link.second
    unfolding seen
    second_is = g ∙ ap (λ (l : network.Link). l.second) same

    first_in : link.first < 64
    first_in = omega (arith, there.first_listed)

    second_in : link.second < 64
    second_in = omega (arith, there.second_listed)

    -- what the table of pairs has of it
    tabled : get_or linked (first * 64 + second) false ≡ any (same_pair link) (map seen (take i t.link))
    tabled = rw (first_is, second_is) (w.2.at link first_in second_in)

    twice_linked : get_or linked (first * 64 + second) false ≡ true → false ≡ links-fit t
    unfolding contents
    twice_linked e = rw (sym (failed pairs_grow w.1 inside no_link (ap not (sym tabled ∙ e))), and-false)

    -- one of its ends has 16 neighbours already
    refuse : length t.id ≡ 64 → (u : ℕ) → (link.first ≡ u) ⊎ (link.second ≡ u) → u < t.routers → 16 ≤ get_or count u 0 → false ≡ links-fit t
    unfolding contents
    refuse slots u ends h many =
        rw (sym (crowded t (omega arith) u i no_link h inside w.0.long ends (omega (arith, w.3.at u (omega arith)))), and-false)

    onward : get_or linked (first * 64 + second) false ≡ false → get_or count first 0 < 16 → get_or count second 0 < 16 → first ≢ second →
        Before t (set (set linked (first * 64 + second) true) (second * 64 + first) true) (twice count first second) (i + 1)
    onward new fit fit' apart =
        let more = map_more seen t.link i no_link (omega (arith, inside, w.0.long)) in (
          passed (sound_grow _) w.0 inside no_link (sound_passes _ _ there),
          passed pairs_grow w.1 inside no_link (ap not (sym tabled ∙ new)),
          rw more (tabled_more w.2 link first_in second_in first_is second_is),
          rw more (tallied_more w.3 link first_is second_is (omega (arith, first_in, first_is)) (omega (arith, second_in, second_is)) apart fit fit'),
        )

-- a link that passes the tests of one link is sound; that its costs are at most 65,535 is what a `u16` tells
sound : (n first second : ℕ) (l : Link) → first ≡ l.first.0 → second ≡ l.second.0 → first < n → second < n → first ≢ second → l.cost ≢ 0 → l.back ≢ 0 →
    l.cost < 2 ^ 16 → l.back < 2 ^ 16 → SoundLink n (seen l)
unfolding seen
sound n first second l f g h k apart c b cost back =
    record {
      first_listed = omega arith;
      second_listed = omega arith;
      ends_differ = λ e. apart (omega arith);
      cost_least = omega arith;
      cost_most = omega arith;
      back_least = omega arith;
      back_most = omega arith;
    }

pub loop-l-init : goal.loop-l-init
loop-l-init c =
    let long = links-length c.args.t _ c.well_formed.0 in (
      none_passed (sound_grow _) c.args.t.link c.args.t.links (omega (arith, long)),
      none_passed pairs_grow c.args.t.link c.args.t.links (omega (arith, long)),
      tabled_none,
      tallied_none,
    )

pub returns-then-n-first : goal.returns-then-n-first
unfolding no_link seen
returns-then-n-first c =
    unsound c.args.t c.loop-l.invariant c.loop-l-test.true
    (λ s.
    elim c.then-n-first.branch [
      | then-n-first-via-then-n-first w ↦ omega (arith, w.if-n-first.true, s.first_listed, c.index-first.ensures)
      | then-n-first-via-else-n-first+then-n-second w ↦ omega (arith, w.if-n-second.true, s.second_listed, c.index-second.ensures)
    ])

pub returns-then-first-second : goal.returns-then-first-second
unfolding no_link seen
returns-then-first-second c =
    unsound c.args.t c.loop-l.invariant c.loop-l-test.true
    (λ s.
    elim c.then-first-second.branch [
      | then-first-second-via-then-first-second w ↦ s.ends_differ (omega (arith, w.if-first-second.true, c.index-first.ensures, c.index-second.ensures))
      | then-first-second-via-else-first-second+then-l-eq0 w ↦ omega (arith, w.if-l-eq0.true, s.cost_least)
      | then-first-second-via-else-first-second+else-l-eq0+then-l-eq0-2 w ↦ omega (arith, w.if-l-eq0-2.true, s.back_least)
    ])

pub returns-then-linked-first : goal.returns-then-linked-first
unfolding no_link
returns-then-linked-first c =
    let (cost, back) = fits c.args.t c.loop-l.invariant c.loop-l-test.true (λ l m. (cost_fits c.args.t _ c.well_formed.0 l m, back_fits c.args.t _ c.well_formed.0 l m)) in
    let s =
    sound c.args.t.routers c.index-first.result c.index-second.result (item c.args.t c.loop-l.invariant c.loop-l-test.true) c.index-first.ensures c.index-second.ensures
    c.if-n-first.false c.if-n-second.false c.if-first-second.false c.if-l-eq0.false c.if-l-eq0-2.false cost back
    in
    twice_linked c.args.t c.loop-l.invariant c.loop-l-test.true s c.requires.routers_fit c.index-first.ensures c.index-second.ensures c.if-linked-first.true

pub returns-then-at_first-ge-NEIGHBOURS : goal.returns-then-at_first-ge-NEIGHBOURS
unfolding no_link
returns-then-at_first-ge-NEIGHBOURS c =
    let (cost, back) = fits c.args.t c.loop-l.invariant c.loop-l-test.true (λ l m. (cost_fits c.args.t _ c.well_formed.0 l m, back_fits c.args.t _ c.well_formed.0 l m)) in
    let s =
    sound c.args.t.routers c.index-first.result c.index-second.result (item c.args.t c.loop-l.invariant c.loop-l-test.true) c.index-first.ensures c.index-second.ensures
    c.if-n-first.false c.if-n-second.false c.if-first-second.false c.if-l-eq0.false c.if-l-eq0-2.false cost back
    in
    let slots = ids_length c.args.t _ c.well_formed.0 in
    elim c.then-at_first-ge-NEIGHBOURS.branch [
      | then-at_first-ge-NEIGHBOURS-via-then-at_first-ge-NEIGHBOURS w ↦
          refuse c.args.t c.loop-l.invariant c.loop-l-test.true s c.requires.routers_fit c.index-first.ensures c.index-second.ensures slots c.index-first.result
          (inl (sym (first_is c.args.t c.loop-l.invariant c.loop-l-test.true s c.requires.routers_fit c.index-first.ensures c.index-second.ensures))) c.if-n-first.false w.if-at_first-ge-NEIGHBOURS.true
      | then-at_first-ge-NEIGHBOURS-via-else-at_first-ge-NEIGHBOURS+then-at_second-ge-NEIGHBOURS w ↦
          refuse c.args.t c.loop-l.invariant c.loop-l-test.true s c.requires.routers_fit c.index-first.ensures c.index-second.ensures slots c.index-second.result
          (inr (sym (second_is c.args.t c.loop-l.invariant c.loop-l-test.true s c.requires.routers_fit c.index-first.ensures c.index-second.ensures))) c.if-n-second.false w.if-at_second-ge-NEIGHBOURS.true
    ]

pub loop-l-preserved : goal.loop-l-preserved
unfolding no_link
loop-l-preserved c =
    let (cost, back) = fits c.args.t c.loop-l.invariant c.loop-l-test.true (λ l m. (cost_fits c.args.t _ c.well_formed.0 l m, back_fits c.args.t _ c.well_formed.0 l m)) in
    let s =
    sound c.args.t.routers c.index-first.result c.index-second.result (item c.args.t c.loop-l.invariant c.loop-l-test.true) c.index-first.ensures c.index-second.ensures
    c.if-n-first.false c.if-n-second.false c.if-first-second.false c.if-l-eq0.false c.if-l-eq0-2.false cost back
    in
    onward c.args.t c.loop-l.invariant c.loop-l-test.true s c.requires.routers_fit c.index-first.ensures c.index-second.ensures c.if-linked-first.false
    c.if-at_first-ge-NEIGHBOURS.false c.if-at_second-ge-NEIGHBOURS.false c.if-first-second.false

pub returns : goal.returns
unfolding contents
returns c =
    let t = c.args.t in
    let w = c.loop-l.invariant in
    let e : c.loop-l.l-index ≡ t.links = omega (arith, w.0.within, length-take-le t.links t.link w.0.long, c.loop-l-test.false) in
    let slots = ids_length t _ c.well_formed.0 in
    let few =
    all_uncrowded t (omega (arith, slots)) (λ u h. rw (← e) (omega (arith, w.3.at u (omega arith), w.3.most u (omega arith)))) in
    rw (sym (all_passed w.0 (omega (arith, e))), sym (all_passed w.1 (omega (arith, e))), sym few)
