-- `arcs::unchecked::of` meets its contract: a turn adds an arc for each end of a link. There is room for both, since all links together give no
-- router more than 16.
-- Assumes nothing.
use Rattle.std.proofs.Common.{ℕ, T, ◌≡◌, ◌<◌, ◌+◌, length, refl, ap, sym, ◌∙◌, map, get_or, arith}
use lib.ListN.{get_or-replicate}
use Rattle.std.proofs.lemmas.List.{map-append}
use Rattle.network.specs.Network.{arcs_among}
use Rattle.topology_types.specs.declared.Link.{Link}
use Rattle.topology_types.specs.declared.Topology.{Topology}
use Rattle.topology_types.specs.Topology.{seen}
use Rattle.topology_sound.specs.Sound.{sound}
use Rattle.arcs.specs.declared.Arc.{Arc}
use Rattle.arcs.specs.declared.Arcs.{Arcs}
use Rattle.arcs.specs.Inner.{leaving, returning, with_arc}
use Rattle.arcs.specs.Back.{link_back}
use Rattle.arcs.proofs.Among.{there, back}
use Rattle.arcs.proofs.Filled.{Filled, Next, among, filled_none, room_first, room_second, one_link}
use Rattle.arcs.proofs.Links.{first_links, links_of, next_links, next_fits}
use Rattle.arcs.proofs.Back.{next_back, arcs_back, few_back, back_exact}
use Rattle.arcs.proofs.unchecked.of.Goals as goal

-- what stands past the end of an array of links
abbrev none : Link
none = record { first = record { 0 = 0 }; second = record { 0 = 0 }; cost = 0; back = 0 }

pub loop-i-init : goal.loop-i-init
unfolding first_links arcs_among
loop-i-init c =
    let limit = (links_of c.args.t c.requires).routers_most in
    let zeros = λ (u : ℕ) (h : u < c.args.t.routers). get_or-replicate {A = ℕ} 64 u 0 0 (omega arith) in
    record {
      out = filled_none leaving c.args.t.routers _ (record { counts = refl; slots = refl }) zeros;
      back = filled_none returning c.args.t.routers _ (record { counts = refl; slots = refl }) zeros;
    }

pub offset_bounds-t-i : goal.offset_bounds-t-i
offset_bounds-t-i c = omega (arith, (links_of c.args.t c.requires).links_most)

pub bounds-t-i : goal.bounds-t-i
bounds-t-i c = omega (arith, (links_of c.args.t c.requires).links_most)

pub overflow_cast-number : goal.overflow_cast-number
overflow_cast-number c = omega (arith, (links_of c.args.t c.requires).links_most)

-- the link of a turn, and its arcs for its two ends
abbrev link : Topology → ℕ → Link
link t i = get_or t.link i none

abbrev first : Link → ℕ → Arc
first l i = record { to = l.second; link = i; cost = l.cost; back = l.back }

abbrev second : Link → ℕ → Arc
second l i = record { to = l.first; link = i; cost = l.back; back = l.cost }

next : (t : Topology) → T (sound t) → (i : ℕ) → i < t.links → Next t.routers (first_links t i) (seen (link t i)) i
next t s i h = next_fits t (links_of t s) i h none

-- where the arcs of i links stand, there is room for the link's two, and then those of i + 1 stand
module _ (t : Topology) (s : T (sound t)) (i : ℕ) (h : i < t.links) (a : Arcs) (f : Filled leaving t.routers (among (first_links t i)) a) where
  fits_first : ((link t i).first.0 < 64) × (get_or a.count (link t i).first.0 0 < 16)
  unfolding seen there back
  fits_first =
      let w = next t s i h in
      (omega (arith, w.first_in, w.limit), room_first w f (first (link t i) i) (second (link t i) i) refl refl)

  fits_second : (b : Arcs) → b ≡ with_arc a (link t i).first.0 (first (link t i) i) →
      ((link t i).second.0 < 64) × (get_or b.count (link t i).second.0 0 < 16)
  unfolding seen there back
  fits_second b e =
      let w = next t s i h in
      (omega (arith, w.second_in, w.limit), rw e (room_second w f (first (link t i) i) (second (link t i) i) refl refl))

  module _ (b c : Arcs) (once : b ≡ with_arc a (link t i).first.0 (first (link t i) i)) (twice : c ≡ with_arc b (link t i).second.0 (second (link t i) i)) where
    more_out : Filled leaving t.routers (among (first_links t (i + 1))) c
    unfolding seen there back
    more_out = rw (twice, once, next_links t (links_of t s) i h none) (one_link (next t s i h) f (first (link t i) i) (second (link t i) i) refl refl)

    more_back : Filled returning t.routers (among (map link_back (first_links t i))) a → Filled returning t.routers (among (map link_back (first_links t (i + 1)))) c
    unfolding seen there back link_back
    more_back g =
        rw (twice, once, next_links t (links_of t s) i h none, map-append) (one_link (next_back (next t s i h)) g (first (link t i) i) (second (link t i) i) refl refl)

pub add-requires : goal.add-requires
add-requires c = fits_first c.args.t c.requires c.loop-i.i c.loop-i-test.true c.loop-i.a c.loop-i.invariant.out

pub add-requires-in-loop-i : goal.add-requires-in-loop-i
add-requires-in-loop-i c =
    fits_second c.args.t c.requires c.loop-i.i c.loop-i-test.true c.loop-i.a c.loop-i.invariant.out _ c.add.ensures

pub loop-i-preserved : goal.loop-i-preserved
loop-i-preserved c =
    let t = c.args.t in
    record {
      out = more_out t c.requires c.loop-i.i c.loop-i-test.true c.loop-i.a c.loop-i.invariant.out _ _ c.add.ensures c.add-in-loop-i.ensures;
      back = more_back t c.requires c.loop-i.i c.loop-i-test.true c.loop-i.a c.loop-i.invariant.out _ _ c.add.ensures c.add-in-loop-i.ensures c.loop-i.invariant.back;
    }

pub returns : goal.returns
returns c =
    let t = c.args.t in
    let w = links_of t c.requires in
    let sized = (back_exact t c.requires).routers in
    let end : c.loop-i.i ≡ t.links = omega arith in
    let f : Filled leaving t.routers (among (first_links t t.links)) c.loop-i.a = rw end at c.loop-i.invariant.out in
    let g : Filled returning t.routers (among (map link_back (first_links t t.links))) c.loop-i.a = rw end at c.loop-i.invariant.back in
    record {
      out = record {
        few = λ u h. omega (arith, w.size_is, f.counts u (omega (arith, w.size_is)), ap length (w.arcs_are u (omega (arith, w.size_is))), w.few u (omega (arith, w.size_is)));
        arcs = λ u h. f.each u (omega (arith, w.size_is)) ∙ sym (w.arcs_are u (omega (arith, w.size_is)));
      };
      back = record {
        few = λ u h. omega (arith, g.counts u (omega arith), ap length (arcs_back t c.requires u (omega arith)), few_back t c.requires u (omega arith));
        arcs = λ u h. g.each u (omega arith) ∙ sym (arcs_back t c.requires u (omega arith));
      };
    }
