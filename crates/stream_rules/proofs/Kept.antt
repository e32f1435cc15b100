-- What is listed so far is sound but for having a router: nothing listed is, and a record without a fault keeps it so. A half is tested against the
-- routers listed at that time; those listed after it only make more places.
-- Assumes nothing.
use Prim.Native.Nat.{ℕ, ◌+◌, ◌≤◌, ◌<◌, ◌^◌}
use mathlib.Core.Bool.{Bool, true, false, cond, not}
use mathlib.Core.List.Memᴰ
use mathlib.Core.List.{List, [], ◌∷◌, ◌++◌, map, Memᴰ}
use mathlib.Core.Logic.{⊎_elim}
use mathlib.Core.Path.{◌≡◌, refl, sym, ap}
use native.Mathlib.Omega.{arith}
use borrow.Author.Tests.{leb-false}
use lib.Dec.{T}
use lib.ListN.{length, length-append}
use Rattle.network.specs.Lists.{keep, member, distinct}
use Rattle.network.specs.Network.{arcs_among, sound_links}
use Rattle.network.specs.Theorems.Network.{SoundLink}
use Rattle.network.proofs.Tests.{and}
use Rattle.network.proofs.Lists.{distinct_fact}
use Rattle.network.proofs.SoundLinks.{sound_links_exact}
use Rattle.topology_types.specs.declared.Half.{Half}
use Rattle.topology_types.specs.Topology.{held, seen}
use Rattle.topology_types.proofs.Prefix.{distinct_more}
use Rattle.topology_sound.specs.Sound.{within}
use Rattle.topology_sound.proofs.Sound.{within_fact}
use Rattle.stream_rules.specs.Record.{Record}
use Rattle.stream_rules.specs.Record as record_of
use Rattle.stream_rules.specs.Halves.{StreamListing, link_halves, halves, same_half, leaves, opposite}
use Rattle.stream_rules.specs.Reading.{repeated, crowded, fault, with_router, with_link, with_limit, arrived, added, nothing_listed}
use Rattle.stream_rules.specs.Inner.{WhileRead, Fitting, one_if, total}
use Rattle.stream_rules.proofs.Held.{contents_held}
use Rattle.stream_rules.proofs.NoFault.{NewRouter, NewHalves, router_passes, halves_pass, one_fails, both_fail}
use Rattle.stream_rules.proofs.Halves.{length_total, length_keep, none_total, halves_total, adds_last, adds_link}
use Rattle.stream_rules.proofs.Opposite.{adds_half}
use Rattle.stream_rules.proofs.GoodHalves.{as_link, unsound, GoodHalves, good_none, good_more, sound_among_more, same_none, leaves_other}
use Rattle.stream_rules.proofs.GoodHalves.{links_many, pairs_apart, arcs_few, links_sound}

pub record Good (p : StreamListing) : Type 0 where
  pub routers_fit : length p.contents.ids ≤ 64
  pub limit_least : 1 ≤ p.contents.limit
  pub limit_most : p.contents.limit ≤ 16
  pub ids-differ : T (distinct p.contents.ids)
  pub ids_fit : (i : ℕ) → Memᴰ i p.contents.ids → i < 2 ^ 32
  pub good_halves : GoodHalves (length p.contents.ids) (halves p)

-- what that says of the links
module _ (p : StreamListing) (g : Good p) where
  part : (f : Half → ℕ) → total f (link_halves p.contents.links) ≤ total f (halves p)
  part f = omega (arith, halves_total f p)

  pub links-fit : length p.contents.links ≤ 256
  links-fit = omega (arith, links_many p.contents.links, part (λ k. 1), g.good_halves.many)

  pub linked : T (sound_links p.contents.ids (map seen p.contents.links))
  linked =
      (sound_links_exact p.contents.ids (map seen p.contents.links)).1
      record {
        ids-differ = distinct_fact p.contents.ids g.ids-differ;
        each = links_sound (length p.contents.ids) p.contents.links (omega (arith, part (unsound (length p.contents.ids)), g.good_halves.each));
        pairs-differ = pairs_apart p.contents.links (λ h. omega (arith, part (one_if (same_half h)), g.good_halves.once h));
      }

  pub neighbours : (u : ℕ) → length (arcs_among u 0 (map seen p.contents.links)) ≤ 16
  neighbours u = omega (arith, arcs_few u 0 p.contents.links, part (one_if (leaves u)), g.good_halves.leaving u)

pub good_nothing : Good nothing_listed
unfolding nothing_listed distinct halves link_halves
good_nothing =
    record {
      routers_fit = omega arith;
      limit_least = omega arith;
      limit_most = omega arith;
      ids-differ = tt;
      ids_fit = λ i m. absurd (Memᴰ.not-nil m);
      good_halves = good_none 0;
    }

-- halves that a record lists, as tests of totals
module _ (p : StreamListing) where
  pub fresh_none : (h : Half) → repeated p h ≡ false → total (one_if (same_half h)) (halves p) ≡ 0
  unfolding repeated
  fresh_none h e = none_total (same_half h) (halves p) e

  pub few_leave : (u : ℕ) → crowded p u ≡ false → total (one_if (leaves u)) (halves p) < 16
  unfolding crowded
  few_leave u e = omega (arith, leb-false 16 (length (keep (leaves u) (halves p))) e, length_keep (leaves u) (halves p))

  pub half_fits : (h : Half) (new : List Half) → NewHalves p h new → h.cost < 2 ^ 16 → SoundLink (length p.contents.ids) (as_link h)
  half_fits h new w fits =
      record {
        first_listed = w.from_listed;
        second_listed = w.to_listed;
        ends_differ = w.ends_differ;
        cost_least = omega (arith, w.cost_least);
        cost_most = omega arith;
        back_least = omega (arith, w.cost_least);
        back_most = omega arith;
      }

module _ (p : StreamListing) (g : Good p) where
  n : ℕ
  n = length p.contents.ids

  router_kept : (id : ℕ) → NewRouter p.contents id → id < 2 ^ 32 → Good (added p (record_of.Router id))
  unfolding added with_router halves
  router_kept id new fits =
      let ids = p.contents.ids in
      let more : length (ids ++ (id ∷ [])) ≡ length ids + 1 = length-append ids (id ∷ []) in
      let h = g.good_halves in
      record {
        routers_fit = omega (arith, new.room);
        limit_least = g.limit_least;
        limit_most = g.limit_most;
        ids-differ = rw distinct_more (and (distinct ids) (not (member id ids)) g.ids-differ (rw new.unlisted tt));
        ids_fit = λ i m. ⊎_elim (g.ids_fit i) (λ m'. omega (arith, Memᴰ.eq_of_singleton m')) (Memᴰ.append_cases ids m);
        good_halves =
            record {
              each = sound_among_more (length ids) (length (ids ++ (id ∷ []))) (halves p) (omega arith) h.each;
              once = h.once;
              many = h.many;
              leaving = h.leaving;
            };
      }

  half_kept : (h : Half) → NewHalves p h (h ∷ []) → h.cost < 2 ^ 16 → GoodHalves n (halves (added p (record_of.Half h)))
  unfolding n
  half_kept h new fits =
      let fresh = one_fails (repeated p) h new.fresh in
      let few = one_fails (λ k. crowded p k.from.0) h new.uncrowded in
      good_more n (halves p) h _ g.good_halves (adds_half p g.good_halves.once h (unfold repeated in fresh)) (half_fits p h _ new fits)
      (fresh_none p h fresh) (omega (arith, new.room, length_total (halves p))) (few_leave p h.from.0 few)

  link_kept : (h : Half) → NewHalves p h (h ∷ opposite h ∷ []) → h.cost < 2 ^ 16 → GoodHalves n (halves (added p (record_of.Link h)))
  unfolding n opposite
  link_kept h new fits =
      let (fresh, fresh') = both_fail (repeated p) h (opposite h) new.fresh in
      let (few, few') = both_fail (λ k. crowded p k.from.0) h (opposite h) new.uncrowded in
      let count = length_total (halves p) in
      let s = half_fits p h _ new fits in
      let more = adds_last (halves p) h in
      let once = good_more n (halves p) h _ g.good_halves more s (fresh_none p h fresh) (omega (arith, new.room)) (few_leave p h.from.0 few) in
      good_more n (halves p ++ (h ∷ [])) (opposite h) _ once (adds_link p h)
      (record {
        first_listed = s.second_listed;
        second_listed = s.first_listed;
        ends_differ = λ e. s.ends_differ (sym e);
        cost_least = s.cost_least;
        cost_most = s.cost_most;
        back_least = s.back_least;
        back_most = s.back_most;
      })
      (omega (arith, more (one_if (same_half (opposite h))), fresh_none p (opposite h) fresh', same_none (opposite h) h (λ e. s.ends_differ (sym e))))
      (omega (arith, more (λ k. 1), new.room))
      (omega (arith, more (one_if (leaves h.to.0)), few_leave p h.to.0 few', leaves_other h.to.0 h s.ends_differ))

  -- the same routers and K with other halves
  relisted : (q : StreamListing) → p.contents.ids ≡ q.contents.ids → p.contents.limit ≡ q.contents.limit → GoodHalves n (halves q) → Good q
  unfolding n
  relisted q ids limit w = record {
    routers_fit = rw ids at g.routers_fit;
    limit_least = omega (arith, g.limit_least);
    limit_most = omega (arith, g.limit_most);
    ids-differ = rw ids at g.ids-differ;
    ids_fit = rw ids at g.ids_fit;
    good_halves = rw ids at w;
  }

  arrived_kept : (h : Half) (ks : List Half) → GoodHalves n (halves (arrived p h ks)) → Good (arrived p h ks)
  unfolding arrived with_link
  arrived_kept h [] w = relisted _ refl refl w
  arrived_kept h (k ∷ ks) w = relisted _ refl refl w

  limit_kept : (k : ℕ) → cond {A = ℕ} (within 16 k) 0 16 ≡ 0 → Good (added p (record_of.Limit k))
  unfolding added with_limit halves
  limit_kept k e =
      let (least, most) = (within_fact 16 k).0 (holds (within 16 k) e) in
      record {
        routers_fit = g.routers_fit;
        limit_least = least;
        limit_most = most;
        ids-differ = g.ids-differ;
        ids_fit = g.ids_fit;
        good_halves = g.good_halves;
      }
    where
      holds : (b : Bool) → cond {A = ℕ} b 0 16 ≡ 0 → T b
      holds true e = tt
      holds false e = absurd (omega (arith, e))

  pub kept : (r : Record) → fault p r ≡ 0 → Fitting r → Good (added p r)
  unfolding fault added with_link n
  kept (record_of.Router id) e fits = router_kept id ((router_passes p.contents id).0 e) fits
  kept (record_of.Link h) e fits = relisted _ refl refl (link_kept h ((halves_pass p h _).0 e) fits)
  kept (record_of.Half h) e fits = arrived_kept h _ (half_kept h ((halves_pass p h _).0 e) fits)
  kept (record_of.Limit k) e fits = limit_kept k e
  kept record_of.End e fits = g
  kept (record_of.Refused number) e fits = g

pub good_listed : (p : StreamListing) → Good p → WhileRead (held p.contents)
unfolding held
good_listed p g =
    record {
      counted = record { routers_fit = g.routers_fit; links-fit = links-fit p g };
      whole = ap held (sym (contents_held p.contents));
    }
