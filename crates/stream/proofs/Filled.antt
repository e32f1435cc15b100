-- What is held, and the tables that halves are looked up in, say what is listed, lone halves too: a router, halves or a limit that no test refuses keep
-- them so. Nothing here speaks of a stream.
-- Assumes nothing.
use Prim.Native.Nat.{ℕ, ◌+◌, ◌*◌, ◌≤◌, ◌<◌, ◌^◌}
use mathlib.Core.Bool.{false, not}
use mathlib.Core.List.Memᴰ
use mathlib.Core.List.{List, [], ◌∷◌, ◌++◌}
use mathlib.Core.Logic.{◌≢◌}
use mathlib.Core.Path.{◌≡◌, refl, sym, ap, ◌∙◌}
use native.Mathlib.Omega.{arith}
use borrow.Author.Tests.{eq-eqb, ne_eqb}
use lib.Dec.{eqb, leb}
use lib.ListN.{length, get_or, set, take, replicate}
use lib.Seq.{get_or-set_other}
use Rattle.network.specs.Lists.{any}
use Rattle.topology_types.specs.declared.Half.{Half}
use Rattle.topology_types.specs.declared.Link.{Link}
use Rattle.topology_types.specs.declared.Topology.{Topology}
use Rattle.topology_types.specs.Topology.{contents, held}
use Rattle.stream_rules.specs.Record as record_of
use Rattle.stream_rules.specs.Halves.{StreamListing, link_halves, halves, same_half, opposite, link_of}
use Rattle.stream_rules.specs.Reading.{repeated, crowded, fault, with_router, with_link, with_limit, arrived, added, nothing_listed}
use Rattle.stream_rules.specs.Inner.{WhileRead, Indexed, Arisen, nothing, one_more, Stands, one_if}
use Rattle.stream_rules.proofs.Held.{contents_held, padded_length, with-router, with-link, with-limit, router_added, link_added, limit_added}
use Rattle.stream_rules.proofs.NoFault.{NewHalves, router_passes, halves_pass, one_fails, both_fail}
use Rattle.stream_rules.proofs.Halves.{length_total, length_keep, total_split, halves_total, adds_last, adds_link}
use Rattle.stream_rules.proofs.Opposite.{opposites, opposite-cost, Partner, none, some, partner, adds_half}
use Rattle.stream_rules.proofs.GoodHalves.{half_sound, links_many, same_none}
use Rattle.stream_rules.proofs.Kept.{Good, good_nothing, good_listed, kept, fresh_none, few_leave}
use Rattle.stream_rules.proofs.Tables.{tabled_none, tallied_none, cost_tells, tabled_more, tallied_more}
use Rattle.stream.specs.Inner.{Placed, Roomy, cell, cost_in, opposite_cost, paired}

pub arisen_good : {p : StreamListing} → Arisen p → Good p
arisen_good nothing = good_nothing
arisen_good (one_more {p} a r passes fits) = kept p (arisen_good a) r passes fits

pub stands_first : Stands nothing_listed (held nothing_listed.contents) (replicate 4096 0) (replicate 64 0) 0
unfolding nothing_listed halves link_halves
stands_first = record { arisen = nothing; whole = refl; many = refl; tabled = tabled_none; tallied = tallied_none }

module _ {p : StreamListing} {t : Topology} {costs leaving : List ℕ} {m : ℕ} (w : Stands p t costs leaving m) where
  pub good : Good p
  good = arisen_good w.arisen

  pub contents_are : contents t ≡ p.contents
  contents_are = ap contents w.whole ∙ contents_held p.contents

  pub listed : WhileRead t
  listed = rw w.whole (good_listed p good)

  pub few : m ≤ 512
  few = omega (arith, w.many, length_total (halves p), good.good_halves.many)

  pub id_slots : length t.id ≡ 64
  unfolding held
  id_slots = ap (λ (x : Topology). length x.id) w.whole ∙ padded_length 0 64 p.contents.ids good.routers_fit

  pub routers_are : t.routers ≡ length p.contents.ids
  unfolding held
  routers_are = ap (λ (x : Topology). x.routers) w.whole

  pub links_are : t.links ≡ length p.contents.links
  unfolding held
  links_are = ap (λ (x : Topology). x.links) w.whole

  pub ids_are : p.contents.ids ≡ take t.routers t.id
  unfolding contents
  ids_are = ap (λ c. c.ids) (sym contents_are)

  -- what the tables have of places that are listed
  pub repeated_by : (h : Half) → h.from.0 < 64 → h.to.0 < 64 → repeated p h ≡ not (eqb (cost_in costs h) 0)
  unfolding repeated
  repeated_by h f g = sym (rw (w.tabled.at h f g) (cost_tells _ (halves p) good.good_halves.each h))

  pub crowded_by : (u : ℕ) → u < 64 → crowded p u ≡ leb 16 (get_or leaving u 0)
  unfolding crowded
  crowded_by u h = rw (w.tallied.at u h ∙ sym (length_keep _ (halves p)))

  pub indexed : Indexed p t.routers m costs leaving
  indexed =
      record {
        routers = routers_are;
        many = w.many;
        listed = λ h f g. sym (repeated_by h f g);
        out = λ u h. w.tallied.at u h ∙ sym (length_keep _ (halves p));
      }

  -- a router
  module _ (id : ℕ) (passes : fault p (record_of.Router id) ≡ 0) where
    pub room_router : t.routers < 64
    unfolding fault
    room_router = omega (arith, ((router_passes p.contents id).0 passes).room, routers_are)

    pub past_router : id < 2 ^ 32 → Stands (added p (record_of.Router id)) (with-router id t) costs leaving m
    unfolding added with_router halves
    past_router fits =
        record {
          arisen = one_more w.arisen (record_of.Router id) passes fits;
          whole = router_added t listed id room_router ∙ ap (λ c. held (with_router c id)) contents_are;
          many = w.many;
          tabled = w.tabled;
          tallied = w.tallied;
        }

  -- a limit
  pub past_limit : (k : ℕ) → fault p (record_of.Limit k) ≡ 0 → Stands (added p (record_of.Limit k)) (with-limit k t) costs leaving m
  unfolding added with_limit halves
  past_limit k passes =
      record {
        arisen = one_more w.arisen (record_of.Limit k) passes tt;
        whole = limit_added t listed k ∙ ap (λ c. held (with_limit c k)) contents_are;
        many = w.many;
        tabled = w.tabled;
        tallied = w.tallied;
      }

  -- places that are listed are below 64
  place : (u : ℕ) → u < length p.contents.ids → u < 64
  place u h = omega (arith, good.routers_fit)

  leaving_room : (u : ℕ) → u < 64 → crowded p u ≡ false → get_or leaving u 0 < 16
  leaving_room u h e = omega (arith, few_leave p u e, w.tallied.at u h)

  -- a link: two halves more
  module _ (h : Half) (passes : fault p (record_of.Link h) ≡ 0) where
    new_link : NewHalves p h (h ∷ opposite h ∷ [])
    unfolding fault
    new_link = (halves_pass p h _).0 passes

    pub room_link : t.links < 256
    room_link = omega (arith, new_link.room, links_are, length_total (halves p), halves_total (λ k. 1) p, links_many p.contents.links)

    first_in : h.from.0 < 64
    first_in = place h.from.0 new_link.from_listed

    second_in : h.to.0 < 64
    second_in = place h.to.0 new_link.to_listed

    pub roomy_first : Roomy leaving h
    roomy_first =
        let (free, free') = both_fail (λ k. crowded p k.from.0) h (opposite h) new_link.uncrowded in
        record { placed = record { from_inside = first_in; to_inside = second_in }; room = leaving_room h.from.0 first_in free }

    pub roomy_second : Roomy (set leaving h.from.0 (get_or leaving h.from.0 0 + 1)) (opposite h)
    unfolding opposite
    roomy_second =
        let (free, free') = both_fail (λ k. crowded p k.from.0) h (opposite h) new_link.uncrowded in
        let apart : h.to.0 ≢ h.from.0 = λ e. new_link.ends_differ (sym e) in
        record {
          placed = record { from_inside = second_in; to_inside = first_in };
          room = rw (get_or-set_other leaving h.from.0 h.to.0 (get_or leaving h.from.0 0 + 1) 0 apart) (leaving_room h.to.0 second_in free');
        }

    pub past_link : h.cost < 2 ^ 16 →
        let costs₁ = set costs (cell h) h.cost in
        let leaving₁ = set leaving h.from.0 (get_or leaving h.from.0 0 + 1) in
        Stands (added p (record_of.Link h)) (with-link (link_of h (opposite h)) t)
        (set costs₁ (cell (opposite h)) (opposite h).cost)
        (set leaving₁ (opposite h).from.0 (get_or leaving₁ (opposite h).from.0 0 + 1))
        (m + 2)
    unfolding opposite
    past_link fits =
        let (fresh, fresh') = both_fail (repeated p) h (opposite h) new_link.fresh in
        let more = adds_last (halves p) h in
        let both = adds_link p h in
        let apart = same_none (opposite h) h (λ e. new_link.ends_differ (sym e)) in
        record {
          arisen = one_more w.arisen (record_of.Link h) passes fits;
          whole =
              unfold added in
              (link_added t listed (link_of h (opposite h)) room_link ∙ ap (λ c. held (with_link c (link_of h (opposite h)))) contents_are);
          many =
              omega (
                arith,
                w.many,
                length_total (halves p),
                length_total (halves (added p (record_of.Link h))),
                more (λ k. 1),
                both (λ k. 1),
              );
          tabled =
              tabled_more (halves p ++ (h ∷ [])) _ (opposite h) both refl refl second_in first_in _
              (tabled_more (halves p) _ h more refl refl first_in second_in costs w.tabled (fresh_none p h fresh))
              (omega (arith, more (one_if (same_half (opposite h))), fresh_none p (opposite h) fresh', apart));
          tallied =
              tallied_more (halves p ++ (h ∷ [])) _ (opposite h) both refl refl second_in first_in _
              (tallied_more (halves p) _ h more refl refl first_in second_in leaving w.tallied);
        }

  -- one half more
  module _ (h : Half) (passes : fault p (record_of.Half h) ≡ 0) where
    new_half : NewHalves p h (h ∷ [])
    unfolding fault
    new_half = (halves_pass p h _).0 passes

    fresh : repeated p h ≡ false
    fresh = one_fails (repeated p) h new_half.fresh

    unlisted : any (same_half h) (halves p) ≡ false
    unfolding repeated
    unlisted = fresh

    from_in : h.from.0 < 64
    from_in = place h.from.0 new_half.from_listed

    to_in : h.to.0 < 64
    to_in = place h.to.0 new_half.to_listed

    pub roomy : Roomy leaving h
    roomy =
        let free = one_fails (λ k. crowded p k.from.0) h new_half.uncrowded in
        record { placed = record { from_inside = from_in; to_inside = to_in }; room = leaving_room h.from.0 from_in free }

    pub opposite_placed : Placed (opposite h)
    unfolding opposite
    opposite_placed = record { from_inside = to_in; to_inside = from_in }

    -- what the table has of its opposite
    cost_is : opposite_cost costs h ≡ opposite-cost p good.good_halves.once h unlisted
    unfolding opposite
    cost_is = w.tabled.at (opposite h) to_in from_in

    abbrev Other : List Half → Type 0
    Other = Partner p good.good_halves.once h unlisted

    abbrev others : List Half
    others = opposites p good.good_halves.once h unlisted

    other : Other others
    other = partner p good.good_halves.once h unlisted

    -- the opposite is lone, so there is room for the link
    pub room_half : opposite_cost costs h ≢ 0 → t.links < 256
    room_half some-cost = go other refl
      where
        go : {ks : List Half} → Other ks → others ≡ ks → t.links < 256
        go (none z) is = absurd (some-cost (cost_is ∙ z))
        go (some k stands to from c) is =
            let count = halves_total (λ k. 1) p in
            let kept = total_split (same_half (opposite h)) (λ k. 1) p.lone in
            let one_kept = length_total others in
            omega (arith, new_half.room, links_are, length_total (halves p), links_many p.contents.links, ap length is)

    -- what is held then: with a link more, or the same
    held_then : paired t h (opposite_cost costs h) ≡ held (added p (record_of.Half h)).contents
    unfolding added arrived link_of halves paired
    held_then = go other
      where
        go : {ks : List Half} → Other ks → paired t h (opposite_cost costs h) ≡ held (arrived p h ks).contents
        go (none z) = rw (eq-eqb (opposite_cost costs h) 0 (cost_is ∙ z)) w.whole
        go (some k stands to from e) =
            let among = Memᴰ.append_right (link_halves p.contents.links) stands in
            let sound = half_sound (length p.contents.ids) (halves p) good.good_halves.each k among in
            let costs-some : opposite_cost costs h ≢ 0 = λ z. omega (arith, cost_is, e, z, sound.cost_least) in
            let made : Link = record { first = h.to; second = h.from; cost = opposite_cost costs h; back = h.cost } in
            let same : made ≡ link_of k h =
            λ i. record { first = record { 0 = sym to i }; second = record { 0 = sym from i }; cost = (cost_is ∙ e) i; back = h.cost } in
            rw (ne_eqb (opposite_cost costs h) 0 costs-some)
            (link_added t listed made (room_half costs-some) ∙ (λ i. held (with_link (contents_are i) (same i))))

    pub past_half : h.cost < 2 ^ 16 → {r : Topology} {costs₁ leaving₁ : List ℕ} →
        (r ≡ paired t h (opposite_cost costs h))
        × (costs₁ ≡ set costs (h.from.0 * 64 + h.to.0) h.cost)
        × (leaving₁ ≡ set leaving h.from.0 (get_or leaving h.from.0 0 + 1)) →
        Stands (added p (record_of.Half h)) r costs₁ leaving₁ (m + 1)
    past_half fits (is, c₁, l₁) =
        let adds = adds_half p good.good_halves.once h unlisted in
        record {
          arisen = one_more w.arisen (record_of.Half h) passes fits;
          whole = is ∙ held_then;
          many = omega (arith, w.many, length_total (halves p), length_total (halves (added p (record_of.Half h))), adds (λ k. 1));
          tabled = rw c₁ (tabled_more (halves p) _ h adds refl refl from_in to_in costs w.tabled (fresh_none p h fresh));
          tallied = rw l₁ (tallied_more (halves p) _ h adds refl refl from_in to_in leaving w.tallied);
        }
