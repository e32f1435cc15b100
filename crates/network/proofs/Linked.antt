-- A network of sound links is well formed: each arc comes from a link, so it is as sound as the link, and what differs between links differs between
-- arcs.
-- Assumes nothing.
use Prim.Native.Nat.{ℕ, ◌<◌}
use mathlib.Core.List.Memᴰ
use mathlib.Core.List.{List, [], ◌∷◌, Memᴰ}
use mathlib.Core.Logic.{◌↔◌, ◌≢◌, ◌⊎◌, inl, inr, ⊎_elim}
use mathlib.Core.Path.{◌≡◌, refl, sym, ◌∙◌, ap, subst}
use native.Mathlib.Decide.{dec_lt}
use native.Mathlib.Omega.{arith}
use lib.Dec.{T}
use lib.ListN.{length, length-append}
use Rattle.network.specs.Lists.{Pairwise, nothing, Distinct}
use Rattle.network.specs.Network.{Arc, Network, size, arcs_of, greatest_cost, SoundArc, WellFormed, Link, arcs_among, linked}
use Rattle.network.specs.Network.{sound_links}
use Rattle.network.specs.Distance.{PathTo, arrived, along}
use Rattle.network.specs.Theorems.Network.{SoundLinks, LinkedWellFormed, LinkOf, LinkedExact, LinkedConnected}
use Rattle.network.proofs.Sort.{pairwise_map}
use Rattle.network.proofs.SoundLinks.{sound_links_exact}
use Rattle.network.proofs.Below.{get_d_below, get_d_past, length_map_below}
use Rattle.network.proofs.Arcs.{Seen, From, link-in, arc_from, from_arc, arcs_pairwise, same-pair}

module _ (ids : List ℕ) (ls : List Link) (t : T (sound_links ids ls)) where
  n : Network
  n = linked ids ls

  -- it has the IDs and as many links as were given; the rest goes by these
  given_ids : n.ids ≡ ids
  unfolding n linked
  given_ids = refl

  given_links : n.links ≡ length ls
  unfolding n linked
  given_links = refl

  given_size : size n ≡ length ids
  unfolding size
  given_size = ap length given_ids

  -- the arcs of a place are those of the links, and past the last place there are none
  arcs_within : (u : ℕ) → u < length ids → arcs_of n u ≡ arcs_among u 0 ls
  unfolding n arcs_of linked
  arcs_within u h = get_d_below (λ v. arcs_among v 0 ls) (length ids) u [] h

  arcs_are : (u : ℕ) → (arcs_of n u ≡ arcs_among u 0 ls) ⊎ (arcs_of n u ≡ [])
  unfolding n arcs_of linked
  arcs_are u = go (dec_lt u (length ids))
    where
      go : Dec (u < length ids) → (arcs_of n u ≡ arcs_among u 0 ls) ⊎ (arcs_of n u ≡ [])
      go (yes h) = inl (arcs_within u h)
      go (no h) = inr (get_d_past (λ v. arcs_among v 0 ls) (length ids) u [] (omega arith))

  pairwise : (R : Arc → Arc → Type 0) (u : ℕ) → Pairwise R (arcs_among u 0 ls) → Pairwise R (arcs_of n u)
  pairwise R u p = ⊎_elim (λ e. subst (Pairwise R) (sym e) p) (λ e. subst (Pairwise R) (sym e) nothing) (arcs_are u)

  facts : SoundLinks ids ls
  facts = (sound_links_exact ids ls).0 t

  sound_arc : (u : ℕ) (a : Arc) → From u 0 ls a → SoundArc n u a
  unfolding greatest_cost
  sound_arc u a w =
      let g = facts.each w.link (link-in w) in
      let sized = given_size in
      record {
        place = ⊎_elim (λ f. omega arith) (λ f. omega arith) w.seen;
        other = ⊎_elim (λ f e. g.ends_differ (omega arith)) (λ f e. g.ends_differ (omega arith)) w.seen;
        cost_least = ⊎_elim (λ f. omega arith) (λ f. omega arith) w.seen;
        cost_most = ⊎_elim (λ f. omega arith) (λ f. omega arith) w.seen;
        numbered = omega (arith, given_links, w.turn, ap length w.stands, length-append w.before (w.link ∷ w.after));
      }

  numbers_rise : (u : ℕ) → Pairwise (λ a b. a.link < b.link) (arcs_of n u)
  numbers_rise u = pairwise _ u (arcs_pairwise u (λ a b. a.link < b.link) (λ number l later a b out seen turn w. omega (arith, w.turn)) 0 facts.pairs-differ)

  each_place : length n.arcs ≡ size n
  unfolding n linked
  each_place = length_map_below _ (length ids) ∙ sym given_size

  well_formed : WellFormed n
  well_formed =
      record {
        each_place = each_place;
        ids-differ = subst Distinct (sym given_ids) facts.ids-differ;
        sound = λ u a m.
            ⊎_elim (λ e. sound_arc u a (arc_from u 0 ls a (subst (Memᴰ a) e m)))
            (λ e. absurd (Memᴰ.not-nil (subst (Memᴰ a) e m))) (arcs_are u);
        places_differ = λ u.
            pairwise _ u
            (arcs_pairwise u (λ a b. a.to ≢ b.to)
            (λ number l later a b out seen turn w e. out w.link (link-in w) (same-pair a b seen w.seen e)) 0 facts.pairs-differ);
        links_differ = λ u. pairwise_map (λ a b m k (h : a.link < b.link) e. omega arith) (numbers_rise u);
      }

  arc_place : (u : ℕ) (a : Arc) → Memᴰ a (arcs_of n u) → a.to < length ids
  arc_place u a m = let sized = given_size in omega (arith, (well_formed.sound u a m).place)

  arcs_exact : (u : ℕ) → u < length ids → (a : Arc) → Memᴰ a (arcs_of n u) ↔ LinkOf ls u a
  arcs_exact u h a = (
    λ m.
        let w = arc_from u 0 ls a (subst (Memᴰ a) (arcs_within u h) m) in
        record {
          before = w.before;
          link = w.link;
          after = w.after;
          stands = w.stands;
          number = omega (arith, w.turn);
          ends = w.seen;
        },
    λ w.
        subst (Memᴰ a) (sym (arcs_within u h))
        (from_arc u 0 ls (λ l m. (facts.each l m).ends_differ) w.before w.link w.after a w.stands w.ends
        (omega (arith, w.number))),
  )

  -- an arc has its link's other arc for the way back
  way_back : (u : ℕ) → u < length ids → (a : Arc) → Memᴰ a (arcs_of n u) → (b : Arc) × Memᴰ b (arcs_of n a.to) × (b.to ≡ u)
  way_back u h a m =
      let w = (arcs_exact u h a).0 m in
      let from : (b : Arc) → Seen a.to w.link b → b.link ≡ a.link → Memᴰ b (arcs_of n a.to) = λ b seen number.
      (arcs_exact a.to (arc_place u a m) b).1
      record { before = w.before; link = w.link; after = w.after; stands = w.stands; number = number ∙ w.number; ends = seen } in
      ⊎_elim (λ (f, g, c). (record { to = u; cost = w.link.back; link = a.link }, from _ (inr (sym g, sym f, refl)) refl, refl))
      (λ (f, g, c). (record { to = u; cost = w.link.cost; link = a.link }, from _ (inl (sym g, sym f, refl)) refl, refl)) w.ends

  -- a path walked back, before a path from its start on
  back : {d u : ℕ} (w : ℕ) → PathTo n d u → u < length ids → PathTo n w u → PathTo n w d
  back w (arrived e) h q = subst (PathTo n w) e q
  back {u} w (along a m p) h q =
      let (b, there, e) = way_back u h a m in back w p (arc_place u a m) (along b there (subst (PathTo n w) (sym e) q))

  join : {d middle u : ℕ} → PathTo n middle u → PathTo n d middle → PathTo n d u
  join {d} (arrived e) q = subst (PathTo n d) (sym e) q
  join (along a m p) q = along a m (join p q)

pub linked_well_formed : LinkedWellFormed
unfolding n
linked_well_formed = well_formed

pub linked_exact : LinkedExact
unfolding n
linked_exact ids ls t =
    record {
      same_ids = given_ids ids ls t;
      same-links = given_links ids ls t;
      arcs = arcs_exact ids ls t;
      in_order = numbers_rise ids ls t;
    }

pub linked_connected : LinkedConnected
unfolding n
linked_connected ids ls t middle paths d u d_in u_in = join ids ls t (paths u u_in) (back ids ls t d (paths d d_in) d_in (arrived refl))
