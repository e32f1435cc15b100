-- A link that is new among those before it is taken with no fault, by one record or by two, and is the next link then. The tests are told by what holds
-- of the whole list of links.
-- Assumes nothing.
use Prim.Native.Nat.{ℕ, ◌+◌, ◌≤◌, ◌<◌}
use mathlib.Core.Bool.{Bool, true, false, cond}
use mathlib.Core.List.Memᴰ
use mathlib.Core.List.{List, [], ◌∷◌, ◌++◌, map, map-append, Memᴰ}
use mathlib.Core.Logic.{◌≢◌, inl, inr}
use mathlib.Core.Path.{◌≡◌, refl, sym, ap, ◌∙◌}
use native.Mathlib.Omega.{arith}
use borrow.Author.Tests.{eq-eqb, ne_eqb, eqb-true}
use lib.Dec.{eqb}
use lib.ListN.{length, length-append}
use lib.Seq.{append_snoc}
use Rattle.network.specs.Lists.{keep}
use Rattle.network.specs.Network.{Arc, arcs_among}
use Rattle.network.specs.Theorems.Network.{SoundLinks, SoundLink, SamePair}
use Rattle.network.proofs.Lists.{pairwise_split}
use Rattle.topology_types.specs.declared.Half.{Half}
use Rattle.topology_types.specs.declared.Link.{Link}
use Rattle.topology_types.specs.Topology.{seen}
use Rattle.topology_types.proofs.Arcs.{ending, arcs_more, arcs_stay, ends_at}
use Rattle.stream_rules.specs.declared.Reading.{Reading}
use Rattle.stream_rules.specs.Record.{Record}
use Rattle.stream_rules.specs.Record as record_of
use Rattle.stream_rules.specs.Halves.{StreamListing, first_half, second_half, same_half, opposite, link_of}
use Rattle.stream_rules.specs.Reading.{fault, with_link, arrived, added, width, is_end, in_turn}
use Rattle.stream_rules.specs.Theorems.{HalfListed}
use Rattle.stream_rules.proofs.Verdicts.{faults_each}
use Rattle.stream_rules.proofs.InTurn.{goes_on}
use Rattle.topology.proofs.Rewritten.{link_records}

-- the reading goes on so, from somewhere
pub record Goes (r : Reading) (p : StreamListing) (rs : List Record) : Type 0 where
  pub at : ℕ
  pub on : r ≡ in_turn at p rs

pub first : {r q : Reading} {p : StreamListing} {rs : List Record} → r ≡ q → Goes q p rs → Goes r p rs
first e g = record { at = g.at; on = e ∙ g.on }

pub followed : {r : Reading} {p q : StreamListing} {rs ss : List Record} → Goes r p rs → ((at : ℕ) → Goes (in_turn at p rs) q ss) → Goes r q ss
followed g h = first g.on (h g.at)

-- a record taken, by what is listed with it
pub takes : (at : ℕ) (p : StreamListing) (r : Record) (rs : List Record) → fault p r ≡ 0 → is_end r ≡ false → {q : StreamListing} → added p r ≡ q →
    Goes (in_turn at p (r ∷ rs)) q rs
takes at p r rs none more e =
    record { at = at + width r; on = goes_on at p r rs none more ∙ ap (λ (q : StreamListing). in_turn (at + width r) q rs) e }

-- what is told of a whole list of links
pub record GoodLinks (ids : List ℕ) (ls : List Link) : Type 0 where
  pub facts : SoundLinks ids (map seen ls)
  pub few : length ls ≤ 256
  pub neighbours : (u : ℕ) → u < length ids → length (arcs_among u 0 (map seen ls)) ≤ 16

-- a link that joins two places gives an arc to each that sends a half
leaving_arcs : (u number : ℕ) (ls : List Link) → ((l : Link) → Memᴰ l ls → l.first.0 ≢ l.second.0) →
    length (keep (λ l. eqb l.first.0 u) ls) + length (keep (λ l. eqb l.second.0 u) ls) ≡ length (arcs_among u number (map seen ls))
unfolding arcs_among seen
leaving_arcs u number [] apart = refl
leaving_arcs u number (l ∷ ls) apart =
    go (eqb l.first.0 u) refl (eqb l.second.0 u) refl _ _ _ (leaving_arcs u _ ls (λ k m. apart k (Memᴰ.tail m)))
  where
    firsts : List Link
    firsts = keep (λ k. eqb k.first.0 u) ls

    seconds : List Link
    seconds = keep (λ k. eqb k.second.0 u) ls

    go : (a : Bool) → eqb l.first.0 u ≡ a → (b : Bool) → eqb l.second.0 u ≡ b → (x y : Arc) (xs : List Arc) →
        length firsts + length seconds ≡ length xs →
        length (cond a (l ∷ firsts) firsts) + length (cond b (l ∷ seconds) seconds) ≡ length (cond a (x ∷ xs) (cond b (y ∷ xs) xs))
    go true e true f x y xs h =
        absurd (apart l (Memᴰ.head refl) (eqb-true l.first.0 u e ∙ sym (eqb-true l.second.0 u f)))
    go true e false f x y xs h = omega arith
    go false e true f x y xs h = omega arith
    go false e false f x y xs h = omega arith

module _ (k : ℕ) (ids : List ℕ) where
  abbrev pub linked : List Link → List Half → StreamListing
  linked ls lone = record { contents = record { ids = ids; links = ls; limit = k }; lone = lone }

  module _ (before : List Link) (l : Link) (after : List Link) (s : GoodLinks ids (before ++ (l ∷ after))) where
    parts : map seen (before ++ (l ∷ after)) ≡ map seen before ++ (seen l ∷ map seen after)
    parts = map-append seen before (l ∷ after)

    sound : SoundLink (length ids) (seen l)
    sound = s.facts.each (seen l) (Memᴰ.map seen (Memᴰ.append_right before (Memᴰ.head refl)))

    -- no link before joins the same pair
    unlinked : (link : Link) → Memᴰ link before → SamePair (seen link) (seen l) → ⊥
    unlinked link m = pairwise_split (map seen before) (seen l) (map seen after) (rw parts at s.facts.pairs-differ) (seen link) (Memᴰ.map seen m)

    -- nor is a half of it listed, if it is none of the lone ones
    module _ (lone : List Half) where
      unlisted : ((h : Half) → Memᴰ h lone → h.from.0 ≡ l.first.0 → ⊥) → HalfListed (linked before lone) l.first.0 l.second.0 → ⊥
      unfolding seen
      unlisted other (HalfListed.going link m e f) = unlinked link m (inl (e, f))
      unlisted other (HalfListed.coming link m e f) = unlinked link m (inr (f, e))
      unlisted other (HalfListed.alone h m e f) = other h m e

      unlisted_back : ((h : Half) → Memᴰ h lone → h.from.0 ≡ l.second.0 → ⊥) → HalfListed (linked before lone) l.second.0 l.first.0 → ⊥
      unfolding seen
      unlisted_back other (HalfListed.going link m e f) = unlinked link m (inr (e, f))
      unlisted_back other (HalfListed.coming link m e f) = unlinked link m (inl (f, e))
      unlisted_back other (HalfListed.alone h m e f) = other h m e

    -- a place where the link ends has room for a half
    room_at : (u : ℕ) → u < length ids → ending u (seen l) ≡ 1 →
        length (keep (λ link. eqb link.first.0 u) before) + length (keep (λ link. eqb link.second.0 u) before) < 16
    unfolding seen
    room_at u h e =
        let most = rw (parts, ← append_snoc (map seen before) (seen l) (map seen after)) at (s.neighbours u h) in
        omega (
          arith,
          leaving_arcs u 0 before (λ link m. (s.facts.each (seen link) (Memᴰ.map seen (Memᴰ.append_left (l ∷ after) m))).ends_differ),
          arcs_more u 0 (map seen before) (seen l),
          arcs_stay u (map seen before ++ (seen l ∷ [])) (map seen after),
        )

    few : length before + 1 ≤ 256
    few = omega (arith, s.few, length-append before (l ∷ after))

    room_first : length (keep (λ link. eqb link.first.0 l.first.0) before) + length (keep (λ link. eqb link.second.0 l.first.0) before) < 16
    unfolding seen
    room_first = room_at l.first.0 sound.first_listed (ends_at l.first.0 (seen l) (inl refl))

    room_second : length (keep (λ link. eqb link.first.0 l.second.0) before) + length (keep (λ link. eqb link.second.0 l.second.0) before) < 16
    unfolding seen
    room_second = room_at l.second.0 sound.second_listed (ends_at l.second.0 (seen l) (inr refl))

    no_lone : (u : ℕ) (h : Half) → Memᴰ h [] → h.from.0 ≡ u → ⊥
    no_lone u h m e = Memᴰ.not-nil m

    link_passes : fault (linked before []) (record_of.Link (first_half l)) ≡ 0
    unfolding first_half seen
    link_passes =
        ((faults_each (linked before [])).links (first_half l)).says_0.1 (
          (
            (
              (((sound.first_listed, sound.second_listed), sound.ends_differ), λ z. omega (arith, sound.cost_least, z)),
              (unlisted [] (no_lone _), unlisted_back [] (no_lone _)),
            ),
            omega (arith, few),
          ),
          (omega (arith, room_first), omega (arith, room_second)),
        )

    first_passes : fault (linked before []) (record_of.Half (first_half l)) ≡ 0
    unfolding first_half seen
    first_passes =
        ((faults_each (linked before [])).halves (first_half l)).says_0.1 (
          (
            ((((sound.first_listed, sound.second_listed), sound.ends_differ), λ z. omega (arith, sound.cost_least, z)), unlisted [] (no_lone _)),
            omega (arith, few),
          ),
          omega (arith, room_first),
        )

    -- the first half is lone, and it leaves the other end
    other_end : (h : Half) → Memᴰ h (first_half l ∷ []) → h.from.0 ≡ l.second.0 → ⊥
    unfolding first_half seen
    other_end h m e = sound.ends_differ (sym (ap (λ (x : Half). x.from.0) (Memᴰ.eq_of_singleton m)) ∙ e)

    second_passes : fault (linked before (first_half l ∷ [])) (record_of.Half (second_half l)) ≡ 0
    unfolding first_half second_half seen
    second_passes =
        let leaves_other = ne_eqb l.first.0 l.second.0 sound.ends_differ in
        ((faults_each (linked before (first_half l ∷ []))).halves (second_half l)).says_0.1 (
          (
            (
              (((sound.second_listed, sound.first_listed), λ e. sound.ends_differ (sym e)), λ z. omega (arith, sound.back_least, z)),
              unlisted_back (first_half l ∷ []) other_end,
            ),
            omega (arith, few),
          ),
          rw leaves_other (omega (arith, room_second)),
        )

    -- with it the link is there
    both_added : l.cost ≡ l.back → added (linked before []) (record_of.Link (first_half l)) ≡ linked (before ++ (l ∷ [])) []
    unfolding added with_link link_of opposite first_half
    both_added e = ap (λ (link : Link). linked (before ++ (link ∷ [])) []) (λ i. record { first = l.first; second = l.second; cost = l.cost; back = e i })

    first_added : added (linked before []) (record_of.Half (first_half l)) ≡ linked before (first_half l ∷ [])
    unfolding added arrived
    first_added = refl

    second_added : added (linked before (first_half l ∷ [])) (record_of.Half (second_half l)) ≡ linked (before ++ (l ∷ [])) []
    unfolding added arrived same_half with_link link_of opposite first_half second_half
    second_added =
        let first-end = eq-eqb l.first.0 l.first.0 refl in
        let second-end = eq-eqb l.second.0 l.second.0 refl in
        rw (first-end, second-end) (rw (first-end, second-end))

    pub link_taken : (at : ℕ) (more : List Record) → Goes (in_turn at (linked before []) (link_records l ++ more)) (linked (before ++ (l ∷ [])) []) more
    unfolding link_records is_end
    link_taken at more = either (eqb l.cost l.back) refl
      where
        either : (b : Bool) → eqb l.cost l.back ≡ b →
            Goes
            (in_turn at (linked before [])
            (cond b (record_of.Link (first_half l) ∷ []) (record_of.Half (first_half l) ∷ record_of.Half (second_half l) ∷ []) ++ more))
            (linked (before ++ (l ∷ [])) []) more
        either true e = takes at (linked before []) (record_of.Link (first_half l)) more link_passes refl (both_added (eqb-true _ _ e))
        either false e =
            let lone =
            takes at (linked before []) (record_of.Half (first_half l)) (record_of.Half (second_half l) ∷ more) first_passes refl first_added in
            first lone.on (takes lone.at (linked before (first_half l ∷ [])) (record_of.Half (second_half l)) more second_passes refl second_added)
