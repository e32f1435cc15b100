-- Numbers that halves add up to: how many there are, how many leave a place, how many are the same as one, what they cost. What a record lists adds its
-- halves to each of these numbers, wherever they stand among the others; that is all that is asked of the order of halves.
-- Assumes nothing.
use Prim.Native.Nat.{ℕ, ◌+◌, ◌≤◌}
use mathlib.Core.Bool.{Bool, true, false, cond, not, ◌||◌, and_comm}
use mathlib.Core.List.{List, [], ◌∷◌, ◌++◌, Memᴰ}
use mathlib.Core.Path.{◌≡◌, refl, sym, ◌∙◌}
use native.Mathlib.Omega.{arith}
use lib.Dec.{eqb}
use lib.ListN.{length}
use Rattle.network.specs.Lists.{any, keep}
use Rattle.topology_types.specs.declared.Half.{Half}
use Rattle.topology_types.specs.declared.Link.{Link}
use Rattle.stream_rules.specs.Record as record_of
use Rattle.stream_rules.specs.Halves.{StreamListing, first_half, second_half, link_halves, halves, same_half, opposite, link_of}
use Rattle.stream_rules.specs.Reading.{with_link, added}
use Rattle.stream_rules.specs.Inner.{total, one_if}

pub total_append : (f : Half → ℕ) (hs ks : List Half) → total f (hs ++ ks) ≡ total f hs + total f ks
unfolding total
total_append f [] ks = omega arith
total_append f (h ∷ hs) ks = omega (arith, total_append f hs ks)

pub total_most : (f g : Half → ℕ) (hs : List Half) → ((k : Half) → f k ≤ g k) → total f hs ≤ total g hs
unfolding total
total_most f g [] h = omega arith
total_most f g (k ∷ hs) h = omega (arith, h k, total_most f g hs h)

-- an element is one of those that are added up
pub total_part : (f : Half → ℕ) (hs : List Half) {k : Half} → Memᴰ k hs → f k ≤ total f hs
unfolding total
total_part f [] {k = k} x' = elim x' [ ]
total_part f (h ∷ hs) (Memᴰ.head e) = rw e (omega arith)
total_part f (h ∷ hs) (Memᴰ.tail m) = omega (arith, total_part f hs m)

pub length_total : (hs : List Half) → length hs ≡ total (λ k. 1) hs
unfolding total
length_total [] = refl
length_total (h ∷ hs) = omega (arith, length_total hs)

module _ (test : Half → Bool) where
  -- those that pass a test and those that do not, together
  pub total_split : (f : Half → ℕ) (hs : List Half) → total f hs ≡ total f (keep test hs) + total f (keep (λ k. not (test k)) hs)
  unfolding total
  total_split f [] = refl
  total_split f (h ∷ hs) = go (test h) (total_split f hs)
    where
      kept : List Half
      kept = keep test hs

      rest : List Half
      rest = keep (λ k. not (test k)) hs

      go : (b : Bool) → total f hs ≡ total f kept + total f rest →
          f h + total f hs ≡ total f (cond b (h ∷ kept) kept) + total f (cond (not b) (h ∷ rest) rest)
      go true e = omega arith
      go false e = omega arith

  pub total_keep : (f : Half → ℕ) (hs : List Half) → total f (keep test hs) ≡ total (λ k. cond (test k) (f k) 0) hs
  unfolding total
  total_keep f [] = refl
  total_keep f (h ∷ hs) = go (test h) (total_keep f hs)
    where
      go : (b : Bool) → total f (keep test hs) ≡ total (λ k. cond (test k) (f k) 0) hs →
          total f (cond b (h ∷ keep test hs) (keep test hs)) ≡ cond b (f h) 0 + total (λ k. cond (test k) (f k) 0) hs
      go true e = omega arith
      go false e = omega arith

  pub length_keep : (hs : List Half) → length (keep test hs) ≡ total (one_if test) hs
  unfolding one_if
  length_keep hs = length_total (keep test hs) ∙ total_keep (λ k. 1) hs

  -- none passes
  pub none_total : (hs : List Half) → any test hs ≡ false → total (one_if test) hs ≡ 0
  unfolding total one_if
  none_total [] e = refl
  none_total (h ∷ hs) e = go (test h) e (none_total hs)
    where
      go : (b : Bool) → (b || any test hs) ≡ false → (any test hs ≡ false → total (one_if test) hs ≡ 0) → cond b 1 0 + total (one_if test) hs ≡ 0
      go true e rest = let never : ◌≡◌ {A = ℕ} 0 1 = cc in absurd (omega arith)
      go false e rest = omega (arith, rest e)

  pub total_none : (hs : List Half) → total (one_if test) hs ≡ 0 → any test hs ≡ false
  unfolding total one_if
  total_none [] e = refl
  total_none (h ∷ hs) e = go (test h) e (total_none hs)
    where
      go : (b : Bool) → cond b 1 0 + total (one_if test) hs ≡ 0 → (total (one_if test) hs ≡ 0 → any test hs ≡ false) → (b || any test hs) ≡ false
      go true e rest = absurd (omega arith)
      go false e rest = rest (omega arith)

  -- what those add up to of which there are none
  pub nothing_kept : (f : Half → ℕ) (hs : List Half) → total (one_if test) hs ≡ 0 → total (λ k. cond (test k) (f k) 0) hs ≡ 0
  nothing_kept f hs e = sym (total_keep f hs) ∙ go (keep test hs) (length_keep hs ∙ e)
    where
      go : (ks : List Half) → length ks ≡ 0 → total f ks ≡ 0
      go [] e = unfold total in refl
      go (k ∷ ks) e = absurd (omega arith)

-- one half more, wherever it stands
abbrev pub Adds : List Half → Half → List Half → Type 0
Adds hs h more = (f : Half → ℕ) → total f more ≡ total f hs + f h

pub adds_last : (hs : List Half) (h : Half) → Adds hs h (hs ++ (h ∷ []))
unfolding total
adds_last hs h f = omega (arith, total_append f hs (h ∷ []))

-- the halves of links with a link more
pub links_more : (f : Half → ℕ) (ls : List Link) (l : Link) →
    total f (link_halves (ls ++ (l ∷ []))) ≡ total f (link_halves ls) + (f (first_half l) + f (second_half l))
unfolding total link_halves
links_more f [] l = omega arith
links_more f (k ∷ ls) l = omega (arith, links_more f ls l)

pub halves_total : (f : Half → ℕ) (p : StreamListing) → total f (halves p) ≡ total f (link_halves p.contents.links) + total f p.lone
unfolding halves
halves_total f p = total_append f (link_halves p.contents.links) p.lone

-- a record 2 adds both halves
pub adds_link : (p : StreamListing) (h : Half) → Adds (halves p ++ (h ∷ [])) (opposite h) (halves (added p (record_of.Link h)))
unfolding added with_link link_of first_half second_half opposite
adds_link p h f =
    omega (
      arith,
      halves_total f (added p (record_of.Link h)),
      links_more f p.contents.links (link_of h (opposite h)),
      halves_total f p,
      adds_last (halves p) h f,
    )

-- both halves of a link are among those of links, or none
pub both_or_none : (h : Half) (ls : List Link) → total (one_if (same_half (opposite h))) (link_halves ls) ≡ total (one_if (same_half h)) (link_halves ls)
unfolding total link_halves one_if same_half opposite first_half second_half
both_or_none h [] = refl
both_or_none h (l ∷ ls) =
    rw (
      and_comm (eqb h.to.0 l.first.0) (eqb h.from.0 l.second.0),
      and_comm (eqb h.to.0 l.second.0) (eqb h.from.0 l.first.0),
    )
    (omega (arith, both_or_none h ls))
