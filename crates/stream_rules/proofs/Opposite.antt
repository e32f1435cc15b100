-- No half is listed twice, so of a half that is new at most one lone half is the opposite, and no half of a link: where there is one, it is what the
-- halves that are the same as the opposite cost in all. The half adds itself to the halves that are listed in either case.
-- Assumes nothing.
use Prim.Native.Nat.{ℕ, ◌+◌, ◌≤◌}
use mathlib.Core.Bool.{false, cond}
use mathlib.Core.List.{List, [], ◌∷◌, Memᴰ}
use mathlib.Core.Logic.{◌⊎◌, inl, inr}
use mathlib.Core.Path.{◌≡◌, refl, sym, ap, ◌∙◌, subst}
use native.Mathlib.Omega.{arith}
use lib.Dec.{T, eqb, eqb→eq}
use lib.ListN.{length}
use Rattle.network.specs.Lists.{any, keep}
use Rattle.network.proofs.Tests.{both, truth, as_false, as_true}
use Rattle.network.proofs.Lists.{mem_keep}
use Rattle.topology_types.specs.declared.Half.{Half}
use Rattle.stream_rules.specs.Record as record_of
use Rattle.stream_rules.specs.Halves.{StreamListing, first_half, second_half, link_halves, halves, same_half, opposite, link_of}
use Rattle.stream_rules.specs.Reading.{with_link, arrived, added}
use Rattle.stream_rules.proofs.Halves.{total_append, total_split, total_keep, length_keep, none_total, nothing_kept, Adds}
use Rattle.stream_rules.specs.Inner.{cost_like, one_if, total}
use Rattle.stream_rules.proofs.Halves.{links_more, halves_total, both_or_none}

-- the same half goes from the same place to the same place
pub same_places : (g h : Half) → T (same_half g h) → (g.from.0 ≡ h.from.0) × (g.to.0 ≡ h.to.0)
unfolding same_half
same_places g h t = let (e, f) = both (eqb g.from.0 h.from.0) _ t in (eqb→eq _ _ e, eqb→eq _ _ f)

-- so what is the same as the one is the same as the other
pub same_tests : (g h : Half) → T (same_half g h) → (k : Half) → same_half g k ≡ same_half h k
unfolding same_half
same_tests g h t k = let (e, f) = same_places g h t in rw (e, f)

abbrev pub Once : List Half → Type 0
Once hs = (g : Half) → total (one_if (same_half g)) hs ≤ 1

-- the same numbers from tests that agree
pub total_same : (f g : Half → ℕ) (hs : List Half) → ((k : Half) → f k ≡ g k) → total f hs ≡ total g hs
unfolding total
total_same f g [] e = refl
total_same f g (h ∷ hs) e = omega (arith, e h, total_same f g hs e)

-- a half more, of which there is none
pub once_more : (hs more : List Half) (h : Half) → Once hs → total (one_if (same_half h)) hs ≡ 0 → Adds hs h more → Once more
unfolding one_if
once_more hs more h once none adds g = cases (truth (same_half g h))
  where
    cases : T (same_half g h) ⊎ (T (same_half g h) → ⊥) → total (one_if (same_half g)) more ≤ 1
    cases (inl t) =
        let same = total_same (one_if (same_half g)) (one_if (same_half h)) hs (λ k. ap (λ b. cond {A = ℕ} b 1 0) (same_tests g h t k)) in
        let last : one_if (same_half g) h ≡ 1 = ap (λ b. cond {A = ℕ} b 1 0) (as_true (same_half g h) t) in
        omega (arith, adds (one_if (same_half g)))
    cases (inr o) =
        let last : one_if (same_half g) h ≡ 0 = ap (λ b. cond {A = ℕ} b 1 0) (as_false (same_half g h) o) in
        omega (arith, adds (one_if (same_half g)), once g)

module _ (p : StreamListing) (once : Once (halves p)) (h : Half) (new : any (same_half h) (halves p) ≡ false) where
  -- the lone halves that are the opposite
  abbrev pub opposites : List Half
  opposites = keep (same_half (opposite h)) p.lone

  -- the opposite is none of those of links
  linked_none : total (one_if (same_half (opposite h))) (link_halves p.contents.links) ≡ 0
  linked_none =
      let fresh = none_total (same_half h) (halves p) new in
      omega (arith, both_or_none h p.contents.links, halves_total (one_if (same_half h)) p)

  -- what the opposite costs, 0 if it is not listed
  abbrev pub opposite-cost : ℕ
  opposite-cost = total (cost_like (opposite h)) (halves p)

  cost_is : opposite-cost ≡ total (λ k. k.cost) opposites
  unfolding cost_like
  cost_is =
      let linked = nothing_kept (same_half (opposite h)) (λ k. k.cost) (link_halves p.contents.links) linked_none in
      omega (arith, halves_total (cost_like (opposite h)) p, total_keep (same_half (opposite h)) (λ k. k.cost) p.lone)

  few : length opposites ≤ 1
  few =
      omega (
        arith,
        length_keep (same_half (opposite h)) p.lone,
        halves_total (one_if (same_half (opposite h))) p,
        once (opposite h),
      )

  -- there is none, or one
  pub data Partner : List Half → Type 0 where
    none : opposite-cost ≡ 0 → Partner []
    some : (k : Half) → Memᴰ k p.lone → k.from.0 ≡ h.to.0 → k.to.0 ≡ h.from.0 → opposite-cost ≡ k.cost → Partner (k ∷ [])

  pub partner : Partner opposites
  unfolding total opposite
  partner = go opposites refl
    where
      go : (ks : List Half) → opposites ≡ ks → Partner ks
      go [] e = none (cost_is ∙ ap (total (λ k. k.cost)) e)
      go (k ∷ []) e =
          let (stands, t) = mem_keep (same_half (opposite h)) p.lone (subst (Memᴰ k) (sym e) (Memᴰ.head refl)) in
          let (f, g) = same_places (opposite h) k t in
          some k stands (sym f) (sym g) (cost_is ∙ ap (total (λ k. k.cost)) e ∙ omega arith)
      go (k ∷ l ∷ ks) e = absurd (omega (arith, few, ap length e))

  -- of two opposite halves the link's second is the later one
  second_is : (k : Half) → k.from.0 ≡ h.to.0 → k.to.0 ≡ h.from.0 → second_half (link_of k h) ≡ h
  unfolding second_half link_of
  second_is k f g = λ i. record { from = record { 0 = g i }; to = record { 0 = f i }; cost = h.cost }

  pub adds_half : Adds (halves p) h (halves (added p (record_of.Half h)))
  unfolding added arrived with_link total first_half link_of
  adds_half f = go partner refl
    where
      go : {ks : List Half} → Partner ks → opposites ≡ ks → total f (halves (arrived p h ks)) ≡ total f (halves p) + f h
      go (none e) is =
          omega (arith, halves_total f (arrived p h []), halves_total f p, total_append f p.lone (h ∷ []))
      go (some k stands to from e) is =
          omega (
            arith,
            halves_total f (arrived p h (k ∷ [])),
            links_more f p.contents.links (link_of k h),
            ap f (second_is k to from),
            halves_total f p,
            total_split (same_half (opposite h)) f p.lone,
            ap (total f) is,
          )
