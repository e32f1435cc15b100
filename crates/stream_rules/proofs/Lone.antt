-- Which of the lone halves are opposite to a half: none, or the one that stands there, since no half is listed twice; and what is listed then.
-- Assumes nothing.
use Prim.Native.Nat.{ℕ, ◌≤◌}
use mathlib.Core.Bool.{Bool, true, false, cond, not, ◌||◌, false≢true}
use mathlib.Core.List.{List, [], ◌∷◌, ◌++◌, Memᴰ}
use mathlib.Core.Logic.{◌≢◌, ◌⊎◌, inl, inr}
use mathlib.Core.Path.{◌≡◌, refl, sym, ap, subst, ◌∙◌}
use native.Mathlib.Omega.{arith}
use borrow.Author.Tests.{eq-eqb}
use lib.Dec.{T}
use Rattle.network.specs.Lists.{any, keep}
use Rattle.network.proofs.Tests.{truth, as_false}
use Rattle.network.proofs.Lists.{split, any_some, some_any}
use Rattle.topology_types.specs.declared.Half.{Half}
use Rattle.stream_rules.specs.Record.{Record}
use Rattle.stream_rules.specs.Record as record_of
use Rattle.stream_rules.specs.Halves.{StreamListing, halves, same_half, opposite, link_of}
use Rattle.stream_rules.specs.Reading.{repeated, fault, with_router, with_link, with_limit, arrived, added}
use Rattle.stream_rules.specs.Theorems.{half_of, link_at}
use Rattle.stream_rules.proofs.NoFault.{halves_pass, one_fails, both_fail}
use Rattle.stream_rules.proofs.Halves.{total_append, total_none, halves_total, adds_last, adds_link}
use Rattle.stream_rules.specs.Inner.{one_if, total}
use Rattle.stream_rules.proofs.Opposite.{Once, once_more, same_places, adds_half}
use Rattle.stream_rules.proofs.GoodHalves.{same_none}
use Rattle.stream_rules.proofs.Kept.{fresh_none}

kept_behind : (test : Half → Bool) (hs ks : List Half) → keep test (hs ++ ks) ≡ keep test hs ++ keep test ks
kept_behind test [] ks = refl
kept_behind test (h ∷ hs) ks = go (test h) (kept_behind test hs ks)
  where
    go : (b : Bool) → keep test (hs ++ ks) ≡ keep test hs ++ keep test ks →
        cond b (h ∷ keep test (hs ++ ks)) (keep test (hs ++ ks)) ≡ cond b (h ∷ keep test hs) (keep test hs) ++ keep test ks
    go true e = ap (λ (l : List Half). h ∷ l) e
    go false e = e

-- a test that none passes keeps none, and its opposite all
kept_none : (test : Half → Bool) (hs : List Half) → any test hs ≡ false → (keep test hs ≡ []) × (keep (λ k. not (test k)) hs ≡ hs)
kept_none test [] e = (refl, refl)
kept_none test (h ∷ hs) e = go (test h) e (kept_none test hs)
  where
    go : (b : Bool) → (b || any test hs) ≡ false → (any test hs ≡ false → (keep test hs ≡ []) × (keep (λ k. not (test k)) hs ≡ hs)) →
        (cond b (h ∷ keep test hs) (keep test hs) ≡ [])
        × (cond (not b) (h ∷ keep (λ k. not (test k)) hs) (keep (λ k. not (test k)) hs) ≡ h ∷ hs)
    go true e rest = absurd (false≢true (sym e))
    go false e rest = let (k, r) = rest e in (k, ap (λ (l : List Half). h ∷ l) r)

-- one that passes, and no other
kept_one : (test : Half → Bool) (before : List Half) (k : Half) (after : List Half) → test k ≡ true → total (one_if test) (before ++ (k ∷ after)) ≤ 1 →
    (keep test (before ++ (k ∷ after)) ≡ k ∷ []) × (keep (λ h. not (test h)) (before ++ (k ∷ after)) ≡ before ++ after)
unfolding total one_if
kept_one test before k after e few =
    let all = total_append (one_if test) before (k ∷ after) in
    let this : cond {A = ℕ} (test k) 1 0 ≡ 1 = rw e in
    let (none, rest) = kept_none test before (total_none test before (omega arith)) in
    let (none', rest') = kept_none test after (total_none test after (omega arith)) in
    (rw (kept_behind test before (k ∷ after), none, e, none'), rw (kept_behind (λ h. not (test h)) before (k ∷ after), rest, e, rest'))

not_itself : (h : Half) → h.from.0 ≢ h.to.0 → one_if (same_half (opposite h)) h ≡ 0
unfolding opposite
not_itself h apart = same_none (opposite h) h (λ e. apart (sym e))

-- no half is listed twice, whatever they cost
pub once_added : (p : StreamListing) → Once (halves p) → (r : Record) → fault p r ≡ 0 → Once (halves (added p r))
unfolding fault added with_router with_limit halves
once_added p once (record_of.Router id) e = once
once_added p once (record_of.Link h) e =
    let new = (halves_pass p h (h ∷ opposite h ∷ [])).0 e in
    let (fresh, fresh') = both_fail (repeated p) h (opposite h) new.fresh in
    let more = adds_last (halves p) h in
    once_more (halves p ++ (h ∷ [])) _ (opposite h) (once_more (halves p) _ h once (fresh_none p h fresh) more)
    (omega (arith, more (one_if (same_half (opposite h))), fresh_none p (opposite h) fresh', not_itself h new.ends_differ))
    (adds_link p h)
once_added p once (record_of.Half h) e =
    let fresh = one_fails (repeated p) h ((halves_pass p h (h ∷ [])).0 e).fresh in
    once_more (halves p) _ h once (fresh_none p h fresh) (adds_half p once h (unfold repeated in fresh))
once_added p once (record_of.Limit k) e = once
once_added p once record_of.End e = once
once_added p once (record_of.Refused number) e = once

module _ (p : StreamListing) (u v cost : ℕ) where
  abbrev against : Half → Bool
  against = same_half (opposite (half_of u v cost))

  against_is : (k : Half) → T (against k) → k ≡ half_of v u k.cost
  unfolding opposite
  against_is k t =
      let (e, f) = same_places (opposite (half_of u v cost)) k t in
      λ i. record { from = record { 0 = sym e i }; to = record { 0 = sym f i }; cost = k.cost }

  against_it : (c : ℕ) → against (half_of v u c) ≡ true
  unfolding same_half opposite
  against_it c = rw (eq-eqb v v refl, eq-eqb u u refl)

  -- its opposite is none of the lone halves, or stands among them
  pub either_way : ((c : ℕ) → Memᴰ (half_of v u c) p.lone → ⊥) ⊎
      ((before : List Half) × (c : ℕ) × (after : List Half) × (p.lone ≡ before ++ (half_of v u c ∷ after)))
  either_way = elim (truth (any against p.lone)) [
    | inl t ↦
        let (k, m, same) = any_some against p.lone t in
        let (before, after, stands) = split m in
        inr (before, k.cost, after, stands ∙ ap (λ (h : Half). before ++ (h ∷ after)) (against_is k same))
    | inr o ↦ inl (λ c m. o (some_any against p.lone m (rw (against_it c) tt)))
  ]

  -- without its opposite a half is lone
  pub first_added : ((c : ℕ) → Memᴰ (half_of v u c) p.lone → ⊥) →
      added p (record_of.Half (half_of u v cost)) ≡ record { contents = p.contents; lone = p.lone ++ (half_of u v cost ∷ []) }
  unfolding added arrived
  first_added out =
      let none =
      as_false (any against p.lone)
      (λ t. let (k, m, same) = any_some against p.lone t in out k.cost (subst (λ (h : Half). Memᴰ h p.lone) (against_is k same) m)) in
      rw (kept_none against p.lone none).0

  -- with it there is a link
  pub second_added : Once (halves p) → (before : List Half) (c : ℕ) (after : List Half) → p.lone ≡ before ++ (half_of v u c ∷ after) →
      added p (record_of.Half (half_of u v cost)) ≡ record { contents = with_link p.contents (link_at v u c cost); lone = before ++ after }
  unfolding added arrived link_of
  second_added once before c after stands =
      let few : total (one_if against) (before ++ (half_of v u c ∷ after)) ≤ 1 =
      omega (arith, once (opposite (half_of u v cost)), halves_total (one_if against) p, ap (total (one_if against)) stands) in
      let (kept, rest) = kept_one against before (half_of v u c) after (against_it c) few in
      rw (stands, kept, rest)
