-- The test for sound links, part by part, is what it tests.
-- Assumes nothing.
use Prim.Native.Nat.{ℕ, ◌≤◌}
use mathlib.Core.Bool.{not, ◌&&◌}
use mathlib.Core.List.{List, [], ◌∷◌}
use mathlib.Core.Logic.{◌↔◌, inl, inr, ⊎_elim}
use lib.Dec.{T, eqb, ltb, leb, eqb→eq, ltb→lt, lt→ltb, leb→le, le→leb, T_not, not_T}
use lib.ListN.{length}
use Rattle.network.specs.Lists.{every, any, distinct, Pairwise, nothing, then}
use Rattle.network.specs.Network.{greatest_cost, Link, sound_cost, sound_link, same_pair, pairs_differ, sound_links}
use Rattle.network.specs.Theorems.Network.{SoundLink, SamePair, SoundLinksExact}
use Rattle.network.proofs.Tests.{both, and, three, and_three, either, or_left, or_right, eq_test}
use Rattle.network.proofs.Lists.{every_all, all_every, any_some, some_any, distinct_fact, fact_distinct}

pub cost_fact : (cost : ℕ) → T (sound_cost cost) ↔ ((1 ≤ cost) × (cost ≤ 65535))
unfolding sound_cost greatest_cost
cost_fact cost = (
  λ t. let (least, most) = both (leb 1 cost) _ t in (leb→le 1 cost least, leb→le cost 65535 most),
  λ (least, most). and (leb 1 cost) (leb cost 65535) (le→leb _ _ least) (le→leb _ _ most),
)

pub link_fact : (count : ℕ) (l : Link) → T (sound_link count l) ↔ SoundLink count l
unfolding sound_link
link_fact count l = (
  λ t.
      let (places, differ, costs) = three (ltb l.first count && ltb l.second count) (not (eqb l.first l.second)) _ t in
      let (first_in, second_in) = both (ltb l.first count) _ places in
      let (going, coming) = both (sound_cost l.cost) _ costs in
      record {
        first_listed = ltb→lt l.first count first_in;
        second_listed = ltb→lt l.second count second_in;
        ends_differ = λ e. T_not (eqb l.first l.second) differ (eq_test e);
        cost_least = ((cost_fact l.cost).0 going).0;
        cost_most = ((cost_fact l.cost).0 going).1;
        back_least = ((cost_fact l.back).0 coming).0;
        back_most = ((cost_fact l.back).0 coming).1;
      },
  λ s.
      and_three (ltb l.first count && ltb l.second count) (not (eqb l.first l.second)) (sound_cost l.cost && sound_cost l.back)
      (and (ltb l.first count) (ltb l.second count) (lt→ltb _ _ s.first_listed) (lt→ltb _ _ s.second_listed))
      (not_T (eqb l.first l.second) (λ t. s.ends_differ (eqb→eq _ _ t)))
      (and (sound_cost l.cost) (sound_cost l.back) ((cost_fact l.cost).1 (s.cost_least, s.cost_most))
      ((cost_fact l.back).1 (s.back_least, s.back_most))),
)

pub pair_fact : (l k : Link) → T (same_pair l k) ↔ SamePair l k
unfolding same_pair
pair_fact l k = (
  λ t. ⊎_elim (λ s. let (e, f) = both (eqb l.first k.first) _ s in inl (eqb→eq _ _ e, eqb→eq _ _ f))
      (λ s. let (e, f) = both (eqb l.first k.second) _ s in inr (eqb→eq _ _ e, eqb→eq _ _ f))
      (either (eqb l.first k.first && eqb l.second k.second) _ t),
  λ p. ⊎_elim
      (λ (e, f). or_left (eqb l.first k.first && eqb l.second k.second) _ (and (eqb l.first k.first) _ (eq_test e) (eq_test f)))
      (λ (e, f). or_right (eqb l.first k.first && eqb l.second k.second) _ (and (eqb l.first k.second) _ (eq_test e) (eq_test f))) p,
)

pairs_fact : (ls : List Link) → T (pairs_differ ls) → Pairwise (λ l k. SamePair l k → ⊥) ls
unfolding pairs_differ
pairs_fact [] t = nothing
pairs_fact (l ∷ ls) t =
    let (out, rest) = both (not (any (same_pair l) ls)) (pairs_differ ls) t in
    then (λ k m s. T_not (any (same_pair l) ls) out (some_any (same_pair l) ls m ((pair_fact l k).1 s))) (pairs_fact ls rest)

fact_pairs : {ls : List Link} → Pairwise (λ l k. SamePair l k → ⊥) ls → T (pairs_differ ls)
unfolding pairs_differ
fact_pairs nothing = tt
fact_pairs (then {x = l} {xs = ls} h p) =
    and (not (any (same_pair l) ls)) (pairs_differ ls)
    (not_T (any (same_pair l) ls) (λ t. let (k, m, s) = any_some (same_pair l) ls t in h k m ((pair_fact l k).0 s))) (fact_pairs p)

pub sound_links_exact : SoundLinksExact
unfolding sound_links
sound_links_exact ids ls = (
  λ t.
      let (differ, each, apart) = three (distinct ids) (every (sound_link (length ids)) ls) (pairs_differ ls) t in
      record {
        ids-differ = distinct_fact ids differ;
        each = λ l m. (link_fact (length ids) l).0 (every_all _ ls each l m);
        pairs-differ = pairs_fact ls apart;
      },
  λ s.
      and_three (distinct ids) (every (sound_link (length ids)) ls) (pairs_differ ls) (fact_distinct s.ids-differ)
      (all_every _ ls (λ l m. (link_fact (length ids) l).1 (s.each l m))) (fact_pairs s.pairs-differ),
)
