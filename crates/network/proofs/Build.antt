-- What is built is the one order by the rule: each router that is placed is the one selected, and none is left at the end.
-- Assumes nothing.
use Prim.Native.Nat.{ℕ, pred}
use mathlib.Core.List.{List, [], ◌∷◌, head-eq_of_cons-eq, tail-eq_of_cons-eq}
use mathlib.Core.Option.{Option, none, some}
use mathlib.Core.Path.{◌≡◌, refl, ◌∙◌, ap, subst}
use Rattle.network.specs.Network.{size}
use Rattle.network.specs.Distance.{distances}
use Rattle.network.specs.Order.{select, placing, build}
use Rattle.network.specs.Theorems.Order.{ByRule, BuiltByRule}
use Rattle.network.proofs.Selection.{selection_right}
use Rattle.network.proofs.Placing.{placing_next, alike}
use Rattle.network.proofs.Order.{never_stuck}

pub built_by_rule : BuiltByRule
unfolding build
built_by_rule n wf d in_network mode = (by_rule, only)
  where
    rest : List ℕ
    rest = placing n (distances n d) mode (pred (size n)) (d ∷ [])

    none_left : (o : Option ℕ) → select n (distances n d) mode (build n d mode) ≡ o → select n (distances n d) mode (build n d mode) ≡ none
    none_left none e = e
    none_left (some u) e =
        let c = (selection_right n wf d in_network mode (build n d mode)).taken u e in
        absurd (c.unplaced ((never_stuck n wf d in_network mode).all u c.path))

    by_rule : ByRule n d mode (build n d mode)
    by_rule =
        record {
          first = (rest, refl);
          each = λ v before u after e.
              rw (← head-eq_of_cons-eq e) (placing_next n d mode (pred (size n)) (d ∷ []) before u after (tail-eq_of_cons-eq e));
          none_left = none_left (select n (distances n d) mode (build n d mode)) refl;
        }

    only : (order : List ℕ) → ByRule n d mode order → order ≡ build n d mode
    only order r =
        let (others, e) = r.first in
        e ∙ ap (λ (l : List ℕ). d ∷ l)
        (alike n d mode (d ∷ []) others rest (λ before u after f. r.each d before u after (e ∙ ap (λ (l : List ℕ). d ∷ l) f))
        (placing_next n d mode (pred (size n)) (d ∷ []))
        (subst (λ (l : List ℕ). select n (distances n d) mode l ≡ none) e r.none_left) by_rule.none_left)
