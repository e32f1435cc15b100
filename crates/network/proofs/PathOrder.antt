-- Paths through one entry part from one another behind it, and from those through a later entry at the station itself, where the entries stand in its
-- row in this order.
-- Assumes nothing.
use Prim.Native.Nat.{ℕ, zero, suc}
use mathlib.Core.Bool.{Bool, true, false}
use mathlib.Core.List.Memᴰ
use mathlib.Core.List.{List, [], ◌∷◌, ◌++◌, Memᴰ, append_assoc, append_cancel_left}
use mathlib.Core.List.{head-eq_of_cons-eq, tail-eq_of_cons-eq}
use mathlib.Core.Logic.{◌≢◌}
use mathlib.Core.Path.{◌≡◌, refl, sym, ◌∙◌, ap}
use Rattle.network.specs.Lists.{Pairwise, nothing, then}
use Rattle.network.specs.Forwarding.{Forwarding}
use Rattle.network.specs.Paths.{paths_at, through_each, paths_from}
use Rattle.network.specs.Theorems.Paths.{Earlier, PathsInOrder, PathsOnce}
use Rattle.network.proofs.Lists.{split, pairwise_append, pairwise_over, pairwise_split}
use Rattle.network.proofs.Sort.{pairwise_map}
use Rattle.network.proofs.Paths.{first, of_through, mem_down}

module _ (f : Forwarding) where
  -- with one station more in front of both, two paths part where they did
  behind : (s : f.State) {p q : List f.State} → Earlier f p q → Earlier f (s ∷ p) (s ∷ q)
  behind s r =
      record {
        together = s ∷ r.together;
        station = r.station;
        sooner = r.sooner;
        later = r.later;
        before = r.before;
        between = r.between;
        behind = r.behind;
        listed = r.listed;
        p_rest = r.p_rest;
        q_rest = r.q_rest;
        p_goes = ap (λ (l : List f.State). s ∷ l) r.p_goes;
        q_goes = ap (λ (l : List f.State). s ∷ l) r.q_goes;
      }

  -- paths on from different entries of the row of s part at s
  part : (s : f.State) (before : List f.Entry) (e : f.Entry) (es : List f.Entry) → f.row s ≡ before ++ (e ∷ es) → (y : f.Entry) → Memᴰ y es →
      {p q : List f.State} → (rest : List f.State) × (p ≡ f.next e ∷ rest) → (rest : List f.State) × (q ≡ f.next y ∷ rest) →
      Earlier f (s ∷ p) (s ∷ q)
  part s before e es listed y m (p_rest, p_goes) (q_rest, q_goes) =
      let (between, back, k) = split m in
      record {
        together = [];
        station = s;
        sooner = e;
        later = y;
        before = before;
        between = between;
        behind = back;
        listed = listed ∙ ap (λ (l : List f.Entry). before ++ (e ∷ l)) k;
        p_rest = p_rest;
        q_rest = q_rest;
        p_goes = ap (λ (l : List f.State). s ∷ l) p_goes;
        q_goes = ap (λ (l : List f.State). s ∷ l) q_goes;
      }

  Ordered : ℕ → Type 0
  Ordered left = (s : f.State) → Pairwise (Earlier f) (paths_from f left s)

  -- through the entries `es`, the last ones of the row of s
  through : (left : ℕ) → Ordered left → (s : f.State) (before es : List f.Entry) → f.row s ≡ before ++ es →
      Pairwise (λ p q. Earlier f (s ∷ p) (s ∷ q)) (through_each f (paths_from f left) es)
  unfolding through_each Ordered
  through left ordered s before [] listed = nothing
  through left ordered s before (e ∷ es) listed =
      pairwise_append (pairwise_map (λ p q m k. behind s) (ordered (f.next e)))
      (through left ordered s (before ++ (e ∷ [])) es (listed ∙ sym (append_assoc before (e ∷ []) es)))
      (λ p q m k.
      let (y, l, r) = of_through f (paths_from f left) es k in
      part s before e es listed y l (first (mem_down f left (f.next e) m)) (first (mem_down f left (f.next y) r)))

  at_station : (s : f.State) (b : Bool) (ps : List (List f.State)) → Pairwise (λ p q. Earlier f (s ∷ p) (s ∷ q)) ps → Pairwise (Earlier f) (paths_at s b ps)
  unfolding paths_at
  at_station s true ps h = then (λ q m. absurd (Memᴰ.not-nil m)) nothing
  at_station s false ps h = pairwise_over (λ p. s ∷ p) h

  in_order : (left : ℕ) → Ordered left
  unfolding Ordered paths_from
  in_order zero s = at_station s (f.home s) [] nothing
  in_order (suc left) s = at_station s (f.home s) _ (through left (in_order left) s [] (f.row s) refl)

  -- where entries of a row name different stations, two paths that part differ
  apart : ((s : f.State) → Pairwise (λ a b. f.next a ≢ f.next b) (f.row s)) → {p q : List f.State} → Earlier f p q → p ≢ q
  apart differ r same =
      pairwise_split {R = λ a b. f.next a ≢ f.next b} (r.before ++ (r.sooner ∷ r.between)) r.later r.behind
      (rw (append_assoc, ← r.listed) (differ r.station)) r.sooner
      (Memᴰ.append_right r.before (Memᴰ.head refl))
      (head-eq_of_cons-eq (tail-eq_of_cons-eq (append_cancel_left r.together _ _ (sym r.p_goes ∙ same ∙ r.q_goes))))

pub paths_in_order : PathsInOrder
unfolding Ordered
paths_in_order = in_order

pub paths_once : PathsOnce
paths_once f differ left s = pairwise_map (λ p q m k. apart f differ) (paths_in_order f left s)
