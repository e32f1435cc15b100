-- A list without repeats grows at the end, by a number that is new; what it holds is what the list holds.
-- Assumes nothing.
use Prim.Native.Nat.{ℕ, ◌≤◌, ◌<◌}
use mathlib.Core.Bool.{Bool, true, false, cond, not, ◌||◌}
use mathlib.Core.List.{List, [], ◌∷◌, ◌++◌, map, map-append, append-nil}
use mathlib.Core.List.Memᴰ
use mathlib.Core.List.{Memᴰ}
use mathlib.Core.Logic.{◌≢◌, ⊎_elim}
use mathlib.Core.Path.{◌≡◌, refl, sym, ap, subst, ◌∙◌}
use native.Mathlib.Nat.{le_antisymm}
use native.Mathlib.Omega.{arith}
use borrow.Author.Tests.{eqb-true, eq-eqb, ne_eqb}
use lib.Dec.{T, eqb, eqb→eq}
use Rattle.network.specs.Lists.{keep, member, nothing, then, Distinct}
use Rattle.network.proofs.Least.{least_each, least_from}
use Rattle.network.proofs.Lists.{mem_keep, keep_mem, pairwise_keep, member_mem, mem_member}
use Rattle.network.proofs.Tests.{as_true, as_false, eq_test}
use Rattle.ospf_lsas.specs.Lsa.{RouterLink}
use Rattle.ospf_halves.specs.Neighbours.{point_to_point, lowest_to_lem, once, neighbours_of}
use Rattle.ospf_halves.specs.Theorems.{Neighbours, PointToPoint, Lowest, LowestCounts, LowestOfNone}

pub keep_append : {A : Type 0} (f : A → Bool) (xs ys : List A) → keep f (xs ++ ys) ≡ keep f xs ++ keep f ys
keep_append f [] ys = refl
keep_append {A} f (x ∷ xs) ys = step (f x) (keep_append f xs ys)
  where
    step : (b : Bool) → keep f (xs ++ ys) ≡ keep f xs ++ keep f ys →
        cond b (x ∷ keep f (xs ++ ys)) (keep f (xs ++ ys)) ≡ cond b (x ∷ keep f xs) (keep f xs) ++ keep f ys
    step true e = ap (λ (l : List A). x ∷ l) e
    step false e = e

once_next : (us : List ℕ) (v : ℕ) → once (us ++ (v ∷ [])) ≡ cond (member v us) (once us) (once us ++ (v ∷ []))
unfolding once member
once_next [] v = refl
once_next (u ∷ us) v = ap (λ (l : List ℕ). u ∷ keep (λ w. not (eqb w u)) l) (once_next us v) ∙ step (member v us) (eqb v u) refl
  where
    step : (m e : Bool) → eqb v u ≡ e →
        ◌≡◌ {A = List ℕ} (u ∷ keep (λ w. not (eqb w u)) (cond m (once us) (once us ++ (v ∷ []))))
        (cond (e || m) (u ∷ keep (λ w. not (eqb w u)) (once us)) (u ∷ (keep (λ w. not (eqb w u)) (once us) ++ (v ∷ []))))
    step true true q = refl
    step true false q = refl
    step false true q = ap (λ (l : List ℕ). u ∷ l) (keep_append (λ w. not (eqb w u)) (once us) (v ∷ []) ∙ rw q (append-nil (keep (λ w. not (eqb w u)) (once us))))
    step false false q = ap (λ (l : List ℕ). u ∷ l) (keep_append (λ w. not (eqb w u)) (once us) (v ∷ []) ∙ rw q refl)

pub once_mem : (us : List ℕ) {v : ℕ} → Memᴰ v (once us) → Memᴰ v us
unfolding once
once_mem [] m = m
once_mem (u ∷ us) m =
    ⊎_elim (λ e. Memᴰ.head e) (λ k. Memᴰ.tail (once_mem us (mem_keep (λ w. not (eqb w u)) (once us) k).0)) (Memᴰ.cases_cons m)

pub mem_once : (us : List ℕ) {v : ℕ} → Memᴰ v us → Memᴰ v (once us)
unfolding once
mem_once [] m = m
mem_once (u ∷ us) {v} m =
    ⊎_elim (λ e. Memᴰ.head e) (λ k. step (eqb v u) refl (mem_once us k)) (Memᴰ.cases_cons m)
  where
    step : (b : Bool) → eqb v u ≡ b → Memᴰ v (once us) → Memᴰ v (u ∷ keep (λ w. not (eqb w u)) (once us))
    step true q k = Memᴰ.head (eqb-true v u q)
    step false q k = Memᴰ.tail (keep_mem (λ w. not (eqb w u)) (once us) k (rw q tt))

pub once_distinct : (us : List ℕ) → Distinct (once us)
unfolding once
once_distinct [] = nothing
once_distinct (u ∷ us) =
    then (λ v m e. apart v (mem_keep (λ w. not (eqb w u)) (once us) m).1 (sym e)) (pairwise_keep (λ w. not (eqb w u)) (once_distinct us))
  where
    apart : (v : ℕ) → T (not (eqb v u)) → v ≡ u → ⊥
    apart v t e = rw (eq-eqb v u e) at t

-- a link more at the end
module _ (ls : List RouterLink) (l : RouterLink) where
  one_more : l.kind ≡ 1 → point_to_point (ls ++ (l ∷ [])) ≡ point_to_point ls ++ (l ∷ [])
  unfolding point_to_point
  one_more e = keep_append (λ k. eqb k.kind 1) ls (l ∷ []) ∙ rw (eq-eqb l.kind 1 e) refl

  other : l.kind ≢ 1 → point_to_point (ls ++ (l ∷ [])) ≡ point_to_point ls
  unfolding point_to_point
  other e =
      keep_append (λ k. eqb k.kind 1) ls (l ∷ []) ∙ rw (ne_eqb l.kind 1 e) (append-nil (keep (λ k. eqb k.kind 1) ls))

  pub named_next : l.kind ≡ 1 →
      neighbours_of (ls ++ (l ∷ []))
      ≡ cond (member l.id (map (λ k. k.id) (point_to_point ls))) (neighbours_of ls) (neighbours_of ls ++ (l.id ∷ []))
  unfolding neighbours_of
  named_next e =
      ap (λ (ks : List RouterLink). once (map (λ k. k.id) ks)) (one_more e)
      ∙ ap once (map-append (λ k. k.id) (point_to_point ls) (l ∷ []))
      ∙ once_next (map (λ k. k.id) (point_to_point ls)) l.id

  first_named : l.kind ≡ 1 → (Memᴰ l.id (neighbours_of ls) → ⊥) → neighbours_of (ls ++ (l ∷ [])) ≡ neighbours_of ls ++ (l.id ∷ [])
  unfolding neighbours_of
  first_named e new =
      let us = map (λ (k : RouterLink). k.id) (point_to_point ls) in
      named_next e
      ∙ ap (λ (b : Bool). cond b (neighbours_of ls) (neighbours_of ls ++ (l.id ∷ [])))
      (as_false (member l.id us) (λ t. new (mem_once us (member_mem l.id us t))))

  named_again : l.kind ≡ 1 → Memᴰ l.id (neighbours_of ls) → neighbours_of (ls ++ (l ∷ [])) ≡ neighbours_of ls
  unfolding neighbours_of
  named_again e old =
      let us = map (λ (k : RouterLink). k.id) (point_to_point ls) in
      named_next e
      ∙ ap (λ (b : Bool). cond b (neighbours_of ls) (neighbours_of ls ++ (l.id ∷ []))) (as_true (member l.id us) (mem_member l.id us (once_mem us old)))

  not_named : l.kind ≢ 1 → neighbours_of (ls ++ (l ∷ [])) ≡ neighbours_of ls
  unfolding neighbours_of
  not_named e = ap (λ (ks : List RouterLink). once (map (λ k. k.id) ks)) (other e)

pub neighbours : Neighbours
unfolding neighbours_of point_to_point once
neighbours = record { no_links = refl; first = first_named; parallel = named_again; skipped = not_named }

pub point-to-point : PointToPoint
unfolding point_to_point
point-to-point ls l = (
  λ m. let (k, t) = mem_keep (λ x. eqb x.kind 1) ls m in (k, eqb→eq _ _ t),
  λ (m, e). keep_mem (λ x. eqb x.kind 1) ls m (eq_test e),
)

-- the lowest metric is at most that of each link with the ID, and it is that of one of them if it is below 65,536
module _ (id : ℕ) (ls : List RouterLink) where
  pub lowest_each : (l : RouterLink) → Memᴰ l ls → l.id ≡ id → lowest_to_lem id ls ≤ l.metric
  unfolding lowest_to_lem
  lowest_each l m e = least_each (λ k. k.metric) 65536 (keep_mem (λ k. eqb k.id id) ls m (eq_test e))

  pub lowest_of : lowest_to_lem id ls < 65536 → Lowest id ls (lowest_to_lem id ls)
  unfolding lowest_to_lem
  lowest_of h =
      record {
        attained =
            ⊎_elim (λ e. absurd (omega arith))
            (λ w. let (m, t) = mem_keep (λ k. eqb k.id id) ls w.1 in (w.0, m, eqb→eq _ _ t, sym w.2))
            (least_from (λ k. k.metric) 65536 (keep (λ k. eqb k.id id) ls));
        none_lower = lowest_each;
      }

  pub lowest_is : (metric : ℕ) → metric < 65536 → Lowest id ls metric → lowest_to_lem id ls ≡ metric
  lowest_is metric h w =
      let (l, m, e, is) = w.attained in
      let most : lowest_to_lem id ls ≤ metric = omega (arith, lowest_each l m e) in
      let (k, n, f, at) = (lowest_of (omega arith)).attained in
      le_antisymm most (omega (arith, w.none_lower k n f))

pub lowest_counts : LowestCounts
lowest_counts id ls metric h =
    (λ e. subst (λ (m : ℕ). Lowest id ls m) e (lowest_of id ls (omega arith)), lowest_is id ls metric h)

pub lowest_of_none : LowestOfNone
unfolding lowest_to_lem
lowest_of_none id ls none =
    ⊎_elim (λ e. e) (λ w. let (m, t) = mem_keep (λ k. eqb k.id id) ls w.1 in absurd (none w.0 m (eqb→eq _ _ t)))
    (least_from (λ k. k.metric) 65536 (keep (λ k. eqb k.id id) ls))
