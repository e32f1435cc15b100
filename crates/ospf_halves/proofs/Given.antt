-- A link more gives a half if it is new and leads to a place; there are no more halves than IDs.
-- Assumes nothing.
use Prim.Native.Nat.{ℕ, suc, ◌+◌, ◌≤◌, ◌<◌, min}
use mathlib.Core.Bool.{Bool, true, false, cond, not, ◌||◌}
use mathlib.Core.List.{List, [], ◌∷◌, ◌++◌, map, map-append, append-nil, append_assoc}
use mathlib.Core.List.Memᴰ
use mathlib.Core.List.{Memᴰ}
use mathlib.Core.Path.{◌≡◌, refl, sym, ap, subst, ◌∙◌}
use native.Mathlib.Omega.{arith}
use borrow.Author.Tests.{ltb-true, ltb-false, eqb-true, eqb-false, eq-eqb, ne_eqb}
use lib.Dec.{T, eqb, ltb}
use lib.ListN.{length, get_or, length-append, length-map}
use Rattle.std.proofs.Common.{Option, Some, None}
use Rattle.std.specs.List.{position_or_len}
use Rattle.network.specs.Lists.{keep, any, member}
use Rattle.network.proofs.Lists.{mem_keep, keep_mem, pairwise_keep, member_mem, mem_member}
use Rattle.network.proofs.Pigeon.{no_longer}
use Rattle.network.proofs.Tests.{as_true, as_false}
use Rattle.topology_types.specs.declared.Half.{Half}
use Rattle.ospf_lsas.specs.Lsa.{RouterLink}
use Rattle.ospf_halves.specs.Neighbours.{point_to_point, lowest_to_lem, once, neighbours_of, place_of, half_to, halves_of}
use Rattle.network.specs.Lists.{least_by}
use Rattle.ospf_halves.specs.Inner.{not_led_to, new_place_lem}
use Rattle.ospf_halves.proofs.Neighbours.{keep_append, once_distinct, neighbours, lowest_each}
use Rattle.ospf_halves.proofs.Halves.{place_inside, place_is, missing, typed}

-- the lowest metric by a link more in front
module _ (id : ℕ) (l : RouterLink) (ls : List RouterLink) where
  pub counts : l.kind ≡ 1 → l.id ≡ id → lowest_to_lem id (point_to_point (l ∷ ls)) ≡ min l.metric (lowest_to_lem id (point_to_point ls))
  unfolding lowest_to_lem point_to_point least_by
  counts k i = rw (eq-eqb l.kind 1 k, eq-eqb l.id id i) refl

  pub passed_over : (l.kind ≡ 1 → l.id ≡ id → ⊥) → lowest_to_lem id (point_to_point (l ∷ ls)) ≡ lowest_to_lem id (point_to_point ls)
  unfolding lowest_to_lem point_to_point least_by
  passed_over n = go (eqb l.kind 1) refl
    where
      by_id : l.kind ≡ 1 → (d : Bool) → eqb l.id id ≡ d →
          least_by (λ k. k.metric) 65536 (cond d (l ∷ keep (λ k. eqb k.id id) (keep (λ k. eqb k.kind 1) ls)) (keep (λ k. eqb k.id id) (keep (λ k. eqb k.kind 1) ls)))
          ≡ least_by (λ k. k.metric) 65536 (keep (λ k. eqb k.id id) (keep (λ k. eqb k.kind 1) ls))
      by_id k true q = absurd (n k (eqb-true l.id id q))
      by_id k false q = refl

      go : (b : Bool) → eqb l.kind 1 ≡ b →
          least_by (λ k. k.metric) 65536 (keep (λ k. eqb k.id id) (cond b (l ∷ keep (λ k. eqb k.kind 1) ls) (keep (λ k. eqb k.kind 1) ls)))
          ≡ least_by (λ k. k.metric) 65536 (keep (λ k. eqb k.id id) (keep (λ k. eqb k.kind 1) ls))
      go true q = by_id (eqb-true l.kind 1 q) (eqb l.id id) refl
      go false q = refl

pub of_none : (id : ℕ) → lowest_to_lem id (point_to_point []) ≡ 65536
unfolding lowest_to_lem point_to_point least_by
of_none id = refl

-- the place of an ID, if it has one
pub place_found : (id : ℕ) (ids : List ℕ) → position_or_len (λ i. eqb i id) ids ≡ place_of id ids
unfolding place_of
place_found id [] = refl
place_found id (i ∷ ids) = go (place_found id ids) (eqb id i) refl
  where
    go : position_or_len (λ j. eqb j id) ids ≡ place_of id ids → (b : Bool) → eqb id i ≡ b →
        cond (not (eqb i id)) (1 + position_or_len (λ j. eqb j id) ids) 0 ≡ cond b 0 (suc (place_of id ids))
    go e true q = rw (eq-eqb i id (sym (eqb-true id i q))) refl
    go e false q = rw (ne_eqb i id (λ e. eqb-false id i q (sym e))) (omega (arith, e))

placed : (id : ℕ) (ids : List ℕ) → place_of id ids < length ids → Memᴰ id ids
placed id ids h = go (member id ids) refl
  where
    go : (b : Bool) → member id ids ≡ b → Memᴰ id ids
    go true e = member_mem id ids (subst T (sym e) tt)
    go false e = absurd (omega (arith, missing id ids (λ m. subst T e (mem_member id ids m))))

-- where a half leads to that place
module _ (ids : List ℕ) (place : ℕ) (all : List RouterLink) where
  pub led_to : (id : ℕ) → Memᴰ id ids → (us : List ℕ) → ((u : ℕ) → Memᴰ u us → Memᴰ u ids) →
      any (λ (h : Half). eqb h.to.0 (place_of id ids)) (map (half_to ids place all) us) ≡ member id us
  unfolding half_to member
  led_to id m [] inside = refl
  led_to id m (u ∷ us) inside =
      ap (λ (b : Bool). b || any (λ (h : Half). eqb h.to.0 (place_of id ids)) (map (half_to ids place all) us)) (same (eqb id u) refl)
      ∙ ap (λ (b : Bool). eqb id u || b) (led_to id m us (λ v k. inside v (Memᴰ.tail k)))
    where
      same : (b : Bool) → eqb id u ≡ b → eqb (place_of u ids) (place_of id ids) ≡ eqb id u
      same true q = rw (eqb-true id u q) (eq-eqb _ _ refl ∙ sym (eq-eqb _ _ refl))
      same false q =
          ne_eqb _ _
          (λ e.
          eqb-false id u q
          (sym (place_is id ids m) ∙ ap (λ (p : ℕ). get_or ids p 0) (sym e) ∙ place_is u ids (inside u (Memᴰ.head refl))))
          ∙ sym q

-- the neighbours that have an LSA
abbrev kept : List ℕ → List RouterLink → List ℕ
kept ids ls = keep (λ id. member id ids) (neighbours_of ls)

pub few : (ids : List ℕ) (ls : List RouterLink) → length (kept ids ls) ≤ length ids
unfolding neighbours_of
few ids ls =
    no_longer ids (pairwise_keep (λ id. member id ids) (once_distinct (map (λ (l : RouterLink). l.id) (point_to_point ls))))
    (λ u m. member_mem u ids (mem_keep (λ id. member id ids) (neighbours_of ls) m).1)

kept_inside : (ids : List ℕ) (ls : List RouterLink) (u : ℕ) → Memᴰ u (kept ids ls) → Memᴰ u ids
kept_inside ids ls u m = member_mem u ids (mem_keep (λ id. member id ids) (neighbours_of ls) m).1

module _ (ids : List ℕ) (place : ℕ) (all before : List RouterLink) (l : RouterLink) where
  abbrev so_far : List Half
  so_far = map (half_to ids place all) (kept ids before)

  skipped : (l.kind ≡ 1 → ⊥) → kept ids (before ++ (l ∷ [])) ≡ kept ids before
  skipped e = ap (keep (λ id. member id ids)) (neighbours.skipped before l e)

  parallel : l.kind ≡ 1 → Memᴰ l.id (neighbours_of before) → kept ids (before ++ (l ∷ [])) ≡ kept ids before
  parallel e m = ap (keep (λ id. member id ids)) (neighbours.parallel before l e m)

  first : l.kind ≡ 1 → (Memᴰ l.id (neighbours_of before) → ⊥) →
      kept ids (before ++ (l ∷ [])) ≡ kept ids before ++ keep (λ id. member id ids) (l.id ∷ [])
  first e n =
      ap (keep (λ id. member id ids)) (neighbours.first before l e n)
      ∙ keep_append (λ id. member id ids) (neighbours_of before) (l.id ∷ [])

  -- what a link more adds
  abbrev Adds : Option ℕ → Type 0
  Adds None = kept ids (before ++ (l ∷ [])) ≡ kept ids before
  Adds (Some to) = (l.kind ≡ 1) × (to ≡ place_of l.id ids) × (kept ids (before ++ (l ∷ [])) ≡ kept ids before ++ (l.id ∷ []))

  not_in_file : (Memᴰ l.id ids → ⊥) → l.kind ≡ 1 → kept ids (before ++ (l ∷ [])) ≡ kept ids before
  not_in_file none e = go (member l.id (neighbours_of before)) refl
    where
      go : (b : Bool) → member l.id (neighbours_of before) ≡ b → kept ids (before ++ (l ∷ [])) ≡ kept ids before
      go true q = parallel e (member_mem l.id (neighbours_of before) (subst T (sym q) tt))
      go false q =
          first e (λ m. subst T q (mem_member l.id (neighbours_of before) m))
          ∙ rw (as_false (member l.id ids) (λ t. none (member_mem l.id ids t))) (append-nil (kept ids before))

  in_file : Memᴰ l.id ids → l.kind ≡ 1 → Adds (cond (member l.id (kept ids before)) None (Some (place_of l.id ids)))
  in_file m e = go (member l.id (kept ids before)) refl
    where
      go : (b : Bool) → member l.id (kept ids before) ≡ b → Adds (cond b None (Some (place_of l.id ids)))
      go true q = parallel e (mem_keep (λ id. member id ids) (neighbours_of before) (member_mem l.id (kept ids before) (subst T (sym q) tt))).0
      go false q = (
        e,
        refl,
        first e
            (λ k.
            subst T q (mem_member l.id (kept ids before) (keep_mem (λ id. member id ids) (neighbours_of before) k (mem_member l.id ids m))))
            ∙ rw (as_true (member l.id ids) (mem_member l.id ids m)) refl,
      )

  adds : Adds (new_place_lem ids so_far l)
  adds = rw (place_found l.id ids) (by_kind (eqb l.kind 1) refl)
    where
      by_place : l.kind ≡ 1 → (b : Bool) → ltb (place_of l.id ids) (length ids) ≡ b → Adds (not_led_to so_far (cond b (Some (place_of l.id ids)) None))
      by_place e false q = not_in_file (λ m. omega (arith, ltb-false _ _ q, place_inside l.id ids m)) e
      by_place e true q =
          let m = placed l.id ids (ltb-true _ _ q) in
          rw (led_to ids place all l.id m (kept ids before) (kept_inside ids before)) (in_file m e)

      by_kind : (b : Bool) → eqb l.kind 1 ≡ b → Adds (cond b (not_led_to so_far (cond (ltb (place_of l.id ids) (length ids)) (Some (place_of l.id ids)) None)) None)
      by_kind false q = skipped (eqb-false l.kind 1 q)
      by_kind true q = by_place (eqb-true l.kind 1 q) (ltb (place_of l.id ids) (length ids)) refl

-- the halves stored are those that the links before those that are left give, at the lowest metrics of all
pub record Stored (ids : List ℕ) (place : ℕ) (all : List RouterLink) (halves : List Half) (left : List RouterLink) : Type 0 where
  pub before : List RouterLink
  pub turn : all ≡ before ++ left
  pub so : halves ≡ map (half_to ids place all) (kept ids before)

module _ (ids : List ℕ) (place : ℕ) (all : List RouterLink) where
  pub at_first : Stored ids place all [] all
  unfolding neighbours_of point_to_point once
  at_first = record { before = []; turn = refl; so = refl }

  -- no more than there are IDs
  pub at_most : {halves : List Half} {left : List RouterLink} → Stored ids place all halves left → length halves ≤ length ids
  at_most g = omega (arith, ap length g.so, length-map (kept ids g.before) (half_to ids place all), few ids g.before)

  pub ended : {halves : List Half} → Stored ids place all halves [] → halves ≡ halves_of ids place all
  unfolding halves_of
  ended g =
      g.so ∙ ap (λ (ls : List RouterLink). map (half_to ids place all) (kept ids ls)) (sym (g.turn ∙ append-nil g.before))

module _ {ids : List ℕ} {place : ℕ} {all : List RouterLink} {halves : List Half} {l : RouterLink} {left : List RouterLink}
    (g : Stored ids place all halves (l ∷ left)) where
  turned : all ≡ (g.before ++ (l ∷ [])) ++ left
  turned = g.turn ∙ sym (append_assoc g.before (l ∷ []) left)

  added_here : (o : Option ℕ) → new_place_lem ids halves l ≡ o → Adds ids place all g.before l o
  added_here o e = subst (Adds ids place all g.before l) (rw g.so at e) (adds ids place all g.before l)

  pub not_stored : new_place_lem ids halves l ≡ None → Stored ids place all halves left
  not_stored e =
      record {
        before = g.before ++ (l ∷ []);
        turn = turned;
        so = g.so ∙ ap (map (half_to ids place all)) (sym (added_here None e));
      }

  module _ (to : ℕ) (e : new_place_lem ids halves l ≡ Some to) where
    -- there is room for its half
    pub room : length halves < length ids
    room =
        let (kind, is, more) = added_here (Some to) e in
        omega (
          arith,
          ap length g.so,
          length-map (kept ids g.before) (half_to ids place all),
          ap length more,
          length-append (kept ids g.before) (l.id ∷ []),
          few ids (g.before ++ (l ∷ [])),
        )

    pub stored : (cost : ℕ) → cost ≡ min l.metric (lowest_to_lem l.id (point_to_point all)) →
        Stored ids place all (halves ++ (record { from = record { 0 = place }; to = record { 0 = to }; cost = cost } ∷ [])) left
    unfolding half_to
    stored cost c =
        let (kind, is, more) = added_here (Some to) e in
        let m : Memᴰ l all = rw g.turn (Memᴰ.append_right g.before (Memᴰ.head refl)) in
        let lowest : cost ≡ lowest_to_lem l.id (point_to_point all) = omega (arith, c, lowest_each l.id (point_to_point all) l (typed all l m kind) refl) in
        record {
          before = g.before ++ (l ∷ []);
          turn = turned;
          so =
              rw (is, lowest, more)
              (ap (λ (hs : List Half). hs ++ (half_to ids place all l.id ∷ [])) g.so
              ∙ sym (map-append (half_to ids place all) (kept ids g.before) (l.id ∷ [])));
        }
