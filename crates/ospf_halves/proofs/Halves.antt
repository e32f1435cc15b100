-- An ID stands at its place, so that neighbours in the file and the places of halves are one to one.
-- Assumes nothing.
use Prim.Native.Nat.{ℕ, zero, suc, ◌<◌}
use mathlib.Core.Bool.{Bool, true, false, cond}
use mathlib.Core.List.{List, [], ◌∷◌, ◌++◌, map}
use mathlib.Core.List.{Memᴰ}
use mathlib.Core.Logic.{◌≢◌, ⊎_elim}
use mathlib.Core.Path.{◌≡◌, refl, sym, ap, subst, ◌∙◌}
use native.Mathlib.Omega.{arith}
use borrow.Author.Tests.{eqb-true, eqb-false, eq-eqb, ne_eqb}
use lib.Dec.{T, eqb, eqb→eq}
use lib.ListN.{length, get_or}
use Rattle.network.specs.Lists.{keep, member, Pairwise, nothing, then, Distinct}
use Rattle.network.proofs.Lists.{mem_keep, keep_mem, pairwise_keep, pairwise_over, member_mem, mem_member}
use Rattle.network.proofs.Selection.{get_d_mem}
use Rattle.network.proofs.Tests.{eq_test}
use Rattle.topology_types.specs.declared.Half.{Half}
use Rattle.ospf_lsas.specs.Lsa.{RouterLink}
use Rattle.ospf_halves.specs.Neighbours.{point_to_point, lowest_to_lem, once, neighbours_of, place_of, half_to, halves_of}
use Rattle.ospf_halves.specs.Theorems.{PlacesEach, HalfGiven, HalvesGiven, OneEach, FirstListed, OthersSkipped}
use Rattle.ospf_halves.proofs.Neighbours.{keep_append, once_mem, mem_once, once_distinct, lowest_each, lowest_of, lowest_is}

-- the place of an ID that stands in the list
pub place_inside : (id : ℕ) (ids : List ℕ) → Memᴰ id ids → place_of id ids < length ids
unfolding place_of
place_inside id [] m = absurd (mathlib.Core.List.Memᴰ.not-nil m)
place_inside id (i ∷ ids) m = step (eqb id i) refl (λ k. place_inside id ids k)
  where
    step : (b : Bool) → eqb id i ≡ b → (Memᴰ id ids → place_of id ids < length ids) → cond b 0 (suc (place_of id ids)) < suc (length ids)
    step true q rest = omega arith
    step false q rest = ⊎_elim (λ e. absurd (eqb-false id i q e)) (λ k. omega (arith, rest k)) (mathlib.Core.List.Memᴰ.cases_cons m)

pub place_is : (id : ℕ) (ids : List ℕ) → Memᴰ id ids → get_or ids (place_of id ids) 0 ≡ id
unfolding place_of
place_is id [] m = absurd (mathlib.Core.List.Memᴰ.not-nil m)
place_is id (i ∷ ids) m = step (eqb id i) refl (λ k. place_is id ids k)
  where
    step : (b : Bool) → eqb id i ≡ b → (Memᴰ id ids → get_or ids (place_of id ids) 0 ≡ id) → get_or (i ∷ ids) (cond b 0 (suc (place_of id ids))) 0 ≡ id
    step true q rest = sym (eqb-true id i q)
    step false q rest = ⊎_elim (λ e. absurd (eqb-false id i q e)) rest (mathlib.Core.List.Memᴰ.cases_cons m)

-- no ID before that place is it
before_place : (id : ℕ) (ids : List ℕ) (p : ℕ) → p < place_of id ids → get_or ids p 0 ≢ id
unfolding place_of
before_place id [] p h e = omega arith
before_place id (i ∷ ids) zero h e = step (eqb id i) refl h
  where
    step : (b : Bool) → eqb id i ≡ b → 0 < cond b 0 (suc (place_of id ids)) → ⊥
    step true q h = omega arith
    step false q h = eqb-false id i q (sym e)
before_place id (i ∷ ids) (suc p) h e = step (eqb id i) h (λ k. before_place id ids p k e)
  where
    step : (b : Bool) → suc p < cond b 0 (suc (place_of id ids)) → (p < place_of id ids → ⊥) → ⊥
    step true h rest = omega arith
    step false h rest = rest (omega arith)

-- the first place at which it stands is its place
pub first_place : (id : ℕ) (ids : List ℕ) (place : ℕ) → place < length ids → get_or ids place 0 ≡ id → ((p : ℕ) → p < place → get_or ids p 0 ≢ id) →
    place_of id ids ≡ place
unfolding place_of
first_place id [] place h e none = absurd (omega arith)
first_place id (i ∷ ids) zero h e none = rw (eq-eqb id i (sym e))
first_place id (i ∷ ids) (suc place) h e none =
    rw (ne_eqb id i (λ q. none 0 (omega arith) (sym q)))
    (ap (λ (p : ℕ). suc p) (first_place id ids place (omega arith) e (λ p k. none (suc p) (omega arith))))

pub missing : (id : ℕ) (ids : List ℕ) → (Memᴰ id ids → ⊥) → place_of id ids ≡ length ids
unfolding place_of
missing id [] none = refl
missing id (i ∷ ids) none =
    rw (ne_eqb id i (λ q. none (mathlib.Core.List.Memᴰ.head q))) (ap (λ (p : ℕ). suc p) (missing id ids (λ m. none (mathlib.Core.List.Memᴰ.tail m))))

pub places_each : PlacesEach
places_each id ids =
    record {
      stands = λ place h. (found place h, λ (e, none). first_place id ids place h e none);
      nowhere = (λ e m. let h = place_inside id ids m in omega arith, missing id ids);
    }
  where
    listed : place_of id ids < length ids → Memᴰ id ids
    listed h = stands_in (member id ids) refl
      where
        stands_in : (b : Bool) → member id ids ≡ b → Memᴰ id ids
        stands_in true q = member_mem id ids (rw q tt)
        stands_in false q = absurd (let e = missing id ids (λ m. subst T q (mem_member id ids m)) in omega arith)

    found : (place : ℕ) → place < length ids → place_of id ids ≡ place → (get_or ids place 0 ≡ id) × ((p : ℕ) → p < place → get_or ids p 0 ≢ id)
    found place h e =
        (ap (λ (p : ℕ). get_or ids p 0) (sym e) ∙ place_is id ids (listed (omega arith)), λ p k. before_place id ids p (omega arith))

-- where IDs differ, the place of what stands at a place is that place
pub place_at : (ids : List ℕ) (place : ℕ) → Distinct ids → place < length ids → place_of (get_or ids place 0) ids ≡ place
unfolding place_of
place_at [] place d h = absurd (omega arith)
place_at (i ∷ ids) zero d h = rw (eq-eqb i i refl)
place_at (i ∷ ids) (suc place) (then apart d) h =
    rw (ne_eqb (get_or ids place 0) i (λ e. apart (get_or ids place 0) (get_d_mem ids place 0 (omega arith)) (sym e)))
    (ap (λ (p : ℕ). suc p) (place_at ids place d (omega arith)))

-- the neighbours are what links of type 1 name
module _ (ls : List RouterLink) where
  pub neighbour_of : (id : ℕ) → Memᴰ id (neighbours_of ls) → (l : RouterLink) × Memᴰ l ls × (l.kind ≡ 1) × (l.id ≡ id)
  unfolding neighbours_of point_to_point
  neighbour_of id m =
      let (l, k, e) = mathlib.Core.List.Memᴰ.of_map (λ (l : RouterLink). l.id) (point_to_point ls) (once_mem (map (λ (l : RouterLink). l.id) (point_to_point ls)) m) in
      let (n, t) = mem_keep (λ (l : RouterLink). eqb l.kind 1) ls k in
      (l, n, eqb→eq _ _ t, e)

  pub typed : (l : RouterLink) → Memᴰ l ls → l.kind ≡ 1 → Memᴰ l (point_to_point ls)
  unfolding point_to_point
  typed l m e = keep_mem (λ (l : RouterLink). eqb l.kind 1) ls m (eq_test e)

  pub untyped : (l : RouterLink) → Memᴰ l (point_to_point ls) → Memᴰ l ls × (l.kind ≡ 1)
  unfolding point_to_point
  untyped l m = let (n, t) = mem_keep (λ (l : RouterLink). eqb l.kind 1) ls m in (n, eqb→eq _ _ t)

  pub of_neighbour : (l : RouterLink) → Memᴰ l ls → l.kind ≡ 1 → Memᴰ l.id (neighbours_of ls)
  unfolding neighbours_of
  of_neighbour l m e = mem_once (map (λ (l : RouterLink). l.id) (point_to_point ls)) (mathlib.Core.List.Memᴰ.map (λ (l : RouterLink). l.id) (typed l m e))

module _ (ids : List ℕ) (place : ℕ) (ls : List RouterLink) where
  module _ (two-bytes : (l : RouterLink) → Memᴰ l ls → l.metric < 65536) where
    half_given : (id : ℕ) → Memᴰ id (neighbours_of ls) → Memᴰ id ids → HalfGiven ids place ls (half_to ids place ls id)
    unfolding half_to
    half_given id m k =
        let (l, n, t, e) = neighbour_of ls id m in
        let below : lowest_to_lem id (point_to_point ls) < 65536 = omega (arith, lowest_each id (point_to_point ls) l (typed ls l n t) e, two-bytes l n) in
        let w = lowest_of id (point_to_point ls) below in
        let (a, b, f, is) = w.attained in
        let (c, u) = untyped ls a b in
        record {
          sender = refl;
          inside = place_inside id ids k;
          attained = (a, c, u, f ∙ sym (place_is id ids k), is);
          none_lower = λ j o v g. w.none_lower j (typed ls j o v) (g ∙ place_is id ids k);
        }

    given : (h : Half) → Memᴰ h (halves_of ids place ls) → HalfGiven ids place ls h
    unfolding halves_of
    given h m =
        let (id, k, e) = mathlib.Core.List.Memᴰ.of_map (half_to ids place ls) (keep (λ id. member id ids) (neighbours_of ls)) m in
        let (n, t) = mem_keep (λ id. member id ids) (neighbours_of ls) k in
        subst (λ (h : Half). HalfGiven ids place ls h) e (half_given id n (member_mem id ids t))

    same-half : Distinct ids → (h : Half) → HalfGiven ids place ls h → half_to ids place ls (get_or ids h.to.0 0) ≡ h
    unfolding half_to
    same-half d h g =
        let (l, m, t, e, is) = g.attained in
        let cost : lowest_to_lem (get_or ids h.to.0 0) (point_to_point ls) ≡ h.cost =
        lowest_is (get_or ids h.to.0 0) (point_to_point ls) h.cost (omega (arith, two-bytes l m))
        (record {
          attained = (l, typed ls l m t, e, is);
          none_lower = λ j o v. let (n, u) = untyped ls j o in g.none_lower j n u v;
        }) in
        rw (place_at ids h.to.0 d g.inside, cost, sym g.sender) refl

    gives : Distinct ids → (h : Half) → HalfGiven ids place ls h → Memᴰ h (halves_of ids place ls)
    unfolding halves_of
    gives d h g =
        let id = get_or ids h.to.0 0 in
        let (l, m, t, e, is) = g.attained in
        let n : Memᴰ id (neighbours_of ls) = subst (λ (v : ℕ). Memᴰ v (neighbours_of ls)) e (of_neighbour ls l m t) in
        let k = keep_mem (λ id. member id ids) (neighbours_of ls) n (mem_member id ids (get_d_mem ids h.to.0 0 g.inside)) in
        subst (λ (h : Half). Memᴰ h (map (half_to ids place ls) (keep (λ id. member id ids) (neighbours_of ls)))) (same-half d h g)
        (mathlib.Core.List.Memᴰ.map (half_to ids place ls) k)

  -- IDs that differ and stand in the file have places that differ
  places_differ : {us : List ℕ} → ((u : ℕ) → Memᴰ u us → Memᴰ u ids) → Distinct us → Pairwise (λ u v. place_of u ids ≢ place_of v ids) us
  places_differ all nothing = nothing
  places_differ all (then {x = u} {xs = us} apart d) =
      then
      (λ v m e.
      apart v m
      (sym (place_is u ids (all u (mathlib.Core.List.Memᴰ.head refl)))
      ∙ ap (λ (p : ℕ). get_or ids p 0) e
      ∙ place_is v ids (all v (mathlib.Core.List.Memᴰ.tail m))))
      (places_differ (λ v m. all v (mathlib.Core.List.Memᴰ.tail m)) d)

  in_file : (u : ℕ) → Memᴰ u (keep (λ id. member id ids) (neighbours_of ls)) → Memᴰ u ids
  in_file u m = member_mem u ids (mem_keep (λ id. member id ids) (neighbours_of ls) m).1

  differ : Pairwise (λ h k. h.to.0 ≢ k.to.0) (halves_of ids place ls)
  unfolding halves_of half_to neighbours_of
  differ =
      pairwise_over (half_to ids place ls)
      (places_differ in_file (pairwise_keep (λ id. member id ids) (once_distinct (map (λ (l : RouterLink). l.id) (point_to_point ls)))))

  ids-of : (us : List ℕ) → ((u : ℕ) → Memᴰ u us → Memᴰ u ids) →
      map (λ (h : Half). get_or ids h.to.0 0) (map (half_to ids place ls) us) ≡ us
  unfolding half_to
  ids-of [] all = refl
  ids-of (u ∷ us) all = rw (place_is u ids (all u (mathlib.Core.List.Memᴰ.head refl)), ids-of us (λ v m. all v (mathlib.Core.List.Memᴰ.tail m)))

  in_order : map (λ (h : Half). get_or ids h.to.0 0) (halves_of ids place ls) ≡ keep (λ id. member id ids) (neighbours_of ls)
  unfolding halves_of
  in_order = ids-of (keep (λ id. member id ids) (neighbours_of ls)) in_file

pub halves_given : HalvesGiven
halves_given ids place ls d two-bytes h = (given ids place ls two-bytes h, gives ids place ls two-bytes d h)

pub one_each : OneEach
one_each = differ

pub first_listed : FirstListed
first_listed = in_order

without : (before after : List RouterLink) (l : RouterLink) → l.kind ≢ 1 → point_to_point (before ++ (l ∷ after)) ≡ point_to_point (before ++ after)
unfolding point_to_point
without before after l e =
    keep_append (λ k. eqb k.kind 1) before (l ∷ after)
    ∙ rw (ne_eqb l.kind 1 e) (sym (keep_append (λ k. eqb k.kind 1) before after))

-- what `half_to` makes of the links of type 1
abbrev half : List ℕ → ℕ → ℕ → List RouterLink → Half
half ids place id ks = record { from = record { 0 = place }; to = record { 0 = place_of id ids }; cost = lowest_to_lem id ks }

pub others_skipped : OthersSkipped
unfolding halves_of half_to neighbours_of
others_skipped ids place before after l e =
    ap
    (λ (ks : List RouterLink).
    map (λ (id : ℕ). half ids place id ks)
    (keep (λ id. member id ids) (once (map (λ (k : RouterLink). k.id) ks))))
    (without before after l e)
