-- An import meets none of the other refusals: a half's places are those of routers, so not 5; and no half is listed twice, so not 8.
-- Assumes nothing.
use Prim.Native.Nat.{ℕ, zero, suc, ◌+◌, ◌≤◌, ◌<◌, ◌^◌}
use mathlib.Core.Bool.{Bool, true, false, cond}
use mathlib.Core.List.Memᴰ
use mathlib.Core.List.{List, [], ◌∷◌, ◌++◌, map, Memᴰ}
use mathlib.Core.List.{append-nil}
use mathlib.Core.Logic.{◌≢◌, ◌⊎◌, inl, inr, ⊎_elim}
use mathlib.Core.Path.{◌≡◌, refl, sym, ap, subst, ◌∙◌}
use native.Mathlib.Decide.{ℕ_discrete}
use native.Mathlib.Omega.{arith}
use borrow.Author.Tests.{lt-ltb}
use lib.Dec.{T, eqb, leb, ltb}
use lib.ListN.{length, length-map}
use lib.Seq.{append_snoc}
use Rattle.network.specs.Lists.{any, keep, member, Pairwise}
use Rattle.network.proofs.Lists.{member_mem, mem_keep}
use Rattle.network.proofs.Tests.{truth, as_true, as_false}
use Rattle.topology_types.specs.declared.Half.{Half}
use Rattle.stream_rules.specs.declared.Reading.{Reading}
use Rattle.stream_rules.specs.Record as record_of
use Rattle.stream_rules.specs.Halves.{StreamListing, link_halves, halves, same_half, opposite}
use Rattle.stream_rules.specs.Reading.{refusal, accepted_reading, router_fault_lem, repeated, crowded, halves_fault_lem, fault, with_router, added, ended, unless, nothing_listed}
use Rattle.stream_rules.specs.Theorems.{Bytes}
use Rattle.stream_rules.specs.Inner.{total, one_if}
use Rattle.stream_rules.proofs.Halves.{total_append, total_none, adds_last}
use Rattle.stream_rules.proofs.Opposite.{same_places, Once, adds_half}
use Rattle.stream_rules.proofs.Tables.{same-half}
use Rattle.stream_rules.proofs.Kept.{Good, good_nothing, kept}
use Rattle.ospf_lsas.specs.Lsa.{links, malformed, Lsa, lsas}
use Rattle.ospf_halves.specs.Neighbours.{all_of, neighbours_of, half_to, halves_of}
use Rattle.ospf.specs.Import.{Placed, router_of, router_in, half_placed, halves_at, halves_in, placed_in, taken_to, at_last, importing}
use Rattle.ospf.specs.Theorems.{all_halves, SumsRight, ImportNumbers}
use Rattle.ospf_halves.proofs.Halves.{place_inside, one_each}
use Rattle.ospf_lsas.proofs.InTurn.{lsas_consecutive}
use Rattle.ospf.proofs.Listed.{ids_arrived}
use Rattle.ospf.proofs.Verdict.{Verdict, in_26, in_27, in-turn, at_end, verdict, taken_turns}
use Rattle.ospf.proofs.Plain.{half_plain, id_fits, lsa_bytes}

abbrev Met : ℕ → Type 0
Met n = T (member n (0 ∷ 3 ∷ 4 ∷ 6 ∷ 7 ∷ 9 ∷ 10 ∷ 12 ∷ 26 ∷ 27 ∷ []))

-- by a test and the tests after it
either : (b : Bool) (n rest : ℕ) → Met n → Met rest → Met (cond b n rest)
either true n rest m k = m
either false n rest m k = k

met_unless : (number at : ℕ) (r : Reading) → Met number → (number ≡ 0 → Met r.answer.number) → Met (unless number at r).answer.number
unfolding unless refusal
met_unless zero at r m rest = rest refl
met_unless (suc number) at r m rest = m

met_last : (p : StreamListing) → Met (at_last p).answer.number
unfolding at_last ended refusal accepted_reading member
met_last p = cases (eqb (length p.contents.ids) 0)
  where
    cases : (b : Bool) → Met (cond b (refusal 12 0) (accepted_reading p.contents)).answer.number
    cases true = tt
    cases false = tt

met_router : (p : StreamListing) (id : ℕ) → Met (fault p (record_of.Router id))
unfolding fault router_fault_lem member
met_router p id = either (member id p.contents.ids) 3 _ tt (either (leb 64 (length p.contents.ids)) 4 0 tt tt)

met_half : (p : StreamListing) (h : Half) → h.from.0 < length p.contents.ids → h.to.0 < length p.contents.ids → repeated p h ≡ false →
    Met (fault p (record_of.Half h))
unfolding fault halves_fault_lem member
met_half p h from to fresh =
    rw (lt-ltb h.from.0 (length p.contents.ids) from, lt-ltb h.to.0 (length p.contents.ids) to, fresh)
    (either (eqb h.from.0 h.to.0) 6 _ tt
    (either (eqb h.cost 0) 7 _ tt
    (either (ltb 512 (length (halves p) + 1)) 9 _ tt (either (any (λ k. crowded p k.from.0) (h ∷ [])) 10 0 tt tt))))

-- halves as they are placed
data Halved : List Placed → List Half → Type 0 where
  none : Halved [] []
  more : {rs : List Placed} {hs : List Half} (at : ℕ) (h : Half) → Halved rs hs → Halved (record { at = at; found = record_of.Half h } ∷ rs) (h ∷ hs)

halved_lsa : (l : Lsa) (hs : List Half) {rs : List Placed} {ks : List Half} → Halved rs ks → Halved (map (half_placed l) hs ++ rs) (hs ++ ks)
unfolding half_placed
halved_lsa l [] k = k
halved_lsa l (h ∷ hs) k = more l.at h (halved_lsa l hs k)

halved : (ids : List ℕ) (place : ℕ) (ls : List Lsa) → Halved (halves_in ids place ls) (all_halves ids place ls)
unfolding halves_in all_halves halves_at
halved ids place [] = none
halved ids place (l ∷ ls) = halved_lsa l (halves_at ids place l) (halved ids (place + 1) ls)

-- a half that fits, between routers of the file
pub record Fits (n : ℕ) (h : Half) : Type 0 where
  pub from_in : h.from.0 < n
  pub to_in : h.to.0 < n
  pub cost_fits : h.cost < 2 ^ 16

unrepeated : (p : StreamListing) (h : Half) → any (same_half h) (halves p) ≡ false → repeated p h ≡ false
unfolding repeated
unrepeated p h e = e

same_itself : (h : Half) → one_if (same_half h) h ≡ 1
unfolding one_if
same_itself h = rw (as_true (same_half h h) (same-half h h refl refl))

module _ (test : Half → Bool) (h : Half) where
  one_most : one_if test h ≤ 1
  unfolding one_if
  one_most = cases (test h)
    where
      cases : (b : Bool) → cond {A = ℕ} b 1 0 ≤ 1
      cases true = omega arith
      cases false = omega arith

  one_none : (T (test h) → ⊥) → one_if test h ≡ 0
  unfolding one_if
  one_none o = rw (as_false (test h) o)

total_first : (f : Half → ℕ) (h : Half) (hs : List Half) → total f (h ∷ hs) ≡ f h + total f hs
unfolding total
total_first f h hs = refl

pub half_ids : (p : StreamListing) (h : Half) → (added p (record_of.Half h)).contents.ids ≡ p.contents.ids
unfolding added
half_ids p h = ids_arrived p h (keep (same_half (opposite h)) p.lone)

-- each half is new among those before it
met_halves : {rs : List Placed} {hs : List Half} → Halved rs hs → (before : List Half) (p : StreamListing) → Good p →
    ((f : Half → ℕ) → total f (halves p) ≡ total f before) → ((h : Half) → Memᴰ h hs → Fits (length p.contents.ids) h) → Once (before ++ hs) →
    Met (taken_to at_last p rs).answer.number
unfolding taken_to
met_halves none before p g same fits once = met_last p
met_halves (more {rs} {hs} at h k) before p g same fits once =
    let this = fits h (Memᴰ.head refl) in
    let few : total (one_if (same_half h)) (halves p) ≡ 0 =
    omega (arith, same (one_if (same_half h)), once h, total_append (one_if (same_half h)) before (h ∷ hs), total_first (one_if (same_half h)) h hs, same_itself h) in
    let unlisted : any (same_half h) (halves p) ≡ false = total_none (same_half h) (halves p) few in
    met_unless _ at _ (met_half p h this.from_in this.to_in (unrepeated p h unlisted))
    (λ e.
    met_halves k (before ++ (h ∷ [])) (added p (record_of.Half h)) (kept p g (record_of.Half h) e this.cost_fits)
    (λ f. omega (arith, adds_half p g.good_halves.once h unlisted f, same f, adds_last before h f))
    (λ q m. subst (λ (n : ℕ). Fits n q) (sym (ap length (half_ids p h))) (fits q (Memᴰ.tail m)))
    (subst Once (sym (append_snoc before h hs)) once))

-- a router more leaves the halves
pub router_halves : (p : StreamListing) (id : ℕ) → halves (added p (record_of.Router id)) ≡ halves p
unfolding added with_router halves
router_halves p id = refl

router_ids : (p : StreamListing) (id : ℕ) → (added p (record_of.Router id)).contents.ids ≡ p.contents.ids ++ (id ∷ [])
unfolding added with_router
router_ids p id = refl

-- the routers, and then the halves
met_routers : (ls : List Lsa) (p : StreamListing) (rest : List Placed) → Good p → (halves p ≡ []) → ((l : Lsa) → Memᴰ l ls → router_of l < 2 ^ 32) →
    ((q : StreamListing) → Good q → halves q ≡ [] → q.contents.ids ≡ p.contents.ids ++ map router_of ls → Met (taken_to at_last q rest).answer.number) →
    Met (taken_to at_last p (map router_in ls ++ rest)).answer.number
unfolding taken_to router_in
met_routers [] p rest g empty fits then = then p g empty (sym (append-nil p.contents.ids))
met_routers (l ∷ ls) p rest g empty fits then =
    met_unless _ l.at _ (met_router p (router_of l))
    (λ e.
    met_routers ls (added p (record_of.Router (router_of l))) rest (kept p g (record_of.Router (router_of l)) e (fits l (Memᴰ.head refl)))
    (router_halves p (router_of l) ∙ empty) (λ k m. fits k (Memᴰ.tail m))
    (λ q h none_yet ids. then q h none_yet (ids ∙ ap (λ (is : List ℕ). is ++ map router_of ls) (router_ids p (router_of l)) ∙ append_snoc p.contents.ids (router_of l) (map router_of ls))))

-- the halves of an LSA leave its place, and no two lead to one place
module _ (ids : List ℕ) (place : ℕ) (l : Lsa) where
  between : (h : Half) → Memᴰ h (halves_at ids place l) → (h.from.0 ≡ place) × (h.to.0 < length ids)
  unfolding halves_at halves_of half_to
  between h m =
      let (id, k, is) = Memᴰ.of_map (half_to ids place (all_of (links l.bytes))) _ m in
      let inside = place_inside id ids (member_mem id ids (mem_keep (λ id. member id ids) (neighbours_of (all_of (links l.bytes))) k).1) in
      subst (λ (h : Half). (h.from.0 ≡ place) × (h.to.0 < length ids)) is (refl, inside)

none_same : (g : Half) (hs : List Half) → ((h : Half) → Memᴰ h hs → T (same_half g h) → ⊥) → total (one_if (same_half g)) hs ≡ 0
unfolding total one_if
none_same g [] differ = refl
none_same g (h ∷ hs) differ =
    let first = as_false (same_half g h) (differ h (Memᴰ.head refl)) in
    let others = none_same g hs (λ k m. differ k (Memᴰ.tail m)) in
    rw first (omega (arith, others))

one_to : (g : Half) (hs : List Half) → Pairwise (λ h k. h.to.0 ≢ k.to.0) hs → total (one_if (same_half g)) hs ≤ 1
one_to g [] w = omega (arith, none_same g [] (λ h m. absurd (Memᴰ.not-nil m)))
one_to g (h ∷ hs) (Pairwise.then differ w) = cases (truth (same_half g h)) (one_to g hs w)
  where
    cases : T (same_half g h) ⊎ (T (same_half g h) → ⊥) → total (one_if (same_half g)) hs ≤ 1 → total (one_if (same_half g)) (h ∷ hs) ≤ 1
    cases (inl t) few =
        let others = none_same g hs (λ k m s. differ k m (sym (same_places g h t).1 ∙ (same_places g k s).1)) in
        omega (arith, others, total_first (one_if (same_half g)) h hs, one_most (same_half g) h)
    cases (inr o) few = omega (arith, few, total_first (one_if (same_half g)) h hs, one_none (same_half g) h o)

-- so no half stands twice among those of all LSAs, as their places differ
once_from : (g : Half) (ids : List ℕ) (place : ℕ) (ls : List Lsa) →
    (total (one_if (same_half g)) (all_halves ids place ls) ≤ 1) × (g.from.0 < place → total (one_if (same_half g)) (all_halves ids place ls) ≡ 0)
unfolding all_halves total halves_at
once_from g ids place [] = (omega arith, λ h. refl)
once_from g ids place (l ∷ ls) =
    let here = halves_at ids place l in
    let (few, none-later) = once_from g ids (place + 1) ls in
    let both = total_append (one_if (same_half g)) here (all_halves ids (place + 1) ls) in
    let none_here : g.from.0 ≢ place → total (one_if (same_half g)) here ≡ 0 =
    λ o. none_same g here (λ h m t. o ((same_places g h t).0 ∙ (between ids place l h m).0)) in
    let one-here = one_to g here (unfold halves_at in one_each ids place (all_of (links l.bytes))) in (
      cases (ℕ_discrete g.from.0 place) none_here none-later few one-here both,
      λ h. omega (arith, both, none_here (λ e. omega arith), none-later (omega arith)),
    )
  where
    cases : {a b c : ℕ} → Dec (g.from.0 ≡ place) → (g.from.0 ≢ place → a ≡ 0) → (g.from.0 < place + 1 → b ≡ 0) → b ≤ 1 → a ≤ 1 → c ≡ a + b → c ≤ 1
    cases (yes e) z w few one-here is = omega (arith, w (omega arith))
    cases (no o) z w few one-here is = omega (arith, z o)

all_fit : (ids : List ℕ) (n place : ℕ) (ls : List Lsa) → place + length ls ≤ n → length ids ≤ n →
    ((l : Lsa) → Memᴰ l ls → malformed l.bytes ≡ false) → ((l : Lsa) → Memᴰ l ls → Bytes l.bytes) →
    (h : Half) → Memᴰ h (all_halves ids place ls) → Fits n h
unfolding all_halves halves_at
all_fit ids n place [] few many whole bytes h m = absurd (Memᴰ.not-nil m)
all_fit ids n place (l ∷ ls) few many whole bytes h m =
    ⊎_elim
    (λ k.
    let (from, to) = between ids place l h k in
    record {
      from_in = omega arith;
      to_in = omega arith;
      cost_fits = half_plain l (whole l (Memᴰ.head refl)) (bytes l (Memᴰ.head refl)) ids place h k;
    })
    (all_fit ids n (place + 1) ls (omega arith) many (λ k n. whole k (Memᴰ.tail n)) (λ k n. bytes k (Memᴰ.tail n)) h)
    (Memᴰ.append_cases (halves_at ids place l) m)

no_halves : halves nothing_listed ≡ []
unfolding halves link_halves nothing_listed
no_halves = refl

nothing_ids : (ids : List ℕ) → nothing_listed.contents.ids ++ ids ≡ ids
unfolding nothing_listed
nothing_ids ids = refl

met_right : (file : List ℕ) → Bytes file → SumsRight file → Met (importing file).answer.number
unfolding placed_in
met_right file bytes right =
    let ls = lsas file in
    let each = lsa_bytes (lsas_consecutive file) bytes in
    subst (λ (r : Reading). Met r.answer.number) (sym (taken_turns file right))
    (met_routers ls nothing_listed (halves_in (map router_of ls) 0 ls) good_nothing no_halves (λ l m. id_fits l (right.0 l m) (each l m))
    (λ q g empty ids.
    let long : length q.contents.ids ≡ length ls = ap length (ids ∙ nothing_ids (map router_of ls)) ∙ length-map ls router_of in
    met_halves (halved (map router_of ls) 0 ls) [] q g (λ f. ap (total f) empty)
    (all_fit (map router_of ls) (length q.contents.ids) 0 ls (omega arith) (omega (arith, length-map ls router_of)) right.0 each)
    (λ h. (once_from h (map router_of ls) 0 ls).0)))

pub import_numbers : ImportNumbers
unfolding refusal member
import_numbers file bytes = member_mem _ _ (cases (verdict file))
  where
    cases : Verdict file → Met (importing file).answer.number
    cases (in_26 h i) = subst (λ (r : Reading). Met r.answer.number) (sym i) tt
    cases (in_27 w h i) = subst (λ (r : Reading). Met r.answer.number) (sym i) tt
    cases (in-turn r number at f i) = met_right file bytes r
    cases (at_end r p t i) = met_right file bytes r
