-- What is taken lists the routers in their order, and K stays 3.
-- Assumes nothing.
use Prim.Native.Nat.{ℕ, ◌+◌}
use mathlib.Core.List.Memᴰ
use mathlib.Core.List.{List, [], ◌∷◌, ◌++◌, map, append-nil, append_assoc, Memᴰ}
use mathlib.Core.Path.{◌≡◌, refl, sym, ap, ◌∙◌}
use Rattle.topology_types.specs.declared.Half.{Half}
use Rattle.stream_rules.specs.Record.{Record}
use Rattle.stream_rules.specs.Record as record_of
use Rattle.stream_rules.specs.Halves.{StreamListing, same_half, opposite}
use Rattle.stream_rules.specs.Reading.{added, arrived, with_router, with_link}
use Rattle.network.specs.Lists.{keep}
use Rattle.ospf_lsas.specs.Lsa.{Lsa}
use Rattle.ospf.specs.Import.{Placed, router_of, router_in, half_placed, halves_at, halves_in, placed_in}
use Rattle.ospf.specs.Theorems.{Taken, nothing, one_more}
use Rattle.ospf.proofs.Plain.{Plain, router, half}

-- the ID of a router's record
unfoldable pub ids_of : Record → List ℕ
ids_of (record_of.Router id) = id ∷ []
ids_of (record_of.Link h) = []
ids_of (record_of.Half h) = []
ids_of (record_of.Limit k) = []
ids_of record_of.End = []
ids_of (record_of.Refused number) = []

unfoldable pub all_ids : List Placed → List ℕ
all_ids [] = []
all_ids (r ∷ rs) = ids_of r.found ++ all_ids rs

ids_append : (rs qs : List Placed) → all_ids (rs ++ qs) ≡ all_ids rs ++ all_ids qs
unfolding all_ids
ids_append [] qs = refl
ids_append (r ∷ rs) qs = ap (λ (l : List ℕ). ids_of r.found ++ l) (ids_append rs qs) ∙ sym (append_assoc (ids_of r.found) (all_ids rs) (all_ids qs))

-- a half changes neither
module _ (p : StreamListing) (h : Half) where
  pub ids_arrived : (ks : List Half) → (arrived p h ks).contents.ids ≡ p.contents.ids
  unfolding arrived with_link
  ids_arrived [] = refl
  ids_arrived (k ∷ ks) = refl

  limit_arrived : (ks : List Half) → (arrived p h ks).contents.limit ≡ p.contents.limit
  unfolding arrived with_link
  limit_arrived [] = refl
  limit_arrived (k ∷ ks) = refl

pub ids_added : (p : StreamListing) {r : Record} → Plain r → (added p r).contents.ids ≡ p.contents.ids ++ ids_of r
unfolding added with_router ids_of
ids_added p (router id f) = refl
ids_added p (half h f) = ids_arrived p h (keep (same_half (opposite h)) p.lone) ∙ sym (append-nil p.contents.ids)

limit_added : (p : StreamListing) {r : Record} → Plain r → (added p r).contents.limit ≡ p.contents.limit
unfolding added with_router
limit_added p (router id f) = refl
limit_added p (half h f) = limit_arrived p h (keep (same_half (opposite h)) p.lone)

module _ where
  abbrev pub AllPlain : List Placed → Type 0
  AllPlain rs = (r : Placed) → Memᴰ r rs → Plain r.found

  pub taken_limit : {rs : List Placed} {p : StreamListing} → Taken rs p → AllPlain rs → p.contents.limit ≡ 3
  taken_limit nothing plain = refl
  taken_limit (one_more {rs} {p} r t e) plain =
      limit_added p (plain r (Memᴰ.append_right rs (Memᴰ.head refl))) ∙ taken_limit t (λ q m. plain q (Memᴰ.append_left (r ∷ []) m))

  pub listed_ids : {rs : List Placed} {p : StreamListing} → Taken rs p → AllPlain rs → p.contents.ids ≡ all_ids rs
  unfolding all_ids
  listed_ids nothing plain = refl
  listed_ids (one_more {rs} {p} r t e) plain =
      ids_added p (plain r (Memᴰ.append_right rs (Memᴰ.head refl)))
      ∙ ap (λ (l : List ℕ). l ++ ids_of r.found) (listed_ids t (λ q m. plain q (Memᴰ.append_left (r ∷ []) m)))
      ∙ ap (λ (l : List ℕ). all_ids rs ++ l) (sym (append-nil (ids_of r.found)))
      ∙ sym (ids_append rs (r ∷ []))

-- of what is placed the routers are the LSAs'
pub router_ids : (ls : List Lsa) → all_ids (map router_in ls) ≡ map router_of ls
unfolding all_ids ids_of router_in
router_ids [] = refl
router_ids (l ∷ ls) = ap (λ (is : List ℕ). router_of l ∷ is) (router_ids ls)

half_ids : (l : Lsa) (hs : List Half) → all_ids (map (half_placed l) hs) ≡ []
unfolding all_ids ids_of half_placed
half_ids l [] = refl
half_ids l (h ∷ hs) = half_ids l hs

no_ids : (ids : List ℕ) (place : ℕ) (ls : List Lsa) → all_ids (halves_in ids place ls) ≡ []
unfolding halves_in all_ids
no_ids ids place [] = refl
no_ids ids place (l ∷ ls) =
    ids_append (map (half_placed l) (halves_at ids place l)) (halves_in ids (place + 1) ls) ∙ rw (half_ids l (halves_at ids place l), no_ids ids (place + 1) ls)

pub placed_ids : (ls : List Lsa) → all_ids (placed_in ls) ≡ map router_of ls
unfolding placed_in
placed_ids ls =
    ids_append (map router_in ls) (halves_in (map router_of ls) 0 ls) ∙ rw (router_ids ls, no_ids (map router_of ls) 0 ls, append-nil (map router_of ls))

pub taken_ids : (ls : List Lsa) {p : StreamListing} → Taken (placed_in ls) p → AllPlain (placed_in ls) → p.contents.ids ≡ map router_of ls
taken_ids ls t plain = listed_ids t plain ∙ placed_ids ls
