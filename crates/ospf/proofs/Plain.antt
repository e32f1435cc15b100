-- What is taken of a file of bytes is routers and halves that fit, so that what is listed stays good.
-- Assumes nothing.
use Prim.Native.Nat.{ℕ, zero, suc, ◌+◌, ◌≤◌, ◌<◌, ◌^◌}
use mathlib.Core.Bool.{Bool, true, false, cond, not, ◌&&◌}
use mathlib.Core.List.Memᴰ
use mathlib.Core.List.{List, [], ◌∷◌, map, Memᴰ}
use mathlib.Core.Logic.{⊎_elim}
use mathlib.Core.Path.{◌≡◌, refl, sym, subst}
use native.Mathlib.Omega.{arith}
use lib.Dec.{eqb, leb, ltb}
use lib.ListN.{length, get_or, take, drop, length-drop, take-append-drop}
use lib.Seq.{length-take-le}
use Rattle.network.specs.Lists.{any, member}
use Rattle.network.proofs.Lists.{mem_take, mem_keep}
use Rattle.topology_types.specs.declared.Half.{Half}
use Rattle.stream_rules.specs.Record.{Record}
use Rattle.stream_rules.specs.Record as record_of
use Rattle.stream_rules.specs.Halves.{StreamListing, halves}
use Rattle.stream_rules.specs.Reading.{fault, router_fault_lem, repeated, crowded, halves_fault_lem, is_end, nothing_listed}
use Rattle.stream_rules.specs.Theorems.{Bytes, two_at}
use Rattle.stream_rules.proofs.Digits.{bytes_below}
use Rattle.stream_rules.specs.Inner.{Fitting}
use Rattle.stream_rules.proofs.Kept.{Good, good_nothing, kept}
use Rattle.ospf_lsas.specs.Lsa.{advertising_router, length_field, link_count, links, malformed, Lsa, lsas}
use Rattle.ospf_halves.specs.Neighbours.{all_of, halves_of, half_to}
use Rattle.ospf_lsas.specs.Theorems.{Consecutive, end, faulty, next}
use Rattle.ospf.specs.Import.{Placed, router_of, router_in, half_placed, halves_at, halves_in, placed_in}
use Rattle.ospf.specs.Theorems.{Taken, nothing, one_more, AllWhole}
use Rattle.ospf_lsas.proofs.Malformed.{cut}
use Rattle.ospf_lsas.proofs.InTurn.{lsas_consecutive}
use Rattle.ospf_halves.proofs.Named.{neighbour_fits}

pub data Plain : Record → Type 0 where
  router : (id : ℕ) → id < 2 ^ 32 → Plain (record_of.Router id)
  half : (h : Half) → h.cost < 2 ^ 16 → Plain (record_of.Half h)

pub fitting : {r : Record} → Plain r → Fitting r
fitting (router id f) = f
fitting (half h f) = f

pub no_end : {r : Record} → Plain r → is_end r ≡ false
unfolding is_end
no_end (router id f) = refl
no_end (half h f) = refl

-- a chain of tests gives no greater number than its greatest
step : (most : ℕ) (b : Bool) (n rest : ℕ) → n ≤ most → rest ≤ most → cond b n rest ≤ most
step most true n rest h k = h
step most false n rest h k = k

pub fault_most : (p : StreamListing) {r : Record} → Plain r → fault p r ≤ 10
unfolding fault router_fault_lem halves_fault_lem
fault_most p (router id f) =
    let n = length p.contents.ids in
    step 10 (member id p.contents.ids) 3 _ (omega arith) (step 10 (leb 64 n) 4 0 (omega arith) (omega arith))
fault_most p (half h f) =
    let n = length p.contents.ids in
    step 10 (not (ltb h.from.0 n && ltb h.to.0 n)) 5 _ (omega arith)
    (step 10 (eqb h.from.0 h.to.0) 6 _ (omega arith)
    (step 10 (eqb h.cost 0) 7 _ (omega arith)
    (step 10 (any (repeated p) (h ∷ [])) 8 _ (omega arith)
    (step 10 (ltb 512 (length (halves p) + 1)) 9 _ (omega arith)
    (step 10 (any (λ k. crowded p k.from.0) (h ∷ [])) 10 0 (omega arith) (omega arith))))))

-- what is listed is good
pub taken_good : {rs : List Placed} {p : StreamListing} → Taken rs p → ((r : Placed) → Memᴰ r rs → Plain r.found) → Good p
unfolding nothing_listed
taken_good nothing plain = good_nothing
taken_good (one_more {rs} {p} r t e) plain =
    kept p (taken_good t (λ q m. plain q (Memᴰ.append_left (r ∷ []) m))) r.found e (fitting (plain r (Memᴰ.append_right rs (Memᴰ.head refl))))

-- parts of bytes are bytes
pub bytes_drop : (n : ℕ) (s : List ℕ) → Bytes s → Bytes (drop n s)
bytes_drop n s bytes b m = bytes b (rw take-append-drop at (Memᴰ.append_right (take n s) m))

pub bytes_take : (n : ℕ) (s : List ℕ) → Bytes s → Bytes (take n s)
bytes_take n s bytes b m = bytes b (mem_take n s m)

pub byte_at : (s : List ℕ) → Bytes s → (i : ℕ) → get_or s i 0 < 256
byte_at [] bytes i = omega arith
byte_at (b ∷ s) bytes zero = bytes b (Memᴰ.head refl)
byte_at (b ∷ s) bytes (suc i) = byte_at s (λ c m. bytes c (Memᴰ.tail m)) i

pub lsa_bytes : {at : ℕ} {s : List ℕ} {ls : List Lsa} → Consecutive at s ls → Bytes s → (l : Lsa) → Memᴰ l ls → Bytes l.bytes
lsa_bytes end bytes l m = absurd (Memᴰ.not-nil m)
lsa_bytes (faulty s some e) bytes l m = subst (λ (l : Lsa). Bytes l.bytes) (sym (Memᴰ.eq_of_singleton m)) bytes
lsa_bytes (next s e rest) bytes l m =
    ⊎_elim (λ is. subst (λ (l : Lsa). Bytes l.bytes) (sym is) (bytes_take (two_at s 18) s bytes))
    (λ m. lsa_bytes rest (bytes_drop (two_at s 18) s bytes) l m) (Memᴰ.cases_cons m)

module _ (l : Lsa) (whole : malformed l.bytes ≡ false) (bytes : Bytes l.bytes) where
  pub id_fits : router_of l < 2 ^ 32
  unfolding router_of advertising_router
  id_fits =
      let c = cut l.bytes whole in
      let four : length (take 4 (drop 8 l.bytes)) ≡ 4 =
      length-take-le 4 (drop 8 l.bytes) (omega (arith, length-drop 8 l.bytes, c.begun, c.fits)) in
      rw four at (bytes_below (take 4 (drop 8 l.bytes)) (bytes_take 4 (drop 8 l.bytes) (bytes_drop 8 l.bytes bytes)))

  pub half_plain : (ids : List ℕ) (place : ℕ) (h : Half) → Memᴰ h (halves_at ids place l) → h.cost < 2 ^ 16
  unfolding halves_at halves_of half_to links
  half_plain ids place h m =
      let (id, k, is) = Memᴰ.of_map (half_to ids place (all_of (links l.bytes))) _ m in
      let s = drop 24 (take (length_field l.bytes) l.bytes) in
      subst (λ (h : Half). h.cost < 2 ^ 16) is
      (neighbour_fits (link_count l.bytes) s id
      (byte_at s (bytes_drop 24 (take (length_field l.bytes) l.bytes) (bytes_take (length_field l.bytes) l.bytes bytes))) (mem_keep _ _ k).0)

module _ (ids : List ℕ) where
  half-in : (place : ℕ) (ls : List Lsa) → ((l : Lsa) → Memᴰ l ls → malformed l.bytes ≡ false) →
      ((l : Lsa) → Memᴰ l ls → Bytes l.bytes) → (r : Placed) → Memᴰ r (halves_in ids place ls) → Plain r.found
  unfolding halves_in half_placed
  half-in place [] whole bytes r m = absurd (Memᴰ.not-nil m)
  half-in place (l ∷ ls) whole bytes r m =
      ⊎_elim
      (λ k. let (h, n, is) = Memᴰ.of_map (half_placed l) (halves_at ids place l) k in
      subst (λ (r : Placed). Plain r.found) is (half h (half_plain l (whole l (Memᴰ.head refl)) (bytes l (Memᴰ.head refl)) ids place h n)))
      (half-in (place + 1) ls (λ k n. whole k (Memᴰ.tail n)) (λ k n. bytes k (Memᴰ.tail n)) r) (Memᴰ.append_cases (map (half_placed l) (halves_at ids place l)) m)

pub placed_plain : (file : List ℕ) → Bytes file → AllWhole file → (r : Placed) → Memᴰ r (placed_in (lsas file)) → Plain r.found
unfolding placed_in router_in
placed_plain file bytes whole r m =
    let each = lsa_bytes (lsas_consecutive file) bytes in
    ⊎_elim (λ k. let (l, n, is) = Memᴰ.of_map router_in (lsas file) k in subst (λ (r : Placed). Plain r.found) is (router (router_of l) (id_fits l (whole l n) (each l n))))
    (half-in (map router_of (lsas file)) 0 (lsas file) whole each r) (Memᴰ.append_cases (map router_in (lsas file)) m)
