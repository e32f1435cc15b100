-- The bytes of a table: pieces of one width stand at multiples of it, so each byte is one of a row. Two lists of one length that have these bytes agree
-- at every index, and so are one.
-- Assumes nothing.
use Prim.Native.Nat.{ℕ, zero, suc, ◌+◌, ◌*◌, ◌-◌, ◌/◌, ◌%◌, ◌≤◌, ◌<◌}
use mathlib.Core.List.{List, [], ◌∷◌, map}
use mathlib.Core.Path.{◌≡◌, refl, sym, ap, ◌∙◌, subst}
use native.Mathlib.Decide.{dec_lt}
use native.Mathlib.Nat.{not-suc-le-zero, le_of_suc-le-suc, mul-suc, mul-zero}
use native.Mathlib.Omega.{arith}
use lib.ListN.{length, get_or, replicate, length-map, get_or-replicate, get_or-append}
use lib.Seq.{get_or-append-add, ext_get_or}
use Rattle.network.specs.Lists.{below}
use Rattle.network.specs.Network.{Arc, Network, size}
use Rattle.network.specs.Distance.{distances}
use Rattle.network.specs.Row.{row}
use Rattle.network.proofs.Below.{length_below}
use Rattle.topology_types.specs.Topology.{padded}
use Rattle.topology_sound.proofs.Stores.{get_d_number}
use Rattle.topology.specs.Written.{joined_over}
use Rattle.topology.proofs.Joined.{joined_length}
use Rattle.table_rows.specs.Layout.{narrow, spread}
use Rattle.table_rows.specs.Bytes.{rank_or_none, header_bytes, row_of, table_of, table_bytes}
use Rattle.table_rows.proofs.Layouts.{bytewise, row_is}
use Rattle.table_rows.proofs.Putting.{row_few, row_wide}
use Rattle.table.specs.Theorems.{RowAt, TableIs, BytesExact}
use Rattle.table.proofs.Ordered.{as_byte}

-- pieces of width w, one after the other: what stands in the one at i
module _ {A : Type 0} (f : A → List ℕ) (w : ℕ) (wide : (x : A) → length (f x) ≡ w) where
  pub joined_at : (xs : List A) (i k : ℕ) (z : A) → i < length xs → k < w → get_or (joined_over f xs) (w * i + k) 0 ≡ get_or (f (get_or xs i z)) k 0
  unfolding joined_over
  joined_at [] i k z h l = absurd (not-suc-le-zero h)
  joined_at (x ∷ xs) zero k z h l =
      ap (λ (j : ℕ). get_or (joined_over f (x ∷ xs)) j 0) (rw mul-zero (omega arith))
      ∙ get_or-append (f x) (joined_over f xs) 0 k (omega (arith, wide x))
  joined_at (x ∷ xs) (suc i) k z h l =
      ap (λ (j : ℕ). get_or (joined_over f (x ∷ xs)) j 0) (rw mul-suc (omega (arith, wide x)))
      ∙ get_or-append-add (f x) (joined_over f xs) (w * i + k) 0
      ∙ joined_at xs i k z (le_of_suc-le-suc h) l

module _ (n : Network) (d limit : ℕ) (few : limit ≤ 16) (order : List ℕ) where
  abbrev entries : ℕ → List Arc
  entries u = row n (distances n d) limit order u

  abbrev places : ℕ → List ℕ
  places u = map (λ (a : Arc). a.to) (entries u)

  abbrev bytes : ℕ → List ℕ
  bytes u = row_of narrow (rank_or_none order) entries u

  abbrev table : List ℕ
  table = table_bytes n d limit order

  its_few : (u : ℕ) → length (entries u) ≤ 16
  its_few = row_few n (distances n d) limit few order

  places_long : (u : ℕ) → length (places u) ≡ length (entries u)
  places_long u = length-map (entries u) (λ (a : Arc). a.to)

  -- the bytes of the row of u, one by one
  abbrev plain : ℕ → List ℕ
  plain u = 17 ∷ rank_or_none order u ∷ length (places u) ∷ padded 255 16 (places u)

  row_plain : (u : ℕ) → bytes u ≡ plain u
  unfolding row_of
  row_plain u = row_is narrow bytewise (rank_or_none order u) (places u)

  table_long : length table ≡ 4 + 19 * size n
  unfolding table_bytes table_of header_bytes spread
  table_long = omega (arith, joined_length bytes (row_wide narrow (rank_or_none order) entries its_few) (below (size n)), length_below (size n))

  -- byte k of the row of u
  row_at : (u k i : ℕ) → i ≡ 4 + (19 * u + k) → u < size n → k < 19 → get_or table i 0 ≡ get_or (plain u) k 0
  unfolding table_bytes table_of header_bytes spread
  row_at u k i e h l =
      ap (λ (j : ℕ). get_or table j 0) e
      ∙ get_or-append-add (header_bytes narrow d (size n) limit) (joined_over bytes (below (size n))) (19 * u + k) 0
      ∙ joined_at bytes 19 (row_wide narrow (rank_or_none order) entries its_few) (below (size n)) u k 0 (rw length_below h) l
      ∙ ap (λ (v : ℕ). get_or (bytes v) k 0) (get_d_number (size n) u h)
      ∙ ap (λ (r : List ℕ). get_or r k 0) (row_plain u)

  row_holds : (u : ℕ) → u < size n → RowAt n d limit order table u
  unfolding padded
  row_holds u h =
      record {
        kind = row_at u 0 _ (omega arith) h (omega arith);
        rank_is = (as_byte order u _).1 (row_at u 1 _ (omega arith) h (omega arith));
        count = row_at u 2 _ (omega arith) h (omega arith) ∙ places_long u;
        entry = λ j l.
            row_at u (suc (suc (suc j))) _ (omega arith) h (omega (arith, its_few u))
            ∙ get_or-append (places u) (replicate (16 - length (places u)) 255) 0 j (omega (arith, places_long u));
        padding = λ j l m.
            row_at u (suc (suc (suc j))) _ (omega arith) h (omega arith)
            ∙ ap (λ (i : ℕ). get_or (padded 255 16 (places u)) i 0) (omega (arith, places_long u))
            ∙ get_or-append-add (places u) (replicate (16 - length (places u)) 255) (j - length (places u)) 0
            ∙ get_or-replicate (16 - length (places u)) (j - length (places u)) 255 0 (omega (arith, places_long u));
      }

  pub holds : TableIs n d limit order table
  unfolding table_bytes table_of header_bytes spread
  holds =
      record {
        long = table_long;
        kind = refl;
        destination = refl;
        count = refl;
        limit_is = refl;
        rows = row_holds;
      }

-- the bytes of a table leave none open
module _ (n : Network) (d limit : ℕ) (order a b : List ℕ) where
  agree : (i j v : ℕ) → i ≡ j → get_or a j 0 ≡ v → get_or b j 0 ≡ v → get_or a i 0 ≡ get_or b i 0
  agree i j v e p q = rw e (p ∙ sym q)

  row_same : (u : ℕ) → RowAt n d limit order a u → RowAt n d limit order b u → (k i : ℕ) → i ≡ 4 + (19 * u + k) → k < 19 → get_or a i 0 ≡ get_or b i 0
  row_same u p q zero i e h = agree i _ _ (omega arith) p.kind q.kind
  row_same u p q (suc zero) i e h =
      agree i (4 + 19 * u + 1) (rank_or_none order u) (omega arith) ((as_byte order u _).0 p.rank_is) ((as_byte order u _).0 q.rank_is)
  row_same u p q (suc (suc zero)) i e h = agree i _ _ (omega arith) p.count q.count
  row_same u p q (suc (suc (suc j))) i e h = step (dec_lt j (length (row n (distances n d) limit order u)))
    where
      step : Dec (j < length (row n (distances n d) limit order u)) → get_or a i 0 ≡ get_or b i 0
      step (yes l) = agree i _ _ (omega arith) (p.entry j l) (q.entry j l)
      step (no l) = agree i _ _ (omega arith) (p.padding j (omega arith) (omega arith)) (q.padding j (omega arith) (omega arith))

  pub only_one : TableIs n d limit order a → TableIs n d limit order b → a ≡ b
  only_one p q = ext_get_or 0 a b (p.long ∙ sym q.long) at
    where
      at : (i : ℕ) → i < length a → get_or a i 0 ≡ get_or b i 0
      at zero h = p.kind ∙ sym q.kind
      at (suc zero) h = p.destination ∙ sym q.destination
      at (suc (suc zero)) h = p.count ∙ sym q.count
      at (suc (suc (suc zero))) h = p.limit_is ∙ sym q.limit_is
      at (suc (suc (suc (suc i)))) h =
          let u = i / 19 in
          let inside : u < size n = omega (arith, p.long) in
          row_same u (p.rows u inside) (q.rows u inside) (i % 19) _ (omega arith) (omega arith)

pub bytes_exact : BytesExact
bytes_exact n d limit few order table = (
  λ e. subst (TableIs n d limit order) (sym e) (holds n d limit few order),
  λ p. only_one n d limit order table (table_bytes n d limit order) p (holds n d limit few order),
)
