-- Lengths by a layout fit, since a row has at most 36 bytes and there are at most 64. Numbers of a byte each are themselves, one after the other.
-- Assumes nothing.
use Prim.Native.Nat.{ℕ, ◌+◌, ◌*◌, ◌≤◌}
use mathlib.Core.List.{List, [], ◌∷◌}
use mathlib.Core.Path.{◌≡◌, refl, ap}
use native.Mathlib.Nat.{mul-le-mul}
use native.Mathlib.Omega.{arith}
use lib.ListN.{length}
use Rattle.topology_types.specs.Topology.{padded}
use Rattle.topology.specs.Written.{joined_over}
use Rattle.table_rows.specs.declared.Layout.{Layout}
use Rattle.table_rows.specs.Layout.{narrow, row_length, spread}
use Rattle.table_rows.specs.Bytes.{header_bytes, row_bytes}
use Rattle.table_rows.specs.Inner.{Readable, Bytewise}

pub readable : Readable narrow
readable = record { place_least = omega arith; place_most = omega arith; rank_least = omega arith; rank_most = omega arith }

pub bytewise : Bytewise narrow
bytewise = record { place = refl; rank = refl }

pub rows_fit : (l : Layout) → Readable l → (u : ℕ) → u ≤ 64 → (2 + l.rank + l.place * 16) * u ≤ 2304
rows_fit l r u few = let row : 2 + l.rank + l.place * 16 ≤ 36 = omega (arith, r.place_most, r.rank_most) in mul-le-mul row few

pub singles : (xs : List ℕ) → joined_over (spread 1) xs ≡ xs
unfolding joined_over spread
singles [] = refl
singles (x ∷ xs) = ap (λ (rest : List ℕ). x ∷ rest) (singles xs)

-- where a place and a rank have a byte each, the fields of a header and of a row are their bytes
module _ (l : Layout) (w : Bytewise l) where
  pub header_is : (d count limit : ℕ) → header_bytes l d count limit ≡ l.kind ∷ d ∷ count ∷ limit ∷ []
  unfolding header_bytes spread
  header_is d count limit = rw (w.place, w.rank)

  pub row_wide : row_length l ≡ 19
  row_wide = omega (arith, w.place, w.rank)

  pub row_is : (rank : ℕ) (places : List ℕ) → row_bytes l rank places ≡ l.rows ∷ rank ∷ length places ∷ padded 255 16 places
  unfolding row_bytes spread
  row_is rank places = rw (w.place, w.rank, singles places)
