-- How a table is laid out (01, Rows and tables): its kind and that of its rows, and how many bytes a place and a rank have; where its fields stand, and how long
-- it is. A kind of table is a value of this.
-- Assumes nothing.
use Rattle.std.specs.Prelude.{ℕ, zero, suc, ◌+◌, ◌*◌, ◌/◌, ◌%◌, List, [], ◌∷◌, ◌++◌, get_or}
use Rattle.topology_types.specs.Limits.{most_next_hops}
use Rattle.table_rows.specs.declared.Layout.{Layout}

-- 01, Rows and tables: kind 16 with rows of kind 17, a byte for a place and for a rank
abbrev pub narrow : Layout
narrow = record { kind = 16; rows = 17; place = 1; rank = 1 }

-- 01, Rows and tables: kind 16 with body destination, router count, K; the count has as many bytes as a rank
abbrev pub header_length : Layout → ℕ
header_length l = 2 + l.place + l.rank

-- where K stands
abbrev pub limit_at : Layout → ℕ
limit_at l = 1 + l.place + l.rank

-- 01, Rows and tables: a row is its kind, rank, count, and 16 places; so many bytes stand before its places
abbrev pub front_length : Layout → ℕ
front_length l = 2 + l.rank

-- where the count of a row stands in it
abbrev pub count_at : Layout → ℕ
count_at l = 1 + l.rank

abbrev pub row_length : Layout → ℕ
row_length l = front_length l + l.place * most_next_hops

-- where the row of the place u begins
unfoldable pub row_start_lem : Layout → ℕ → ℕ
row_start_lem l u = header_length l + row_length l * u

-- how many bytes a table for so many routers has
abbrev pub table_length : Layout → ℕ → ℕ
table_length l count = row_start_lem l count

-- numbers are big-endian: the number that stands in so many bytes from an offset on
unfoldable pub number_at : ℕ → List ℕ → ℕ → ℕ
number_at zero bytes at = 0
number_at (suc zero) bytes at = get_or bytes at 0
number_at (suc (suc w)) bytes at = number_at (suc w) bytes at * 256 + get_or bytes (at + suc w) 0

-- a number in so many bytes
unfoldable pub spread : ℕ → ℕ → List ℕ
spread zero n = []
spread (suc zero) n = n ∷ []
spread (suc (suc w)) n = spread (suc w) (n / 256) ++ (n % 256 ∷ [])
