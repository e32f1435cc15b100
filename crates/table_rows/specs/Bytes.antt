-- The bytes of rows and tables (01, Rows and tables).
-- Assumes nothing.
use Rattle.std.specs.Prelude.{ℕ, ◌*◌, cond, List, [], ◌∷◌, ◌++◌, map, length}
use Rattle.network.specs.Lists.{below, member}
use Rattle.network.specs.Network.{Arc, Network, size}
use Rattle.network.specs.Distance.{distances}
use Rattle.network.specs.Row.{rank, row}
use Rattle.topology_types.specs.Limits.{most_next_hops}
use Rattle.topology_types.specs.Topology.{padded}
use Rattle.topology.specs.Written.{joined_over}
use Rattle.table_rows.specs.declared.Layout.{Layout}
use Rattle.table_rows.specs.Layout.{narrow, spread}

-- 01, Rows and tables: one row, its kind, body rank, count, 16 places, unused ones 255 in each byte
unfoldable pub row_bytes : Layout → ℕ → List ℕ → List ℕ
row_bytes l rank places =
    l.rows ∷ (spread l.rank rank ++ (length places ∷ padded 255 (l.place * most_next_hops) (joined_over (spread l.place) places)))

-- 01, Rows and tables: the table's kind with body destination, router count, K
unfoldable pub header_bytes : Layout → ℕ → ℕ → ℕ → List ℕ
header_bytes l d count limit = l.kind ∷ (spread l.place d ++ (spread l.rank count ++ (limit ∷ [])))

-- 01, Rows and tables: the row of u as a table has it, its rank and the places of its entries
unfoldable pub row_of : Layout → (ℕ → ℕ) → (ℕ → List Arc) → ℕ → List ℕ
row_of l ranks rows u = row_bytes l (ranks u) (map (λ (a : Arc). a.to) (rows u))

-- 01, Rows and tables: the table for so many routers, destination d and next-hop limit K, with these ranks and rows by place: the header, then per place one
-- row
unfoldable pub table_of : Layout → ℕ → ℕ → ℕ → (ℕ → ℕ) → (ℕ → List Arc) → List ℕ
table_of l count d limit ranks rows = header_bytes l d count limit ++ joined_over (row_of l ranks rows) (below count)

-- 01, Rows and tables, and 02, #107: the rank of u as a table has it. An order holds the routers that have a path to its destination; one that it does not
-- hold has no rank, and 255 stands for that.
unfoldable pub rank_or_none : List ℕ → ℕ → ℕ
rank_or_none order u = cond (member u order) (rank order u) 255

-- 01, Rows and tables: the table for destination d, next-hop limit K and an order
unfoldable pub table_bytes : Network → ℕ → ℕ → List ℕ → List ℕ
table_bytes n d limit order = table_of narrow (size n) d limit (rank_or_none order) (row n (distances n d) limit order)
