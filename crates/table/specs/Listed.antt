-- What a table lists, read from its bytes (01, Rows and tables): destination, and by place the rank and the entries, each with its arc.
-- Assumes nothing.
use Rattle.std.specs.Prelude.{ℕ, pred, min, ◌+◌, ◌*◌, Bool, cond, List, map, eqb, ltb, get_or}
use Rattle.network.specs.Lists.{below, keep}
use Rattle.network.specs.Network.{Arc, Network, size, arcs_of}
use Rattle.network.specs.Order.{shortest-path, accepted}
use Rattle.network.specs.Forwarding.{Forwarding}
use Rattle.network.specs.Routing.{routers_by}
use Rattle.topology_types.specs.Outcome.{first_or}
use Rattle.topology.specs.Written.{joined_over}
use Rattle.table_rows.specs.declared.Layout.{Layout}
use Rattle.table_rows.specs.Layout.{narrow, limit_at, count_at, front_length, row_start_lem, number_at}

-- the layout of a table, by its kind: there is one, and a table of any other kind is refused
abbrev pub layout_of : List ℕ → Layout
layout_of table = narrow

-- 01, Rows and tables: the header's kind, destination, router count and K
unfoldable pub kind_in : List ℕ → ℕ
kind_in table = get_or table 0 0

unfoldable pub destination_in_lem : List ℕ → ℕ
destination_in_lem table = number_at (layout_of table).place table 1

unfoldable pub count_in_lem : List ℕ → ℕ
count_in_lem table = number_at (layout_of table).rank table (1 + (layout_of table).place)

unfoldable pub limit_in_lem : List ℕ → ℕ
limit_in_lem table = get_or table (limit_at (layout_of table)) 0

-- 01, Rows and tables: the rank of the place u, how many entries its row has, and the places that it lists, as many as that
unfoldable pub rank_in_lem : List ℕ → ℕ → ℕ
rank_in_lem table u = number_at (layout_of table).rank table (row_start_lem (layout_of table) u + 1)

unfoldable pub entry_count : List ℕ → ℕ → ℕ
entry_count table u = get_or table (row_start_lem (layout_of table) u + count_at (layout_of table)) 0

unfoldable pub places_in : List ℕ → ℕ → List ℕ
places_in table u =
    map (λ j. number_at (layout_of table).place table (row_start_lem (layout_of table) u + front_length (layout_of table) + (layout_of table).place * j))
    (below (entry_count table u))

-- 02, #107: the rank of u by which ranks fall along the rows, for every u. 255, no rank, counts as N - 1, which no router with a path has as its rank
-- where another has none; past the places it is N.
unfoldable pub falling_rank : ℕ → List ℕ → ℕ → ℕ
falling_rank count table u = cond (ltb u count) (min (rank_in_lem table u) (pred count)) count

-- 01, Stations, links and limits: the arc of u that leads to the neighbour at v; none if v is no neighbour
unfoldable pub arcs_to : Network → ℕ → ℕ → List Arc
arcs_to n u v = keep (λ a. eqb a.to v) (arcs_of n u)

-- 01, Packet, hop and schedule: the listed next hops, the entries of the row of u, each with the arc that leads there
unfoldable pub entries_in : Network → List ℕ → ℕ → List Arc
entries_in n table u = joined_over (arcs_to n u) (places_in table u)

-- What a table lists: its destination, and by place the rank and the entries, each with its arc.
pub record TableListing : Type 0 where
  pub destination : ℕ
  pub rank : ℕ → ℕ
  pub entries : ℕ → List Arc

unfoldable pub listed : Network → List ℕ → TableListing
listed n table = record { destination = destination_in_lem table; rank = rank_in_lem table; entries = entries_in n table }

-- 01, Packet, hop and schedule: routers that forward by what a table lists, to the first entry whose link is up
abbrev pub forwarding_by : TableListing → Forwarding
forwarding_by l = routers_by l.destination l.entries

-- 01, Rows and tables: the order that the ranks of a table for so many routers form. At each rank stands the lowest place whose row has it; where none
-- has, 255 (02, #107).
unfoldable pub by_rank : ℕ → List ℕ → List ℕ
by_rank count table = map (λ r. first_or 255 (keep (λ u. eqb (rank_in_lem table u) r) (below count))) (below count)

-- 02, #107: the places in it, by rank. Where the ranks are sound they are the reached routers, and 255 is no place.
unfoldable pub order_in : ℕ → List ℕ → List ℕ
order_in count table = keep (λ u. ltb u count) (by_rank count table)

-- 01, Rows and tables: a table is in shortest-path mode if its order is accepted in that mode
unfoldable pub in_shortest_path_mode : Network → List ℕ → Bool
in_shortest_path_mode n table = accepted n (destination_in_lem table) shortest-path (order_in (size n) table)
