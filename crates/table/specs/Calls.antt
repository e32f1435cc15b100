-- What filling and checking a table leaves, whole (01, Rows and tables; Refusals, 14, 15, 17 to 21 and 24).
-- Assumes nothing.
use Rattle.std.specs.Prelude.{ℕ, Bool, cond, not, ◌&&◌, List, eqb, ltb, length, get_or, take}
use Rattle.network.specs.Lists.{below, keep, every}
use Rattle.network.specs.Network.{Network}
use Rattle.network.specs.Order.{Mode, free, build, accepted}
use Rattle.topology_types.specs.declared.Answer.{Answer}
use Rattle.topology_types.specs.declared.Topology.{Topology}
use Rattle.topology_types.specs.Limits.{most_next_hops}
use Rattle.topology_types.specs.Outcome.{answer, Outcome, turned_away, given}
use Rattle.topology_types.specs.Topology.{network_of}
use Rattle.topology_sound.specs.Sound.{sound, within}
use Rattle.order_standings.specs.declared.Mode.TheVariants as mode
use Rattle.order.specs.Calls.{reached_count_lem, refused_at_first, checking}
use Rattle.table_rows.specs.Layout.{table_length}
use Rattle.table_rows.specs.Bytes.{rank_or_none, table_bytes}
use Rattle.table.specs.Listed.{layout_of, kind_in, destination_in_lem, count_in_lem, limit_in_lem, rank_in_lem, order_in}

-- a refusal leaves the buffer as it was; number 0 goes on to the next test
unfoldable pub unless_refused : Answer → List ℕ → Outcome → Outcome
unless_refused a buffer next = cond (eqb a.number 0) next (turned_away a.number a.at buffer)

-- 14, 15, and 17 to 20 in free mode, each over the whole order; then 24 at the table's length; else the table for the topology's K and the reached ranks of the order,
-- the rest of a longer buffer staying
unfoldable pub filling : Topology → ℕ → List ℕ → List ℕ → Outcome
filling t d order buffer =
    unless_refused (checking t d mode.Free order) buffer
    (given (table_bytes (network_of t) d t.limit (take (reached_count_lem (network_of t) d) order)) buffer)

-- the table of destination d for the order that is built in a mode, and the topology's K
unfoldable pub built_table : Topology → ℕ → Mode → List ℕ
built_table t d m = table_bytes (network_of t) d t.limit (build (network_of t) d m)

-- 21: the header is sound: the layout's kind, destination below N, count N, K 1 to 16
unfoldable pub sound_header : ℕ → List ℕ → Bool
sound_header count table =
    eqb (kind_in table) (layout_of table).kind && ltb (destination_in_lem table) count && eqb (count_in_lem table) count && within most_next_hops (limit_in_lem table)

-- Which ranks and rows are right in a table is its profile, by its kind. 01, Rows and tables: those of an order.
pub data Profile : Type 0 where
  permutation : Profile

abbrev pub profile_of : List ℕ → Profile
profile_of table = permutation

-- 21: the ranks form an order accepted in free mode: each router has its rank in it, and one that it does not hold has none (02, #107)
unfoldable pub right_ranks : Profile → Network → ℕ → List ℕ → Bool
right_ranks permutation n count table =
    accepted n (destination_in_lem table) free (order_in count table)
    && every (λ u. eqb (rank_in_lem table u) (rank_or_none (order_in count table) u)) (below count)

-- the bytes that filling would give for the table's ranks and the header's destination and K
unfoldable pub right_bytes : Profile → Network → ℕ → List ℕ → List ℕ
right_bytes permutation n count table = table_bytes n (destination_in_lem table) (limit_in_lem table) (order_in count table)

unfoldable pub sound_ranks : Network → ℕ → List ℕ → Bool
sound_ranks n count table = right_ranks (profile_of table) n count table

-- the offsets below the first list's length at which the two differ
unfoldable pub differing : List ℕ → List ℕ → List ℕ
differing table other = keep (λ i. not (eqb (get_or table i 0) (get_or other i 0))) (below (length table))

-- 21: the bytes that filling would not give
unfoldable pub wrong_bytes : Network → ℕ → List ℕ → List ℕ
wrong_bytes n count table = differing table (right_bytes (profile_of table) n count table)

-- 21, at the length if that is wrong; else at 0 for the header or ranks; else at the first wrong byte
unfoldable pub table_judging : Topology → List ℕ → Answer
table_judging t table =
    cond (not (eqb (length table) (table_length (layout_of table) t.routers))) (answer 21 (length table))
    (cond (not (sound_header t.routers table && sound_ranks (network_of t) t.routers table)) (answer 21 0)
    (refused_at_first 21 (wrong_bytes (network_of t) t.routers table) (answer 0 0)))

-- 14, then 21
unfoldable pub table_checking : Topology → List ℕ → Answer
table_checking t table = cond (not (sound t)) (answer 14 0) (table_judging t table)
