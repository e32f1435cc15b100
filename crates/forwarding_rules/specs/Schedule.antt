-- Link states and schedules as bytes (01, Packet, hop and schedule; Refusals, 22 and 23).
-- Assumes nothing.
use Rattle.std.specs.Prelude.{ℕ, suc, pred, ◌*◌, Bool, not, List, map, eqb, leb, ltb, length, get_or, take, drop}
use Rattle.network.specs.Lists.{numbers_from, below, keep}
use Rattle.topology_types.specs.Outcome.{first_or}

-- 01, Packet, hop and schedule: row h of a schedule, which rules the hop after h hops were made; it has one byte per link
unfoldable pub row_in : ℕ → List ℕ → ℕ → List ℕ
row_in links schedule h = take links (drop (h * links) schedule)

-- the number of rows, at least N - 1, that so many bytes are, if they are so many whole rows; with no links, N - 1 for no bytes
unfoldable pub row_counts : ℕ → ℕ → ℕ → List ℕ
row_counts routers links long = keep (λ k. eqb (k * links) long) (numbers_from (pred routers) (suc long))

-- 01, Packet, hop and schedule: a schedule is a run of such rows; with no links it stands for N - 1 rows of no states
unfoldable pub rows_in : ℕ → ℕ → List ℕ → List (List ℕ)
rows_in routers links schedule = map (row_in links schedule) (below (first_or 0 (row_counts routers links (length schedule))))

-- 22: whole rows, at least N - 1 of them; with no links it is empty
unfoldable pub sound_length : ℕ → ℕ → ℕ → Bool
sound_length routers links long = ltb 0 (length (row_counts routers links long))

-- 23: the state bytes over 1
unfoldable pub wrong_states : List ℕ → List ℕ
wrong_states states = keep (λ i. not (leb (get_or states i 0) 1)) (below (length states))
