-- What building and checking an order leaves, whole (01, Order; Refusals, 14, 15, 17 to 20 and 24).
-- Assumes nothing.
use Rattle.std.specs.Prelude.{ℕ, pred, ◌-◌, cond, not, ◌||◌, List, [], ◌∷◌, Option, Some, None, eqb, ltb, length, get_or, take}
use Rattle.network.specs.Lists.{numbers_from, below, keep, member}
use Rattle.network.specs.Network.{Network, size}
use Rattle.network.specs.Distance.{distances}
use Rattle.network.specs.Order.{reached, candidate, build}
use Rattle.network.specs.Order as network
use Rattle.topology_types.specs.declared.Answer.{Answer}
use Rattle.topology_types.specs.declared.Topology.{Topology}
use Rattle.topology_types.specs.Topology.{padded, network_of}
use Rattle.topology_sound.specs.Place.{on_place}
use Rattle.topology_types.specs.Outcome.{answer, Outcome, turned_away, given}
use Rattle.order_standings.specs.declared.Mode.{Mode}
use Rattle.order_standings.specs.declared.Mode.TheVariants as mode

-- the mode as the definitions have it
unfoldable pub mode_of : Mode → network.Mode
mode_of mode.ShortestPath = network.shortest-path
mode_of mode.Free = network.free

-- 02, #107: how many routers have a path to d, and so how many ranks of an order are reached
unfoldable pub reached_count_lem : Network → ℕ → ℕ
reached_count_lem n d = length (keep (reached n (distances n d)) (below (size n)))

-- 02, #107: an order holds the reached routers, then 255 up to N
unfoldable pub order_bytes : ℕ → List ℕ → List ℕ
order_bytes count order = padded 255 count order

-- 14, 15, then 24 at N; else the order that we build, N bytes, the rest of a longer buffer staying
unfoldable pub building : Topology → ℕ → Mode → List ℕ → Outcome
building t d m buffer =
    on_place (λ number at. turned_away number at buffer) t d (given (order_bytes t.routers (build (network_of t) d (mode_of m))) buffer)

-- 18: the ranks whose entry is not below N, or stands before
unfoldable pub wrong_ranks : ℕ → List ℕ → List ℕ
wrong_ranks count order = keep (λ r. not (ltb (get_or order r 0) count) || member (get_or order r 0) (take r order)) (below (length order))

-- 02, #107, 18: the ranks after the first `count` whose entry is anything but 255
unfoldable pub ranks_after : ℕ → List ℕ → List ℕ
ranks_after count order = keep (λ r. not (eqb (get_or order r 0) 255)) (numbers_from count (length order - count))

-- 20: the ranks, but 0, whose router is no candidate when placed
unfoldable pub unready_ranks : Network → ℕ → network.Mode → List ℕ → List ℕ
unready_ranks n d m order = keep (λ r. not (candidate n (distances n d) m (take r order) (get_or order r 0))) (numbers_from 1 (pred (length order)))

-- the first of these ranks, if there is one
abbrev pub first_of : List ℕ → Option ℕ
first_of [] = None
first_of (r ∷ rs) = Some r

-- a test over the whole order: it points at the first rank that fails it, else the next test follows
unfoldable pub refused_at_first : ℕ → List ℕ → Answer → Answer
refused_at_first number [] next = next
refused_at_first number (r ∷ rs) next = answer number r

-- 17 at the length, 18 at the rank, of the reached ranks and then of those after them, 19, and 20 at the first such rank of the reached ones
unfoldable pub judging : Topology → ℕ → Mode → List ℕ → Answer
judging t d m order =
    cond (not (eqb (length order) t.routers)) (answer 17 (length order))
    (refused_at_first 18 (wrong_ranks t.routers (take (reached_count_lem (network_of t) d) order))
    (refused_at_first 18 (ranks_after (reached_count_lem (network_of t) d) order)
    (cond (not (eqb (get_or order 0 0) d)) (answer 19 0)
    (refused_at_first 20 (unready_ranks (network_of t) d (mode_of m) (take (reached_count_lem (network_of t) d) order)) (answer 0 0)))))

-- 14, 15, then 17 to 20
unfoldable pub checking : Topology → ℕ → Mode → List ℕ → Answer
checking t d m order = on_place answer t d (judging t d m order)
