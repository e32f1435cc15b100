-- Routers that forward by their rows, to the first entry whose link is up (01, Packet, hop and schedule): the first instance of Forwarding. Each
-- definition is over any rows first, and then over those of an order.
-- Assumes nothing.
use Rattle.std.specs.Prelude.{ℕ, ◌+◌, Bool, cond, ◌&&◌, List, [], ◌∷◌, map, eqb, ltb, leb, length, get_or}
use Rattle.std.proofs.Math.Option.{Option, none, some}
use Rattle.network.specs.Lists.{below, every}
use Rattle.network.specs.Network.{Arc, Network, size}
use Rattle.network.specs.Distance.{distances}
use Rattle.network.specs.Row.{row}
use Rattle.network.specs.Forwarding.{Forwarding, longest}
use Rattle.network.specs.Paths.{paths_from}
use Rattle.network.specs.Calls.{Tests}

-- 01, Packet, hop and schedule: link states are one byte per link, 1 up, 0 down
unfoldable pub up : List ℕ → ℕ → Bool
up states link = eqb (get_or states link 0) 1

-- 01, Refusals, 22 and 23: one byte per link, none over 1
unfoldable pub valid_states : Network → List ℕ → Bool
valid_states n states = eqb (length states) n.links && every (λ b. leb b 1) states

-- 01, Packet, hop and schedule: the first entry of the row whose link is up
unfoldable pub first_live : List ℕ → List Arc → Option Arc
first_live states [] = none
first_live states (a ∷ rest) = cond (up states a.link) (some a) (first_live states rest)

-- 01, Packet, hop and schedule: routers that forward to d by any rows
abbrev pub routers_by : ℕ → (ℕ → List Arc) → Forwarding
routers_by d rows =
    record {
      State = ℕ;
      Entry = Arc;
      States = List ℕ;
      home = λ u. eqb u d;
      row = rows;
      next = λ a. a.to;
      choose = λ states u. first_live states (rows u);
    }

-- 01, Packet, hop and schedule: the routers of a network under an order for d, with rows of at most `limit` entries
abbrev pub routers : Network → ℕ → ℕ → List ℕ → Forwarding
routers n d limit order = routers_by d (row n (distances n d) limit order)

-- 01, Packet, hop and schedule: the greatest hop count of u, as it is computed, over any rows and under an order; where ranks fall, 0 if u has no path to d
abbrev pub greatest_hop_by : Network → ℕ → (ℕ → List Arc) → ℕ → ℕ
greatest_hop_by n d rows u = longest (routers_by d rows) (size n) u

abbrev pub greatest_hop : Network → ℕ → ℕ → List ℕ → ℕ → ℕ
greatest_hop n d limit order u = greatest_hop_by n d (row n (distances n d) limit order) u

-- 01, Packet, hop and schedule: for all places; these are the figures reported, except that 255 is reported where there is no path (02, #107)
unfoldable pub greatest_hops_lem : Network → ℕ → ℕ → List ℕ → List ℕ
greatest_hops_lem n d limit order = map (greatest_hop n d limit order) (below (size n))

-- 02, 103: every path from u to d down any rows, and under an order, each as the places that it goes by
abbrev pub every_path_by : Network → ℕ → (ℕ → List Arc) → ℕ → List (List ℕ)
every_path_by n d rows u = paths_from (routers_by d rows) (size n) u

abbrev pub every_path : Network → ℕ → ℕ → List ℕ → ℕ → List (List ℕ)
every_path n d limit order u = every_path_by n d (row n (distances n d) limit order) u

-- 01, Refusals, 15, 22 and 23, for what is not refused: a start, a packet's station and its hops made are below N; link states are one byte per
-- link, none over 1
abbrev pub call_tests_by : (n : Network) (d : ℕ) (rows : ℕ → List Arc) → Tests (routers_by d rows)
call_tests_by n d rows =
    record { start_ok = λ u. ltb u (size n); hop_ok = λ states p. ltb p.station (size n) && ltb p.hops (size n) && valid_states n states }

abbrev pub call_tests : (n : Network) (d limit : ℕ) (order : List ℕ) → Tests (routers n d limit order)
call_tests n d limit order = call_tests_by n d (row n (distances n d) limit order)

-- 01, Order: the sum of the arcs' costs
unfoldable pub cost_of_lem : List Arc → ℕ
cost_of_lem [] = 0
cost_of_lem (a ∷ rest) = a.cost + cost_of_lem rest
