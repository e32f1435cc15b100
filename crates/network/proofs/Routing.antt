-- Routers whose ranks fall along the entries of their rows are an instance of forwarding: each entry is the first live one where its link alone is up.
-- Assumes nothing.
use Prim.Native.Nat.{ℕ, ◌≤◌, ◌<◌}
use mathlib.Core.List.{List, Memᴰ}
use mathlib.Core.Logic.{inl, inr, ⊎_elim}
use mathlib.Core.Path.{◌≡◌, refl, ap}
use native.Mathlib.Omega.{arith}
use lib.Dec.{T, eqb, ltb, leb, eqb→eq, ltb→lt, lt→ltb, leb→le, le→leb}
use lib.ListN.{length}
use Rattle.network.specs.Lists.{every}
use Rattle.network.specs.Network.{Arc, Network, size, arcs_of, WellFormed}
use Rattle.network.specs.Distance.{distances}
use Rattle.network.specs.Row.{row}
use Rattle.network.specs.Forwarding.{Forwarding}
use Rattle.network.specs.Routing.{valid_states, routers_by, greatest_hop_by, greatest_hops_lem, call_tests_by}
use Rattle.network.specs.Theorems.Forwarding.{Lawful, Ended, at_home, nothing_live, no_entry}
use Rattle.network.specs.Theorems.Calls.{CallsBounded}
use Rattle.network.specs.Theorems.Routing.{FallingRows, RowsLawful, RowsExact, RowWalkEnd, delivers, drops, RowsEnd, RowHopsByRule, RowsCalls, RowsNeverLoop}
use Rattle.network.specs.Theorems.Routing.{OfTables, RoutersLawful, RoutersExact, WalksEnd, HopsByRule, RoutersCalls, RoutersNeverLoop, FiguresByPlace, TestsRight}
use Rattle.network.proofs.Tests.{both, and, three, and_three, eq_test}
use Rattle.network.proofs.Lists.{every_all, all_every}
use Rattle.network.proofs.Sort.{pairwise_map}
use Rattle.network.proofs.Below.{get_d_below, length_map_below}
use Rattle.network.proofs.Falling.{orders_fall}
use Rattle.network.proofs.Live.{live_mem, first-live, down_or_live, none_live, down_none, alone_live, only_up, only_valid, only-up, others_down}
use Rattle.network.proofs.Hops.{hops_chosen}
use Rattle.network.proofs.Forwarding.{walks_exact, walks_finish, never_loops}
use Rattle.network.proofs.Calls.{calls_exact}

pub tests_right : TestsRight
unfolding valid_states
tests_right n d limit order = (
  λ u. (ltb→lt u (size n), lt→ltb u (size n)),
  λ states p. (
    λ t.
        let (station, hops, valid) = three (ltb p.station (size n)) (ltb p.hops (size n)) (valid_states n states) t in
        let (long, bits) = both (eqb (length states) n.links) (every (λ b. leb b 1) states) valid in
        (ltb→lt _ _ station, ltb→lt _ _ hops, (eqb→eq _ _ long, λ b m. leb→le b 1 (every_all _ states bits b m))),
    λ (station, hops, (long, bits)).
        and_three (ltb p.station (size n)) (ltb p.hops (size n)) (valid_states n states) (lt→ltb _ _ station) (lt→ltb _ _ hops)
        (and (eqb (length states) n.links) (every (λ b. leb b 1) states) (eq_test long) (all_every _ states (λ b m. le→leb b 1 (bits b m)))),
  ),
)

module _ (n : Network) (wf : WellFormed n) (d : ℕ) (in_network : d < size n) (rows : ℕ → List Arc) (ranks : ℕ → ℕ)
    (fall : FallingRows n d rows ranks) where
  abbrev f : Forwarding
  f = routers_by d rows

  lawful : Lawful f ranks (λ states. T (valid_states n states))
  lawful =
      record {
        home_row = λ u h. let e : u ≡ d = eqb→eq u d h in rw e fall.home_row;
        falls = fall.falls;
        chosen = λ states u a e. live_mem states (rows u) a e;
        choosable = λ u a m. (
          only_up n a.link,
          only_valid n a.link,
          alone_live (only_up n a.link) (rows u) a m (fall.links_differ u) (only-up n a.link (wf.sound u a (fall.arcs u a m)).numbered)
              (λ b k apart. others_down n a.link b.link (wf.sound u b (fall.arcs u b k)).numbered apart),
        );
        some_valid = (only_up n 0, only_valid n 0);
      }

  walk-end : (xs : List (List ℕ)) (u : ℕ) → ranks u ≤ length xs → RowWalkEnd d rows xs u
  walk-end xs u h = step (walks_finish f ranks _ lawful xs u h)
    where
      step : Ended f ranks xs u → RowWalkEnd d rows xs u
      step (at_home p e home) = delivers p e (eqb→eq _ _ home)
      step (no_entry p e off left none_there zero) = absurd (off (eq_test (fall.only_home p.station zero)))
      step (nothing_live p e off states rest row-of-states c) =
          drops p e (λ same. off (eq_test same)) states rest row-of-states (none_live states _ c)

  calls : CallsBounded f (call_tests_by n d rows) (greatest_hop_by n d rows)
  calls =
      calls_exact f ranks _ lawful (call_tests_by n d rows) (size n)
      record {
        ranked = λ u ok. fall.ranks_most u;
        stays = λ u ok a m. lt→ltb a.to (size n) (wf.sound u a (fall.arcs u a m)).place;
        admitted = λ states v p ok h.
            and_three (ltb p.station (size n)) (ltb p.hops (size n)) (valid_states n states) ok (lt→ltb p.hops (size n) h) v;
      }

pub rows_lawful : RowsLawful
rows_lawful = lawful

pub rows_exact : RowsExact
rows_exact n wf d in_network rows ranks fall u =
    walks_exact (routers_by d rows) ranks _ (lawful n wf d in_network rows ranks fall) (size n) u (fall.ranks_most u)

pub rows_end : RowsEnd
rows_end = walk-end

pub row_hops_by_rule : RowHopsByRule
row_hops_by_rule d rows states p =
    let c = hops_chosen (routers_by d rows) states p in
    record {
      delivers = (λ e. eqb→eq _ _ (c.delivers.0 e), λ e. c.delivers.1 (eq_test e));
      drops = (
        λ e. let (off, k) = c.drops.0 e in (λ same. off (eq_test same), none_live states _ k),
        λ (off, down). c.drops.1 (λ h. off (eqb→eq _ _ h), down_none states _ down),
      );
      moves = λ a off f. (c.moves _).1 (λ h. off (eqb→eq _ _ h), (a, first-live states _ a f, refl));
      else_moves = λ off.
          ⊎_elim (λ down. inl (c.drops.1 (λ h. off (eqb→eq _ _ h), down_none states _ down))) (λ live. inr live)
          (down_or_live states (rows p.station));
    }

pub rows_calls : RowsCalls
rows_calls = calls

pub rows_never_loop : RowsNeverLoop
rows_never_loop n wf d in_network rows ranks fall xs u =
    pairwise_map (λ v w m k (h : ranks w < ranks v) e. omega (arith, ap ranks e))
    (never_loops (routers_by d rows) ranks _ (lawful n wf d in_network rows ranks fall) xs u)

-- The rows of an accepted order are such rows.
pub entry_arc : OfTables (λ n d limit order. (u : ℕ) (a : Arc) → Memᴰ a (row n (distances n d) limit order u) → Memᴰ a (arcs_of n u))
entry_arc n wf d in_network limit order t = (orders_fall n wf d in_network limit order t).arcs

pub routers_lawful : RoutersLawful
routers_lawful n wf d in_network limit order t = rows_lawful n wf d in_network _ _ (orders_fall n wf d in_network limit order t)

pub routers_exact : RoutersExact
routers_exact n wf d in_network limit order t = rows_exact n wf d in_network _ _ (orders_fall n wf d in_network limit order t)

pub walks_end : WalksEnd
walks_end n wf d in_network limit order t = rows_end n wf d in_network _ _ (orders_fall n wf d in_network limit order t)

pub hops_by_rule : HopsByRule
hops_by_rule n wf d in_network limit order t = row_hops_by_rule d (row n (distances n d) limit order)

pub routers_calls : RoutersCalls
routers_calls n wf d in_network limit order t = rows_calls n wf d in_network _ _ (orders_fall n wf d in_network limit order t)

pub routers_never_loop : RoutersNeverLoop
routers_never_loop n wf d in_network limit order t = rows_never_loop n wf d in_network _ _ (orders_fall n wf d in_network limit order t)

pub figures_by_place : FiguresByPlace
unfolding greatest_hops_lem
figures_by_place n d limit order = (length_map_below _ (size n), λ u h. get_d_below _ (size n) u 0 h)
