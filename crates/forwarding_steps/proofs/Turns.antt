-- A walk by a table that was checked, hop by hop over the rows of a schedule: while the packet is off d its rank is not 0, so that the schedule has a
-- row for the next hop, since ranks fall and there are N - 1 rows.
-- Assumes nothing.
use Prim.Native.Nat.{ℕ, suc, ◌+◌, ◌-◌, ◌*◌, ◌≤◌, ◌<◌}
use mathlib.Core.List.{List, [], ◌∷◌, map}
use mathlib.Core.Path.{◌≡◌, refl, sym, ap, ◌∙◌, subst}
use native.Mathlib.Nat.{zero-mul, suc-mul}
use native.Mathlib.Numerals.{add-one}
use native.Mathlib.Omega.{arith}
use borrow.Author.Tests.{eq-eqb}
use lib.Dec.{T}
use lib.ListN.{length, take, drop}
use lib.Seq.{drop-cons}
use Rattle.network.specs.Lists.{below}
use Rattle.network.specs.Forwarding.{Packet, dropped, delivered_at, dropped_at, start, hop, walk, walk_on, walk_end}
use Rattle.network.proofs.Below.{get_d_below, length_map_below}
use Rattle.topology_types.specs.declared.Topology.{Topology}
use Rattle.arcs.specs.declared.Arcs.{Arcs}
use Rattle.table.specs.Listed.{destination_in_lem, falling_rank, listed}
use Rattle.forwarding_rules.specs.Schedule.{row_in, rows_in}
use Rattle.forwarding_rules.specs.Calls.{by}
use Rattle.forwarding_rules.proofs.Schedules.{Rows, sound-length, rows_of, row_fits, row_long}
use Rattle.forwarding_steps.specs.Inner.{Checked, Scheduled}
use Rattle.forwarding_steps.proofs.Steps.{Goes, accepted, arrives}

-- a walk from s is at u after so many hops, and the rest of it is the walk from there
pub record Reached (t : Topology) (table schedule : List ℕ) (s u hops at : ℕ) : Type 0 where
  pub inside : u < t.routers
  pub offset : at ≡ hops * t.links
  pub ranked : hops + falling_rank t.routers table u < t.routers
  pub rest : walk (by t table) (rows_in t.routers t.links schedule) (start s)
      ≡ walk (by t table) (drop hops (rows_in t.routers t.links schedule)) (record { station = u; hops = hops })

-- at d a walk is delivered
module _ {t : Topology} {a : Arcs} {table : List ℕ} (checked : Checked t a table) where
  at_home : (xs : List (List ℕ)) (p : Packet ℕ) → p.station ≡ destination_in_lem table → walk (by t table) xs p ≡ delivered_at p
  unfolding walk walk_on walk_end listed
  at_home [] p home = rw (eq-eqb p.station (destination_in_lem table) home)
  at_home (states ∷ xs) p home = rw (arrives checked states p home)

module _ {t : Topology} {a : Arcs} {table : List ℕ} (checked : Checked t a table) {schedule : List ℕ} (scheduled : Scheduled t schedule) where
  rows : Rows t schedule
  rows = rows_of t schedule ((sound-length t schedule).0 (subst T (sym scheduled.whole) tt))

  pub begins : (s : ℕ) → s < t.routers → Reached t table schedule s s 0 0
  unfolding start
  begins s h =
      record {
        inside = h;
        offset = sym (zero-mul t.links);
        ranked = omega (arith, (accepted checked).rank_below s h);
        rest = refl;
      }

  module _ {s u hops at : ℕ} (reached : Reached t table schedule s u hops at) where
    -- at d the walk is delivered
    pub ends : u ≡ destination_in_lem table →
        walk (by t table) (rows_in t.routers t.links schedule) (start s) ≡ delivered_at (record { station = u; hops = hops })
    ends home = reached.rest ∙ at_home checked (drop hops (rows_in t.routers t.links schedule)) (record { station = u; hops = hops }) home

    module _ (off : u ≡ destination_in_lem table → ⊥) where
      -- off d a row is left
      left : hops < rows.count
      left =
          let ranked : falling_rank t.routers table u ≡ 0 → ⊥ = λ z. off ((accepted checked).falling.only_home u z) in
          omega (arith, reached.ranked, rows.enough)

      pub fits : at + t.links ≤ length schedule
      fits = omega (arith, reached.offset, row_fits t.links schedule rows.count rows.whole hops left)

      -- which is the part of the schedule that rules the hop
      part_is : take (at + t.links - at) (drop at schedule) ≡ row_in t.links schedule hops
      unfolding row_in
      part_is =
          let many : at + t.links - at ≡ t.links = omega arith in
          rw (many, reached.offset)

      pub part_long : length (take (at + t.links - at) (drop at schedule)) ≡ t.links
      part_long = ap length part_is ∙ row_long t.links schedule rows.count rows.whole hops left

      next_row : drop hops (rows_in t.routers t.links schedule)
          ≡ take (at + t.links - at) (drop at schedule) ∷ drop (hops + 1) (rows_in t.routers t.links schedule)
      next_row =
          let all = map (row_in t.links schedule) (below rows.count) in
          rw (rows.are, part_is, add-one)
          (drop-cons all hops [] (omega (arith, left, length_map_below (row_in t.links schedule) rows.count))
          ∙ ap (λ (row : List ℕ). row ∷ drop (suc hops) all) (get_d_below (row_in t.links schedule) rows.count hops [] left))

      pub halts : hop (by t table) (take (at + t.links - at) (drop at schedule)) (record { station = u; hops = hops }) ≡ dropped →
          walk (by t table) (rows_in t.routers t.links schedule) (start s) ≡ dropped_at (record { station = u; hops = hops })
      unfolding walk walk_on
      halts e = reached.rest ∙ rw (next_row, e)

      pub goes_on : (v : ℕ) → Goes t table (take (at + t.links - at) (drop at schedule)) u hops v →
          Reached t table schedule s v (hops + 1) (at + t.links)
      unfolding walk walk_on
      goes_on v g =
          record {
            inside = g.inside;
            offset = rw (add-one, suc-mul, reached.offset);
            ranked = omega (arith, g.lower, reached.ranked);
            rest = reached.rest ∙ rw (next_row, g.hop_is);
          }
