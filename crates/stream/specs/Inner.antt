-- What the inner functions ask of their arguments and promise of their results.
-- Assumes nothing.
use Rattle.std.specs.Prelude.{ℕ, ◌+◌, ◌*◌, ◌<◌, cond, not, ◌&&◌, List, eqb, ltb, leb, get_or, set}
use Rattle.topology_types.specs.declared.Half.{Half}
use Rattle.topology_types.specs.declared.Topology.{Topology}
use Rattle.stream.specs.declared.tables.Tables.{Tables}
use Rattle.topology_types.specs.Limits.{most_routers, most_neighbours}

-- two places that the tables have
pub record Placed (h : Half) : Type 0 where
  pub from_inside : h.from.0 < most_routers
  pub to_inside : h.to.0 < most_routers

-- and room for a half more that leaves the first
pub record Roomy (leaving : List ℕ) (h : Half) : Type 0 where
  pub placed : Placed h
  pub room : get_or leaving h.from.0 0 < most_neighbours

-- where the table of costs has the half
abbrev pub cell : Half → ℕ
cell h = h.from.0 * most_routers + h.to.0

-- what it has there
abbrev pub cost_in : List ℕ → Half → ℕ
cost_in costs h = get_or costs (cell h) 0

-- 01, Refusals, 5 to 7: the number of the first test that a half fails of those that go by nothing but how many routers are listed, 0 if it fails none
abbrev pub ends_fault : ℕ → Half → ℕ
ends_fault n h = cond (not (ltb h.from.0 n && ltb h.to.0 n)) 5 (cond (eqb h.from.0 h.to.0) 6 (cond (eqb h.cost 0) 7 0))

-- 02, #105, 8 and 10, by the tables: the half is listed already, or as many halves leave the place as may leave a router
abbrev pub listed_fault : List ℕ → Half → ℕ
listed_fault costs h = cond (eqb (cost_in costs h) 0) 0 8

abbrev pub crowd_fault : List ℕ → ℕ → ℕ
crowd_fault leaving place = cond (leb most_neighbours (get_or leaving place 0)) 10 0

-- what the table has at the half opposite to h: its cost, 0 if it is not listed
abbrev pub opposite_cost : List ℕ → Half → ℕ
opposite_cost costs h = get_or costs (h.to.0 * most_routers + h.from.0) 0

-- what is held with the half h, by what its opposite costs: the same if that is not listed, else with the link that both make in the first unused slot
unfoldable pub paired : Topology → Half → ℕ → Topology
paired t h cost =
    cond (eqb cost 0) t
    (record {
      routers = t.routers;
      links = t.links + 1;
      limit = t.limit;
      id = t.id;
      link = set t.link t.links (record { first = h.to; second = h.from; cost = cost; back = h.cost });
    })

-- the tables with a half more
abbrev pub marked : Tables → Half → Tables
marked t h = record { costs = set t.costs (cell h) h.cost; leaving = set t.leaving h.from.0 (get_or t.leaving h.from.0 0 + 1) }
