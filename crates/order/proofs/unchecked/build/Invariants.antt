-- The loop of `order::unchecked::build`: of every topology that is lent so, what is placed begins the order, and the standings are right for it.
-- Assumes nothing.
use Rattle.std.proofs.Common.{ℕ, List}
use Rattle.topology_types.specs.declared.Topology.{Topology}
use Rattle.order_standings.specs.Inner.{Inverse}
use Rattle.order.specs.Inner.{Lent}
use Rattle.order.proofs.Building.{Building}
use Rattle.order.proofs.unchecked.build.Given as goal

abbrev pub invariant-loop-rank : goal.invariant-loop-rank
invariant-loop-rank l =
    record {
      lower : List ℕ;
      inverse : Inverse lower l.n l.places;
      building : (t : Topology) (g : Lent t l.a l.ids l.fn.destination.0 l.mode l.ds) →
          Building t g.numbered l.fn.destination.0 l.mode l.ds lower l.initial.out l.out l.keys l.rank;
    }
