-- The loop of `arcs::unchecked::of`: the slots hold the arcs of the links passed, and with costs exchanged those of the links exchanged so.
-- Assumes nothing.
use Rattle.std.proofs.Common.{map}
use Rattle.arcs.specs.Back.{link_back}
use Rattle.arcs.specs.Inner.{leaving, returning}
use Rattle.arcs.proofs.Filled.{Filled, among}
use Rattle.arcs.proofs.Links.{first_links}
use Rattle.arcs.proofs.unchecked.of.Given as goal

abbrev pub invariant-loop-i : goal.invariant-loop-i
invariant-loop-i l =
    record {
      out : Filled leaving l.t.routers (among (first_links l.t l.i)) l.a;
      back : Filled returning l.t.routers (among (map link_back (first_links l.t l.i))) l.a;
    }
