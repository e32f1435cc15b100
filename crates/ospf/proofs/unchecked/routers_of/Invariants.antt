-- Before each LSA the routers of those before it are listed.
-- Assumes nothing.
use Rattle.ospf_lsas.specs.Opened.{lsas_left}
use Rattle.ospf.proofs.Going.{Routed}
use Rattle.ospf.proofs.unchecked.routers_of.Given as goal

abbrev pub invariant-loop-lsa : goal.invariant-loop-lsa
invariant-loop-lsa l =
    (goal.iterator-loop-lsa).can_next l.lsa-iterator
    × (goal.iterator-loop-lsa).is_finite l.lsa-iterator
    × Routed (lsas_left l.lsas) l.listing (lsas_left l.lsa-iterator)
