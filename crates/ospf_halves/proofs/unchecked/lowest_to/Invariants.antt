-- The lower of what was found and of what is left to find stays the lowest of all.
-- Assumes nothing.
use Rattle.std.proofs.Common.{◌≡◌, min}
use Rattle.ospf_lsas.specs.Opened.{links_left}
use Rattle.ospf_halves.specs.Neighbours.{point_to_point, lowest_to_lem}
use Rattle.ospf_halves.proofs.unchecked.lowest_to.Given as goal

abbrev pub invariant-loop-l : goal.invariant-loop-l
invariant-loop-l l =
    (goal.iterator-loop-l).can_next l.l-iterator
    × (goal.iterator-loop-l).is_finite l.l-iterator
    × (min l.lowest (lowest_to_lem l.link.id (point_to_point (links_left l.l-iterator))) ≡ min l.link.metric (lowest_to_lem l.link.id (point_to_point (links_left l.links))))
