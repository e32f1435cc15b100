-- The halves stored are those that the links gone through give.
-- Assumes nothing.
use Rattle.std.proofs.Common.{take}
use Rattle.ospf_lsas.specs.Opened.{links_left}
use Rattle.ospf_halves.proofs.Given.{Stored}
use Rattle.ospf_halves.proofs.unchecked.given.Given as goal

abbrev pub invariant-loop-link : goal.invariant-loop-link
invariant-loop-link l =
    (goal.iterator-loop-link).can_next l.link-iterator
    × (goal.iterator-loop-link).is_finite l.link-iterator
    × Stored l.ids l.place.0 (links_left l.links) (take l.halves.count l.halves.half) (links_left l.link-iterator)
