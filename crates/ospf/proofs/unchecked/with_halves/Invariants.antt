-- Before the halves of each LSA, and before each of them, what is listed and what is still to be taken give what all gives.
-- Assumes nothing.
use Rattle.std.proofs.Common.{drop}
use Rattle.std.specs.Iterator.Adapters.{enumerate_source, enumerate_count}
use Rattle.ospf_lsas.specs.Opened.{lsa_seen, lsas_left}
use Rattle.ospf.proofs.Going.{Halving, Within}
use Rattle.ospf.proofs.unchecked.with_halves.Given as goal

abbrev pub invariant-loop-half : goal.invariant-loop-half
invariant-loop-half l = Within (lsas_left l.lsas) l.listing (lsa_seen l.lsa) l.place (drop l.half-index l.half-items) (lsas_left (enumerate_source l.place-iterator))

abbrev pub invariant-loop-place : goal.invariant-loop-place
invariant-loop-place l =
    (goal.iterator-loop-place).can_next l.place-iterator
    × (goal.iterator-loop-place).is_finite l.place-iterator
    × Halving (lsas_left l.lsas) l.listing (enumerate_count l.place-iterator) (lsas_left (enumerate_source l.place-iterator))
