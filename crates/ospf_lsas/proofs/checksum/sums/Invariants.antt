-- The remainders kept are those of both sums over the octets passed.
-- Assumes nothing.
use Rattle.ospf_lsas.proofs.Sums.{Summed}
use Rattle.ospf_lsas.proofs.checksum.sums.Given as goal

abbrev pub invariant-loop-octet : goal.invariant-loop-octet
invariant-loop-octet l = Summed l.octets l.octet-index l.c0 l.c1
