-- An octet is added to both.
-- Assumes nothing.
use Rattle.ospf_lsas.proofs.Sums.{of_none, octet_added}
use Rattle.ospf_lsas.proofs.checksum.sums.Goals as goal

pub loop-octet-init : goal.loop-octet-init
loop-octet-init c = of_none c.args.octets.now

pub loop-octet-preserved : goal.loop-octet-preserved
loop-octet-preserved c = rw c.from.ensures (octet_added c.args.octets.now c.loop-octet.invariant c.loop-octet-test.true)
