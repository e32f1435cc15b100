-- The router stands in the bytes from 8 on.
-- Assumes nothing.
use Rattle.std.proofs.Common.{arith}
use Rattle.ospf_lsas.specs.Lsa.{advertising_router}
use Rattle.ospf_lsas.proofs.Malformed.{enough}
use Rattle.ospf_lsas.proofs.Lsa.advertising_router.Goals as goal

pub be32-requires : goal.be32-requires
be32-requires c = omega (arith, enough c.args.self.bytes.now c.args.self.formed)

pub returns : goal.returns
unfolding advertising_router
returns c = c.be32.ensures
