-- A router that is refused refuses the whole; else the halves are taken.
-- Assumes nothing.
use Rattle.std.proofs.Common.{◌≡◌, Err, rules}
use Rattle.ospf_lsas.specs.Opened.{lsas_left}
use Rattle.ospf.proofs.Going.{routers_refused}
use Rattle.ospf.proofs.taken.Goals as goal

pub returns-in_err-listing : goal.returns-in_err-listing
returns-in_err-listing c =
    let e : c.from_residual.result ≡ Err c.in_err-listing.field-0.0 = search rules in
    let r = c.in_err-listing.field-0.0 in
    rw e (routers_refused (lsas_left c.args.lsas) r.fault r.at c.in_err-listing.ensures.reads)
