-- The tests are those of a whole link.
-- Assumes nothing.
use Rattle.std.proofs.Common.{arith, rules}
use Rattle.ospf_lsas.proofs.Links.{is_link, no_link}
use Rattle.ospf_lsas.proofs.formed.link_length.Goals as goal
use Rattle.ospf_lsas.proofs.formed.link_length.Goals.{else-length-s-via-then-length-s+else-contains, else-length-s-via-else-length-s}

pub returns-then-s-lt12 : goal.returns-then-s-lt12
returns-then-s-lt12 c = no_link c.args.s.now (λ w. omega (arith, w.fits))

pub returns-then-contains : goal.returns-then-contains
returns-then-contains c =
    rw c.from.ensures (is_link c.args.s.now (record { fits = omega (arith, c.from.ensures, c.if-length-s.true); least = search rules; most = search rules }))

pub returns-else-length-s : goal.returns-else-length-s
returns-else-length-s c = no_link c.args.s.now (elim c.else-length-s.branch [
  | else-length-s-via-then-length-s+else-contains w ↦ λ h. let low = h.least in let high = h.most in search rules
  | else-length-s-via-else-length-s w ↦ λ h. omega (arith, h.fits, c.from.ensures, w.if-length-s.false)
])
