-- The bytes left are as many links as are left if and only if all are as many as were asked for.
-- Assumes nothing.
use Rattle.std.proofs.Common.{◌≡◌, ◌-◌}
use Rattle.ospf_lsas.specs.Lsa.{links_in, some?}
use Rattle.ospf_lsas.proofs.formed.are_links.Given as goal

abbrev pub invariant-loop : goal.invariant-loop
invariant-loop l = some? (links_in (l.number - l.counter) l.rest) ≡ some? (links_in l.number l.s)
