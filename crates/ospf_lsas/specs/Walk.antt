-- What holds of LSAs that are handed on.
-- Assumes nothing.
use Rattle.std.specs.Prelude.{Bool, not, List}
use Rattle.network.specs.Lists.{every}
use Rattle.ospf_lsas.specs.Lsa.{Lsa, malformed}

-- none of them is malformed
abbrev pub all_formed : List Lsa → Bool
all_formed ls = every (λ l. not (malformed l.bytes)) ls
