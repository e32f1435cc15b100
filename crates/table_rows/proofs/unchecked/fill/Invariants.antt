-- The table is put up to the row of u.
use Rattle.std.proofs.Common.{◌≡◌}
use Rattle.table_rows.proofs.Putting.{filled}
use Rattle.table_rows.proofs.unchecked.fill.Given as goal

abbrev pub invariant-loop-u : goal.invariant-loop-u
invariant-loop-u l = l.out ≡ filled l.t l.fn.destination.0 l.fn.limit l.fn.order l.fn.out l.u
