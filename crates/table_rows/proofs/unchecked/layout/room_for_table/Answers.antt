-- The array is as long as the longest table.
-- Assumes nothing.
use Rattle.std.proofs.Common.{refl}
use Rattle.table_rows.specs.Layout.{row_start_lem}
use Rattle.table_rows.proofs.unchecked.layout.room_for_table.Goals as goal

pub returns : goal.returns
unfolding row_start_lem
returns c = refl
