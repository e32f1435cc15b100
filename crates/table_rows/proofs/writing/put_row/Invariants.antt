-- Behind the front stand the places that the keys passed name, and behind them 255.
use Rattle.std.proofs.Common.{◌≡◌, ◌-◌, ◌++◌, ◌∷◌, length, map, take, replicate}
use Rattle.table_rows.specs.Inner.{place_in_key}
use Rattle.table_rows.proofs.writing.put_row.Given as goal

abbrev pub invariant-loop-i : goal.invariant-loop-i
invariant-loop-i l =
    l.row ≡ l.fn.l.rows ∷ l.fn.rank.0 ∷ length l.keys ∷ (map place_in_key (take l.i l.keys) ++ replicate (16 - l.i) 255)
