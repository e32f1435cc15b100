-- The count of the row is read, and so many bytes behind it are its places.
use Rattle.std.proofs.Common.{◌≡◌, ◌+◌, ◌-◌, ◌≤◌, length, take, drop, arith, ◌∙◌}
use Rattle.table_rows.specs.Layout.{narrow, row_start_lem}
use Rattle.table.specs.Listed.{entry_count, places_in}
use Rattle.table.proofs.Fields.{rank_one, start_is, count_read, places_part}
use Rattle.table.proofs.unchecked.reading.Table.row.Goals as goal

-- the row stands in the table, and its count is the one that is read
module _ (c : goal.After-result-1) where
  at : c.row_start.result ≡ row_start_lem narrow c.args.u
  at = start_is c.args.self.laid c.args.self.bytes.now c.args.u c.row_start.ensures

  one : c.from.result ≡ 1
  one = c.from.ensures ∙ rank_one c.args.self.laid

  count : c.from-2.result ≡ entry_count c.args.self.bytes.now c.args.u
  count = c.from-2.ensures ∙ (rw c.from.ensures (count_read c.args.self.laid c.args.self.bytes.now c.args.u c.row_start.ensures))

  fits : row_start_lem narrow c.args.u + 3 + entry_count c.args.self.bytes.now c.args.u ≤ length c.args.self.bytes.now
  fits = omega (arith, c.requires.1, c.requires.0.whole)

  part : take (c.row_start.result + 1 + c.from.result + 1 + c.from-2.result - (c.row_start.result + 1 + c.from.result + 1))
      (drop (c.row_start.result + 1 + c.from.result + 1) c.args.self.bytes.now) ≡ places_in c.args.self.bytes.now c.args.u
  part =
      let long : c.row_start.result + 1 + c.from.result + 1 + c.from-2.result - (c.row_start.result + 1 + c.from.result + 1)
      ≡ entry_count c.args.self.bytes.now c.args.u = omega (arith, count) in
      let first : c.row_start.result + 1 + c.from.result + 1 ≡ row_start_lem narrow c.args.u + 3 = omega (arith, at, one) in
      rw (long, first) (places_part c.args.self.bytes.now c.args.u fits)

pub slice_bounds-result-end : goal.slice_bounds-result-end
slice_bounds-result-end c = omega (arith, at c, one c, count c, fits c)

pub returns : goal.returns
returns c = part c.before
