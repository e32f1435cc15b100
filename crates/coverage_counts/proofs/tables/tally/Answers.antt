-- A row of two entries or more is one more of these, and each row adds its entries.
-- Assumes nothing.
use Rattle.std.proofs.Common.{ℕ, ◌+◌, ◌*◌, ◌≤◌, ◌<◌, ◌≡◌, List, length, refl, ap, arith, leb}
use borrow.Author.Tests.{le-leb, lt-leb}
use Rattle.network.specs.Lists.{numbers_from, below}
use Rattle.order_standings.proofs.Counts.{count_one, count_same, count_most}
use Rattle.listing_rules.proofs.Tables.{entries_fit}
use Rattle.coverage_rules.specs.Theorems.{total}
use Rattle.coverage_rules.specs.Inner.{listed_at, two_in, all_in, Countable}
use Rattle.coverage_rules.proofs.Counting.{total_more, total_most}
use Rattle.coverage_counts.proofs.tables.tally.Goals as goal
use Rattle.coverage_counts.proofs.tables.tally.Goals.{then-count-ge2, else-count-ge2}

-- what was counted of a table's first rows is little, and a row has at most 16 entries
module _ (table : List ℕ) (n u : ℕ) (t : Countable table n) where
  two_few : two_in table u ≤ u
  unfolding two_in
  two_few = count_most (λ v. leb 2 (listed_at table v)) u

  all_few : u ≤ n → all_in table u ≤ 16 * u
  unfolding all_in
  all_few h = total_most (listed_at table) 16 u (λ v k. (entries_fit (t.row v (omega arith))).few)

  all_more : all_in table (u + 1) ≡ all_in table u + listed_at table u
  unfolding all_in
  all_more = total_more (listed_at table) u

  one_more : 2 ≤ listed_at table u → two_in table (u + 1) ≡ two_in table u + 1
  unfolding two_in
  one_more h = count_one (λ v. leb 2 (listed_at table v)) u (le-leb 2 (listed_at table u) h)

  none_more : listed_at table u < 2 → two_in table (u + 1) ≡ two_in table u
  unfolding two_in
  none_more h = count_same (λ v. leb 2 (listed_at table v)) u (lt-leb 2 (listed_at table u) h)

pub loop-u-init : goal.loop-u-init
unfolding two_in all_in total below numbers_from
loop-u-init c = record { two = refl; all = refl }

pub overflow_add-entries : goal.overflow_add-entries
overflow_add-entries c =
    let table = c.args.table.bytes.now in
    let few = (entries_fit (c.requires.row c.loop-u.u c.loop-u-test.true)).few in
    omega (arith, ap length c.row-count.ensures, few, all_few table c.args.n c.loop-u.u c.requires (omega arith), c.requires.routers)

pub overflow_add-two : goal.overflow_add-two
overflow_add-two c = omega (arith, two_few c.args.table.bytes.now c.args.n c.loop-u.u c.requires, c.requires.routers)

pub loop-u-preserved : goal.loop-u-preserved
loop-u-preserved c =
    let table = c.args.table.bytes.now in
    let u = c.loop-u.u in
    let count : length c.row-count.result.now ≡ listed_at table u = ap length c.row-count.ensures in
    let all = all_more table c.args.n u c.requires in
    let one = one_more table c.args.n u c.requires in
    let same = none_more table c.args.n u c.requires in
    elim c.if-count-ge2.branch [
      | then-count-ge2 w ↦ record { two = omega (arith, one (omega arith)); all = omega arith }
      | else-count-ge2 w ↦ record { two = omega (arith, same (omega arith)); all = omega arith }
    ]
