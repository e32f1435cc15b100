-- The row of each place stands in both tables.
use Rattle.std.proofs.Common.{arith, sym, ◌∙◌}
use borrow.Author.Tests.{not-true, eqb-false}
use lib.Dec.{eqb→eq}
use Rattle.network.specs.Lists.{below}
use Rattle.network.proofs.Below.{mem_below, below_lt}
use Rattle.network.proofs.Lists.{every_all, all_every}
use Rattle.network.proofs.Tests.{as_true, as_false, eq_test}
use Rattle.table.proofs.Fields.{row_within}
use Rattle.table.proofs.reading.ranks_agree.Goals as goal

pub rank-requires : goal.rank-requires
rank-requires c = row_within _ c.args.n _ c.requires.0 c.loop-u-test.true c.requires.1

pub rank-requires-in-loop-u : goal.rank-requires-in-loop-u
rank-requires-in-loop-u c = row_within _ c.args.n _ c.requires.0 c.loop-u-test.true c.requires.2

pub returns-then-ne : goal.returns-then-ne
returns-then-ne c =
    let apart = eqb-false _ _ (not-true _ (sym c.if-ne.ensures)) in
    sym (as_false _ (λ t. apart (c.rank.ensures ∙ eqb→eq _ _ (every_all _ (below c.args.n) t c.loop-u.u (mem_below c.loop-u-test.true)) ∙ sym c.rank-in-loop-u.ensures)))

pub returns : goal.returns
returns c = sym (as_true _ (all_every _ (below c.args.n) (λ v m. eq_test (c.loop-u.invariant v (omega (arith, below_lt c.args.n m))))))
