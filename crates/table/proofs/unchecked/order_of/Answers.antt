-- A place more in front takes the rank that it has.
use Rattle.std.proofs.Common.{◌≡◌, ℕ, ◌-◌, ◌<◌, length, take, arith, refl, sym, ◌∙◌}
use Rattle.std.proofs.Math.ListN.{length-set, get_or-replicate}
use Rattle.std.proofs.Math.Seq.{get_or-take, ext_get_or, length-take-le}
use borrow.Author.Tests.{eq-eqb, ne_eqb}
use Rattle.network.specs.Lists.{numbers_from, below}
use Rattle.network.proofs.Below.{get_d_below, length_map_below}
use Rattle.topology_types.specs.Outcome.{first_or}
use Rattle.order.proofs.Runs.{down_none, down_more, down_all}
use Rattle.distances.proofs.Stored.{stored}
use Rattle.table.specs.Listed.{rank_in_lem, by_rank}
use Rattle.table.proofs.Fields.{row_within}
use Rattle.table.proofs.Places.{first_with, with_more}
use Rattle.table.proofs.unchecked.order_of.Goals as goal

pub loop-u-init : goal.loop-u-init
unfolding first_or
loop-u-init c = (refl, λ r h. rw down_none (get_or-replicate {A = ℕ} 64 r 255 0 (omega (arith, c.requires.0))))

pub rank-requires : goal.rank-requires
rank-requires c = row_within _ c.args.n _ c.requires.0 (omega (arith, c.loop-u-test.true, c.loop-u.auto.u)) (omega (arith, c.requires.1))

pub loop-u-preserved-then-rank-n : goal.loop-u-preserved-then-rank-n
loop-u-preserved-then-rank-n c =
    let n = c.args.n in
    let table = c.args.table.bytes.now in
    let l = c.loop-u in
    let u = l.u - 1 in
    let passed = numbers_from l.u (n - l.u) in
    let h = c.loop-u-test.true in (
      simp length-set l.invariant.0,
      rw (c.from-rank.ensures, c.rank.ensures)
          (stored (λ r x. r < n → x ≡ first_with table r (numbers_from u (n - u))) l.order (rank_in_lem table u) u 0
          (omega (arith, l.invariant.0, c.requires.0, c.if-rank-n.true, c.from-rank.ensures, c.rank.ensures))
          (λ k. rw (down_more l.u n h l.auto.u, with_more table (rank_in_lem table u) u passed, eq-eqb (rank_in_lem table u) (rank_in_lem table u) refl))
          (λ r apart k. rw (down_more l.u n h l.auto.u, with_more table r u passed, ne_eqb (rank_in_lem table u) r (λ e. apart (sym e))) (l.invariant.1 r k))),
    )

pub loop-u-preserved : goal.loop-u-preserved
loop-u-preserved c =
    let n = c.args.n in
    let table = c.args.table.bytes.now in
    let l = c.loop-u in
    let u = l.u - 1 in
    let passed = numbers_from l.u (n - l.u) in (
      l.invariant.0,
      λ r k.
          rw (down_more l.u n c.loop-u-test.true l.auto.u, with_more table r u passed, ne_eqb (rank_in_lem table u) r (λ e. omega (arith, c.if-rank-n.false, c.from-rank.ensures, c.rank.ensures)))
          (l.invariant.1 r k),
    )

pub returns : goal.returns
unfolding by_rank
returns c =
    let l = c.loop-u in
    let n = c.args.n in
    let table = c.args.table.bytes.now in
    let long : length (take n l.order) ≡ n = length-take-le n l.order (omega (arith, l.invariant.0, c.requires.0)) in
    ext_get_or 0 _ _ (long ∙ sym (length_map_below _ n))
    (λ r h. let k : r < n = omega arith in
    get_or-take n l.order r 0 k
    ∙ (l.invariant.1 r k ∙ rw (down_all l.u n c.loop-u-test.false) (sym (get_d_below (λ r. first_with table r (below n)) n r 0 k))))
