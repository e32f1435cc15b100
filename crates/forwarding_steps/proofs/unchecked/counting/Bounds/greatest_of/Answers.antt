-- Each turn takes the first entry that is left.
use Rattle.std.proofs.Common.{◌≡◌, ℕ, suc, ◌<◌, max, List, length, get_or, drop, ap, arith, drop-cons, ◌+◌, add-one, nat_cmp}
use Rattle.std.specs.Ordering.{ord_max}
use Rattle.std.proofs.lemmas.Bool.Decides.{nat_tests}
use lib.Seq.{drop-length}
use Rattle.network.specs.Lists.{greatest_by}
use Rattle.order.proofs.Ranges.{get_d_mem}
use Rattle.forwarding_steps.specs.Inner.{bound_of}
use Rattle.forwarding_steps.proofs.unchecked.counting.Bounds.greatest_of.Goals as goal

-- the greatest of the elements from i on is that of the element at i and of those behind it
greatest_from : (f : ℕ → ℕ) (row : List ℕ) (i : ℕ) → i < length row → greatest_by f (drop i row) ≡ max (f (get_or row i 0)) (greatest_by f (drop (suc i) row))
unfolding greatest_by
greatest_from f row i h = ap (greatest_by f) (drop-cons row i 0 h)

-- what is taken with the entry at i, and with those behind it
taken : (f : ℕ → ℕ) (row : List ℕ) (i best next : ℕ) → i < length row → next ≡ ord_max nat_cmp best (f (get_or row i 0)) →
    max best (greatest_by f (drop i row)) ≡ greatest_by f row → max next (greatest_by f (drop (i + 1) row)) ≡ greatest_by f row
taken f row i best next h e all =
    let most : ord_max nat_cmp best (f (get_or row i 0)) ≡ max best (f (get_or row i 0)) = grind (arith, nat_tests) in
    rw add-one (omega (arith, e, most, all, greatest_from f row i h))

pub bounds-self-index : goal.bounds-self-index
bounds-self-index c = rw c.index.ensures (c.requires.places _ (get_d_mem c.args.row.now c.loop-v.v-index 0 c.loop-v-test.true))

pub overflow_add-self : goal.overflow_add-self
unfolding bound_of
overflow_add-self c = rw c.index.ensures (omega (arith, c.requires.few _ (get_d_mem c.args.row.now c.loop-v.v-index 0 c.loop-v-test.true)))

pub loop-v-preserved : goal.loop-v-preserved
unfolding bound_of
loop-v-preserved c =
    taken (λ v. suc (bound_of c.args.self.now.by v)) c.args.row.now c.loop-v.v-index c.loop-v.best _ c.loop-v-test.true
    (simp (c.index.ensures, add-one) at c.max-best.ensures) c.loop-v.invariant

pub returns : goal.returns
unfolding greatest_by
returns c =
    let end : c.loop-v.v-index ≡ length c.args.row.now = omega arith in
    omega (arith, rw (end, drop-length) at c.loop-v.invariant)
