-- `order::proposal::wrong_rank` meets its contract.
-- Assumes nothing.
use Rattle.std.proofs.Common.{Bool, T, ◌≡◌, true, false, get_or, take, refl, sym, ◌∙◌, ap, arith, below_more, add-one}
use Rattle.std.proofs.lemmas.Float.{T_from_true}
use Prim.Native.Nat.{suc}
use mathlib.Core.Logic.{inl, inr}
use lib.ListN.{length-set, get_or-replicate}
use lib.Seq.{take-suc}
use Rattle.network.specs.Lists.{member}
use Rattle.network.proofs.Lists.{member_mem, mem_member}
use Rattle.order.specs.Calls.{first_of}
use Rattle.order.proofs.Entries.{Wrong, none_wrong, wrong_first}
use Rattle.order.proofs.First.{first_is}
use Rattle.order.proofs.Marked.{marked_more}
use Rattle.order.proofs.proposal.wrong_rank.Goals as goal
use Rattle.order.proofs.proposal.wrong_rank.Goals.{then-n-u-via-then-n-u, then-n-u-via-else-n-u+then-held-u}

off : (b : Bool) → b ≡ false → T b → ⊥
off false e t = t
off true e t = absurd cc

pub loop-rank-init : goal.loop-rank-init
unfolding member
loop-rank-init c = record {
  long = refl;
  right = λ r h. absurd (omega arith);
  marks = λ v h. get_or-replicate {A = Bool} 64 v false false h;
}

pub returns-then-n-u : goal.returns-then-n-u
returns-then-n-u c =
    let at = c.loop-rank in
    let n = c.args.n in
    let order = c.args.order.now in
    let u = get_or order at.rank 0 in
    let wrong : Wrong n order at.rank =
    elim c.then-n-u.branch [
      | then-n-u-via-then-n-u w ↦ inl w.if-n-u.true
      | then-n-u-via-else-n-u+then-held-u w ↦ inr (member_mem u (take at.rank order) (T_from_true _ (sym (at.invariant.marks u (omega arith)) ∙ w.if-held-u.true)))
    ] in
    sym (first_is _ at.rank (wrong_first n order (suc at.rank) at.rank c.loop-rank-test.true wrong at.invariant.right))

pub loop-rank-preserved : goal.loop-rank-preserved
loop-rank-preserved c =
    let at = c.loop-rank in
    let order = c.args.order.now in
    let u = get_or order at.rank 0 in
    let apart = sym (at.invariant.marks u (omega arith)) ∙ c.if-held-u.false in
    record {
      long = simp length-set at.invariant.long;
      right = below_more _ at.rank at.invariant.right (c.if-n-u.false, λ m. off _ apart (mem_member u (take at.rank order) m));
      marks = rw (add-one, take-suc order at.rank 0 c.loop-rank-test.true) (marked_more at.held (take at.rank order) u 64 (omega arith) at.invariant.marks);
    }

pub returns : goal.returns
returns c =
    sym (ap first_of (none_wrong c.args.n c.args.order.now (λ r h. c.loop-rank.invariant.right r (omega arith))))
