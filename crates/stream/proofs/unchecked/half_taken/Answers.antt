-- The link is stored where the opposite costs something, and the tables are as `mark` leaves them.
-- Assumes nothing.
use Rattle.std.proofs.Common.{ℕ, ◌≡◌, ◌≢◌, ◌<◌, List, ap, ◌∙◌, arith}
use borrow.Author.Tests.{eq-eqb, ne_eqb}
use Rattle.topology_types.specs.declared.Half.{Half}
use Rattle.stream_rules.specs.Halves.{opposite}
use Rattle.stream.specs.declared.tables.Tables.{Tables}
use Rattle.stream.specs.Inner.{cost_in, opposite_cost, paired}
use Rattle.stream.proofs.Steps.{back_placed}
use Rattle.stream.proofs.unchecked.half_taken.Goals as goal
use Rattle.stream.proofs.unchecked.half_taken.Goals.{then-opposite-ne0, else-opposite-ne0}

pub cost_like-opposite-requires : goal.cost_like-opposite-requires
cost_like-opposite-requires c = rw c.opposite.ensures (back_placed c.args.h c.requires.0.placed)

-- what the opposite costs, as the code has it
cell : (costs : List ℕ) (h k : Half) {cost : ℕ} → cost ≡ cost_in costs k → k ≡ opposite h → cost ≡ opposite_cost costs h
unfolding opposite
cell costs h k e is = e ∙ ap (cost_in costs) is

-- there is room for the link
room : (costs : List ℕ) (h k : Half) {cost links : ℕ} → (opposite_cost costs h ≢ 0 → links < 256) → cost ≡ cost_in costs k → k ≡ opposite h → cost ≢ 0 →
    links < 256
room costs h k free e is some-cost = free (λ z. some-cost (cell costs h k e is ∙ z))

pub bounds-t-m : goal.bounds-t-m
bounds-t-m c = room c.args.tables.now.costs c.args.h _ c.requires.1 c.cost_like-opposite.ensures c.opposite.ensures c.if-opposite-ne0.true

pub offset_bounds-t-m : goal.offset_bounds-t-m
offset_bounds-t-m c =
    omega (arith, room c.args.tables.now.costs c.args.h _ c.requires.1 c.cost_like-opposite.ensures c.opposite.ensures c.if-opposite-ne0.true)

pub overflow_add-t : goal.overflow_add-t
overflow_add-t c =
    omega (arith, room c.args.tables.now.costs c.args.h _ c.requires.1 c.cost_like-opposite.ensures c.opposite.ensures c.if-opposite-ne0.true)

pub returns : goal.returns
unfolding paired
returns c =
    let is : c.if-opposite-ne0.t ≡ paired c.args.t.now c.args.h c.cost_like-opposite.result =
    elim c.if-opposite-ne0.branch [
      | then-opposite-ne0 x ↦ rw (ne_eqb _ 0 x.if-opposite-ne0.true) x.t-is
      | else-opposite-ne0 x ↦ rw (eq-eqb _ 0 x.if-opposite-ne0.false) x.t-is
    ]
    in (
      is ∙ ap (paired c.args.t.now c.args.h) (cell c.args.tables.now.costs c.args.h _ c.cost_like-opposite.ensures c.opposite.ensures),
      ap (λ (k : Tables). k.costs) c.mark.ensures,
      ap (λ (k : Tables). k.leaving) c.mark.ensures,
    )
