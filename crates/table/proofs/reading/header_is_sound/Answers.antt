-- Each test is one of the definition's, in its order.
use Rattle.std.proofs.Common.{◌≡◌, ◌<◌, ℕ, leb, arith, Bool, true, false, eqb, get_or, ap, sym, ◌∙◌}
use native.Mathlib.Decide.{dec_lt, ℕ_discrete}
use borrow.Author.Tests.{eq-eqb, ne_eqb, lt-ltb, le-ltb, le-leb, lt-leb}
use Rattle.std.specs.Ordering.{is_le, nat_cmp}
use Rattle.topology_sound.specs.Sound.{within}
use Rattle.table_rows.specs.declared.Layout.{Layout}
use Rattle.table.specs.Listed.{kind_in}
use Rattle.table.specs.Calls.{sound_header}
use Rattle.table.proofs.reading.header_is_sound.Goals as goal
use Rattle.table.proofs.reading.header_is_sound.Goals.{then-table, else-table, then-index-n, else-index-n}

clash : {A : Type 0} (b : Bool) → b ≡ true → b ≡ false → A
clash true p q = cc
clash false p q = cc

le_is : (a b : ℕ) → is_le (nat_cmp a b) ≡ leb a b
le_is a b = cases (dec_lt a b) (ℕ_discrete a b)
  where
    cases : Dec (a < b) → Dec (a ≡ b) → is_le (nat_cmp a b) ≡ leb a b
    cases (yes h) e = rw (lt-ltb a b h, le-leb a b (omega arith))
    cases (no h) (yes same) = rw (le-ltb a b (omega arith), eq-eqb a b same, le-leb a b (omega arith))
    cases (no h) (no apart) = rw (le-ltb a b (omega arith), ne_eqb a b apart, lt-leb a b (omega arith))

pub returns-then-count-n : goal.returns-then-count-n
unfolding sound_header kind_in within
returns-then-count-n c =
    elim c.if-table.branch [
      | then-table w ↦
          elim c.if-index-n.branch [
            | then-index-n v ↦
                let kind : eqb (get_or c.args.table.bytes.now 0 0) 16 ≡ true = eq-eqb _ _ (w.if-table.true ∙ ap (λ (l : Layout). l.kind) c.args.table.laid) in
                rw (kind, ← w.destination.ensures, ← w.index.ensures, ← w.value-is, v.if-index-n.true, ← v.count.ensures, ← v.value-is, c.if-count-n.true, ← c.limit.ensures)
                (c.contains.ensures.value ∙ rw (c.new.ensures.start, c.new.ensures.end, c.new.ensures.exhausted, le_is 1, le_is c.limit.result 16))
            | else-index-n v ↦ clash c.if-table.value (sym v.value-is ∙ c.if-count-n.true) v.if-index-n.false
          ]
      | else-table w ↦
          elim c.if-index-n.branch [
            | then-index-n v ↦ clash c.if-table.value v.if-index-n.true (w.value-is ∙ ne_eqb _ _ w.if-table.false)
            | else-index-n v ↦ clash c.if-table.value (sym v.value-is ∙ c.if-count-n.true) v.if-index-n.false
          ]
    ]

pub returns-else-count-n : goal.returns-else-count-n
unfolding sound_header kind_in within
returns-else-count-n c =
    elim c.if-table.branch [
      | then-table w ↦
          let kind : eqb (get_or c.args.table.bytes.now 0 0) 16 ≡ true = eq-eqb _ _ (w.if-table.true ∙ ap (λ (l : Layout). l.kind) c.args.table.laid) in
          elim c.if-index-n.branch [
            | then-index-n v ↦
                rw (c.if-count-n.false, kind, ← w.destination.ensures, ← w.index.ensures, ← w.value-is, v.if-index-n.true, ← v.count.ensures, ← v.value-is, c.if-count-n.false)
            | else-index-n v ↦
                rw (c.if-count-n.false, kind, ← w.destination.ensures, ← w.index.ensures, ← w.value-is, v.if-index-n.false)
          ]
      | else-table w ↦
          let kind : eqb (get_or c.args.table.bytes.now 0 0) 16 ≡ false = ne_eqb _ _ (λ e. w.if-table.false (e ∙ sym (ap (λ (l : Layout). l.kind) c.args.table.laid))) in
          rw (c.if-count-n.false, kind)
    ]
