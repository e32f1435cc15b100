-- `forwarding_steps::unchecked::schedule::is_whole` meets its contract. The loop's invariant: `at` is the length of `rows` rows, at most the bytes. Where there are
-- links, no other number of rows is that long.
-- Assumes nothing.
use Prim.Native.Nat.{ℕ, suc, pred, ◌-◌, ◌*◌, ◌≤◌, ◌<◌}
use mathlib.Core.Bool.{false}
use mathlib.Core.Path.{◌≡◌, sym, ◌∙◌}
use native.Mathlib.Decide.{ℕ_discrete, dec_le}
use native.Mathlib.Nat.{mul-zero, zero-mul, suc-mul, le_of_mul-le-mul_right, lt_of_mul-lt-mul_right}
use native.Mathlib.Numerals.{add-one}
use native.Mathlib.Omega.{arith}
use borrow.Author.Rules.{rules}
use borrow.Author.Tests.{le-leb, lt-leb, eq-eqb, ne_eqb}
use lib.Dec.{eqb, leb}
use Rattle.network.proofs.Tests.{as_true, as_false}
use Rattle.forwarding_rules.specs.Schedule.{sound_length}
use Rattle.forwarding_rules.proofs.Schedules.{counted, counts}
use Rattle.forwarding_steps.proofs.unchecked.schedule.is_whole.Statement.{statement}
use Rattle.forwarding_steps.proofs.unchecked.schedule.is_whole.Tie as tie

abbrev invariant-loop : tie.invariant-loop-at
invariant-loop n links bytes at₀ rows₀ at rows = (at ≡ rows * links) × (at ≤ bytes) × (rows ≤ at)

abbrev decreases-loop : tie.decreases-loop-at
decreases-loop n links bytes at₀ rows₀ at rows = bytes - at

module _ (n links bytes : ℕ) where
  -- no number of rows that is enough is so long
  not_whole : ((k : ℕ) → k * links ≡ bytes → pred n ≤ k → ⊥) → sound_length n links bytes ≡ false
  not_whole none = as_false _ (λ s. let (e, h) = counted n links bytes s in none _ e h)

  -- with no links any number of rows is no bytes
  empty : links ≡ 0 → eqb bytes 0 ≡ sound_length n links bytes
  empty none = step (ℕ_discrete bytes 0)
    where
      no_bytes : (k : ℕ) → k * links ≡ 0
      no_bytes k = rw none (mul-zero k)

      step : Dec (bytes ≡ 0) → eqb bytes 0 ≡ sound_length n links bytes
      step (yes e) = eq-eqb bytes 0 e ∙ sym (as_true _ (counts n links bytes (pred n) (no_bytes (pred n) ∙ sym e) (omega arith)))
      step (no some) = ne_eqb bytes 0 some ∙ sym (not_whole (λ k e h. some (sym e ∙ no_bytes k)))

  -- so many rows are so long, and no greater number is: whether they are enough tests the length
  enough : 0 < links → (rows : ℕ) → rows * links ≡ bytes → leb (n - 1) rows ≡ sound_length n links bytes
  enough some rows e = step (dec_le (n - 1) rows)
    where
      step : Dec (n - 1 ≤ rows) → leb (n - 1) rows ≡ sound_length n links bytes
      step (yes h) = le-leb (n - 1) rows h ∙ sym (as_true _ (counts n links bytes rows e (omega arith)))
      step (no few) =
          lt-leb (n - 1) rows (omega arith)
          ∙ sym (not_whole (λ k same h.
          let most : k ≤ rows = le_of_mul-le-mul_right {m = k} {n = rows} {k = links} (omega arith) some in
          few (omega arith)))

returns : tie.Need-returns-then-links-eq0 invariant-loop decreases-loop
returns c = let args = c.args in empty args.n args.links args.bytes c.if-links-eq0.true

loop-holds : tie.Need-loop-at-init invariant-loop decreases-loop
loop-holds c = (sym (zero-mul c.args.links), omega arith, omega arith)

returns-2 : tie.Need-returns-then-bytes-at invariant-loop decreases-loop
returns-2 c =
    let args = c.args in
    let rows = c.loop-at.rows in
    sym (not_whole args.n args.links args.bytes
    (λ k e h.
    let more : rows < k = lt_of_mul-lt-mul_right args.links (omega arith) in
    let less : k < suc rows = lt_of_mul-lt-mul_right args.links (omega (arith, suc-mul rows args.links)) in
    omega arith))

loop-again : tie.Need-loop-at-preserved invariant-loop decreases-loop
loop-again c =
    let links = c.args.links in
    (rw add-one (omega (arith, suc-mul c.loop-at.rows links)), omega arith, omega arith)

returns-3 : tie.Need-returns invariant-loop decreases-loop
returns-3 c =
    let args = c.args in
    enough args.n args.links args.bytes (omega arith) c.loop-at.rows (omega arith)

pub is_whole_spec : {M : Type 1} → statement M
is_whole_spec =
    tie.close
    (tie.spec
    invariant-loop
    decreases-loop
    returns
    loop-holds
    (λ c. search rules)
    returns-2
    (λ c. search rules)
    (λ c. search rules)
    (λ c. search rules)
    loop-again
    (λ c. search rules)
    returns-3)
