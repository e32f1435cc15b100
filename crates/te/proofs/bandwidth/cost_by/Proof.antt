-- The cost lies from `low` to `high`, and the product at the middle says in which half.
-- Assumes nothing.
use Prim.Native.Nat.{ℕ, ◌-◌, ◌/◌, ◌≤◌, ◌<◌}
use mathlib.Core.Bool.{true, false, not, true≢false}
use mathlib.Core.Logic.{◌↔◌}
use mathlib.Core.Path.{◌≡◌, refl, sym, ◌∙◌, subst}
use native.Mathlib.Nat.{lt_of_not-le}
use native.Mathlib.Omega.{arith}
use lib.Dec.{T}
use lib.IntN.{pos}
use lib.Ieee.{Float, nan, inf, fin, binary32, binary64, mul, le, of_int, of_bits, fits, is_nan}
use lib.Ieee.Fits.{and_i, fits_widens}
use Rattle.te.specs.SubTlvs.{usable}
use Rattle.te.specs.Cost.{bandwidth_cost}
use Rattle.te.proofs.Patterns.{number_if_usable}
use Rattle.te.proofs.Products.{products_exact}
use Rattle.te.proofs.Greatest.{tested}
use Rattle.te.proofs.bandwidth.cost_by.Statement.{statement}
use Rattle.te.proofs.bandwidth.cost_by.Tie as tie

-- 12,500,000, as MIR has it
limit : of_int binary64 (pos 12500000) ≡ of_bits binary64 0x4167_d784_0000_0000
unfolding of_int of_bits
limit = refl

-- what the code tests says whether the cost is n at least
abbrev Decides : Float → ℕ → Type 0
Decides x n = (le (mul binary64 (of_int binary64 (pos n)) x) (of_bits binary64 0x4167_d784_0000_0000) ≡ true) ↔ (n ≤ bandwidth_cost x)

record Halved (x : Float) : Type 0 where
  least : 1 ≤ bandwidth_cost x
  most : bandwidth_cost x ≤ 65535
  decides : (n : ℕ) → 1 < n → n < 65536 → Decides x n

halved : (x : Float) → T (fits binary32 x) → T (usable x) → Halved x
unfolding usable
halved nan f u = absurd u
halved (inf s) f u = absurd u
halved (fin true m e) f u = absurd u
halved (fin false m e) f u =
    let t = tested m e u in
    record {
      least = t.least;
      most = t.most;
      decides = λ n l h.
          let p = (products_exact n m e h f u).decides in
          let d = t.decides n l (omega arith) in
          rw (← limit) (λ q. d.0 (p.0 q), λ q. p.1 (d.1 q));
    }

abbrev invariant-loop : tie.invariant-loop-low
invariant-loop bandwidth wide low₀ high₀ low high = (1 ≤ low) × (low ≤ bandwidth_cost bandwidth) × (bandwidth_cost bandwidth ≤ high) × (high ≤ 65535)

abbrev decreases-loop : tie.decreases-loop-low
decreases-loop bandwidth wide low₀ high₀ low high = high - low

-- what owning an `f32` tells: the format holds it
held : (c : tie.Start invariant-loop decreases-loop) → T (fits binary32 c.args.bandwidth)
held c = subst T (sym c.well_formed.0.1) tt

known : (c : tie.Start invariant-loop decreases-loop) → Halved c.args.bandwidth
known c = halved c.args.bandwidth (held c) c.requires

float-to-float-wide : tie.Need-float_to_float-wide invariant-loop decreases-loop
float-to-float-wide c =
    let x = c.args.bandwidth in
    and_i (fits binary64 x) (not (is_nan x)) (fits_widens x (held c.before)) (number_if_usable x c.requires)

loop-holds : tie.Need-loop-low-init invariant-loop decreases-loop
loop-holds c = omega (arith, known c.before)

int-to-float-if1 : tie.Need-int_to_float-middle invariant-loop decreases-loop
int-to-float-if1 c = tt

-- the test of the middle decides it
loop-again : tie.Need-loop-low-preserved-then-middle-wide invariant-loop decreases-loop
loop-again c =
    let l = c.loop-low in
    let decided = (halved c.args.bandwidth (subst T (sym c.well_formed.0.1) tt) c.requires).decides (l.high - (l.high - l.low) / 2) (omega arith) (omega arith) in
    omega (arith, decided.0 c.if-middle-wide.true)

loop-again-2 : tie.Need-loop-low-preserved invariant-loop decreases-loop
loop-again-2 c =
    let l = c.loop-low in
    let decided = (halved c.args.bandwidth (subst T (sym c.well_formed.0.1) tt) c.requires).decides (l.high - (l.high - l.low) / 2) (omega arith) (omega arith) in
    omega (arith, lt_of_not-le (λ h. true≢false (sym (decided.1 h) ∙ c.if-middle-wide.false)))

pub cost_by_spec : {M : Type 1} → statement M
cost_by_spec =
    tie.close
    (tie.spec
    invariant-loop
    decreases-loop
    float-to-float-wide
    loop-holds
    (λ c. omega arith)
    (λ c. omega arith)
    int-to-float-if1
    (λ c. omega arith)
    loop-again
    (λ c. omega arith)
    (λ c. omega arith)
    loop-again-2
    (λ c. omega arith))
