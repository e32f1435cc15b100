-- The tests are those of the definition.
-- Assumes nothing.
use mathlib.Core.Bool.{not, ◌&&◌}
use Rattle.ospf_lsas.specs.Lsa.{c0, c1}
use Rattle.std.proofs.Common.{◌≡◌, ◌%◌, drop, ℕ, eqb, ap₂, ◌≤◌, length, refl, sym, ◌∙◌, arith, eq-eqb}
use Rattle.std.proofs.lemmas.List.{take_rest}
use Rattle.ospf_lsas.proofs.Malformed.{enough}
use Rattle.ospf_lsas.proofs.Sums.{no_checksum, by_sums}
use Rattle.ospf_lsas.proofs.checksum.is_wrong.Goals as goal

pub be16-requires : goal.be16-requires
be16-requires c = omega (arith, enough c.args.lsa.now.bytes.now c.args.lsa.now.formed)

pub returns-then-be16-eq0 : goal.returns-then-be16-eq0
returns-then-be16-eq0 c =
    let s = c.args.lsa.now.bytes.now in
    let h : 18 ≤ length s = omega (arith, enough s c.args.lsa.now.formed) in
    eq-eqb c.be16.result 0 c.if-be16-eq0.true ∙ sym (no_checksum s h (omega (arith, c.be16.ensures, c.if-be16-eq0.true)))

pub returns-else-be16-eq0 : goal.returns-else-be16-eq0
returns-else-be16-eq0 c =
    let s = c.args.lsa.now.bytes.now in
    let h : 18 ≤ length s = omega (arith, enough s c.args.lsa.now.formed) in
    let zero : c.sums.result.0 ≡ c0 (drop 2 s) % 255 = c.sums.ensures.c0 ∙ rw take_rest refl in
    let one : c.sums.result.1 ≡ c1 (drop 2 s) % 255 = c.sums.ensures.c1 ∙ rw take_rest refl in
    rw (by_sums s h (λ e. c.if-be16-eq0.false (c.be16.ensures ∙ e)))
    (c.ne.ensures ∙ ap₂ (λ (a b : ℕ). not (eqb a 0 && eqb b 0)) zero one)
