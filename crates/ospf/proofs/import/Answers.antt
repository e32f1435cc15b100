-- 26 and 27 are tested of the whole file; then its routers and halves are taken in turn.
-- Assumes nothing.
use Rattle.std.proofs.Common.{◌≡◌, ℕ, List, Err, ap, ap₂, ◌∙◌, rules, arith}
use Rattle.ospf_lsas.specs.Lsa.{lsas, lsas_from}
use Rattle.ospf_lsas.specs.Opened.{lsas_left}
use Rattle.ospf_lsas.proofs.Ends.{wrong_at, wrong_nowhere}
use Rattle.ospf.specs.Inner.{taken_in_turn}
use Rattle.ospf.proofs.Steps.{by_26, by_27, by_turns}
use Rattle.ospf.proofs.import.Goals as goal

pub returns-in_err-lsas : goal.returns-in_err-lsas
returns-in_err-lsas c =
    let e : c.from_residual.result ≡ Err c.in_err-lsas.field-0.0 = search rules in
    let (fault, at, inside) = c.in_err-lsas.ensures in
    rw (e, fault, at) (by_26 c.args.file.now (omega (arith, at, inside)))

pub returns-in-Some : goal.returns-in-Some
unfolding lsas
returns-in-Some c =
    let file = c.args.file.now in
    let (at, rest, whole) = c.in_ok-lsas.ensures in
    let left : lsas_left c.in_ok-lsas.lsas ≡ lsas file = ap₂ (λ (at : ℕ) (s : List ℕ). lsas_from at 0 s) at rest in
    let (is, inside) = wrong_at file c.in-Some.at (rw left at c.in-Some.ensures) in
    rw (c.at.ensures, ← is) (by_27 file (omega (arith, whole)) (omega (arith, is, inside)))

pub returns-in-None : goal.returns-in-None
unfolding lsas
returns-in-None c =
    let file = c.args.file.now in
    let (at, rest, whole) = c.in_ok-lsas.ensures in
    let left : lsas_left c.in_ok-lsas.lsas ≡ lsas file = ap₂ (λ (at : ℕ) (s : List ℕ). lsas_from at 0 s) at rest in
    c.taken.ensures ∙ ap taken_in_turn left ∙ by_turns file (omega (arith, whole)) (omega (arith, wrong_nowhere file (rw left at c.in-None.ensures)))
