-- An ID that stands once in what ends behind it is not among those before it; one that does not makes them alike.
-- Assumes nothing.
use Rattle.std.proofs.Common.{◌<◌, ◌≤◌, length, sym, ◌∙◌, arith}
use Rattle.std.proofs.Math.Seq.{take_all}
use Rattle.topology_sound.proofs.Turns.{none_passed, passed, cut, all_passed, ids_grow}
use Rattle.topology_sound.proofs.Times.{once_new, not_once}
use Rattle.topology_sound.proofs.testing.ids_differ.Goals as goal

pub loop-i-init : goal.loop-i-init
loop-i-init c = none_passed ids_grow c.args.ids.now (length c.args.ids.now) (omega arith)

pub returns-then-times-ne1 : goal.returns-then-times-ne1
returns-then-times-ne1 c =
    let ids = c.args.ids.now in
    let after : c.loop-i.i < c.min-end.result = omega (arith, c.min-end.ensures) in
    let within : c.min-end.result ≤ length ids = omega (arith, c.min-end.ensures) in
    rw (take_all (length ids) ids (omega arith)) at
    (cut ids_grow ids c.min-end.result (length ids) within (not_once ids after within (λ e. c.if-times-ne1.true (c.times.ensures ∙ e))))

pub loop-i-preserved : goal.loop-i-preserved
loop-i-preserved c =
    let ids = c.args.ids.now in
    let after : c.loop-i.i < c.min-end.result = omega (arith, c.min-end.ensures) in
    let within : c.min-end.result ≤ length ids = omega (arith, c.min-end.ensures) in
    passed ids_grow c.loop-i.invariant c.loop-i-test.true 0 (once_new ids after within (sym c.times.ensures ∙ c.if-times-ne1.false))

pub returns : goal.returns
returns c =
    rw (take_all (length c.args.ids.now) c.args.ids.now (omega arith)) at (all_passed c.loop-i.invariant c.loop-i-test.false)
