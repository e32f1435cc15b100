-- One byte is the number; of two the first counts in units of 256.
use Rattle.std.proofs.Common.{◌≡◌, arith, ◌∙◌}
use Rattle.table_rows.specs.Layout.{number_at}
use Rattle.table_rows.proofs.unchecked.layout.number_at.Goals as goal

pub returns-then-width-lt2 : goal.returns-then-width-lt2
unfolding number_at
returns-then-width-lt2 c =
    let one : c.args.width ≡ 1 = omega (arith, c.if-width-lt2.true, c.requires.0) in
    rw one (c.from.ensures, omega (arith, c.from.ensures))

pub returns : goal.returns
unfolding number_at
returns c =
    let two : c.args.width ≡ 2 = omega (arith, c.if-width-lt2.false, c.requires.1) in
    rw two (c.from-2.ensures ∙ c.from_be_bytes.ensures, omega (arith, c.from-2.ensures))
