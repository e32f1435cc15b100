-- The fewest digits that hold the number are its text.
-- Assumes nothing.
use Rattle.std.proofs.Common.{◌∙◌}
use Rattle.text.proofs.Texts.{digits_are}
use Rattle.text.proofs.unchecked.lines.Page.put_number.Goals as goal

pub put-requires : goal.put-requires
put-requires c =
    let d = c.decimal-k.ensures in
    rw (d.digits ∙ digits_are c.decimal-k.result _ c.ranges.n.fits d.len) c.requires

pub returns : goal.returns
returns c =
    let d = c.decimal-k.ensures in
    rw (d.digits ∙ digits_are c.decimal-k.result _ c.ranges.n.fits d.len) at c.put.ensures
