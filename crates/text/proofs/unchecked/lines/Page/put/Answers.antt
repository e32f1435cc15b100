-- The slice with the text in its place.
-- Assumes nothing.
use Rattle.std.proofs.Common.{refl}
use Rattle.text.proofs.Stores.{in_place, placed}
use Rattle.text.proofs.unchecked.lines.Page.put.Goals as goal

pub returns : goal.returns
returns c =
    let page = c.args.self.now in
    placed page c.args.text.now _ refl (in_place page.bytes.now c.args.text.now _ page.filled c.requires c.copy_from_slice.ensures.after)
