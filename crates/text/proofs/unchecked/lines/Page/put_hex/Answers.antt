-- The digits of all bytes in their place.
-- Assumes nothing.
use Rattle.std.proofs.Common.{refl}
use Rattle.text.specs.Hex.{hex_of}
use Rattle.text.proofs.Stores.{in_place, placed}
use Rattle.text.proofs.Texts.{hex_length}
use Rattle.text.proofs.unchecked.lines.Page.put_hex.Goals as goal

pub returns : goal.returns
returns c =
    let page = c.args.self.now in
    let bytes = c.args.bytes.now in
    let l = hex_length bytes in
    rw (← l) (placed page (hex_of bytes) _ refl (in_place page.bytes.now (hex_of bytes) _ page.filled (rw (l) c.requires) c.encode.ensures))
