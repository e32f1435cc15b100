-- No bytes are `-`, others two digits each.
-- Assumes nothing.
use Rattle.std.proofs.Common.{rules, ◌≡◌, ◌≢◌, length}
use Rattle.text.proofs.Texts.{text_none, text_hex}
use Rattle.text.proofs.unchecked.lines.Page.put_bytes.Goals as goal

pub returns-then-is_empty : goal.returns-then-is_empty
returns-then-is_empty c = let h : length c.args.bytes.now ≡ 0 = search rules in rw (text_none c.args.bytes.now h) c.put.ensures

pub returns-else-is_empty : goal.returns-else-is_empty
returns-else-is_empty c = let h : length c.args.bytes.now ≢ 0 = search rules in rw (text_hex c.args.bytes.now h) c.put_hex.ensures
