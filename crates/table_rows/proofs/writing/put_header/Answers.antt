-- The four bytes are the header's.
use Rattle.std.proofs.Common.{sym, ◌∙◌}
use Rattle.table_rows.proofs.Layouts.{header_is}
use Rattle.table_rows.proofs.writing.put_header.Goals as goal

pub returns : goal.returns
returns c = c.copy_from_slice.ensures.after ∙ sym (header_is c.args.l c.requires.0 _ _ _)
