-- A sound topology is written whole.
-- Assumes nothing.
use Rattle.std.proofs.Common.{◌≡◌, Err, rules}
use Rattle.program_io.proofs.Right.{bytes}
use Rattle.import.proofs.Put.{stream_put, import_refused}
use Rattle.import.proofs.put_stream.Goals as goal

pub returns-in_err-import : goal.returns-in_err-import
returns-in_err-import c =
    let e : c.from_residual.result ≡ Err c.in_err-import.field-0.0 = search rules in
    rw e (import_refused c.args.file.now c.in_err-import.field-0.0 c.in_err-import.ensures)

pub returns : goal.returns
returns c =
    let file = c.args.file.now in
    stream_put file c.args.stream.now c.in_ok-import.field-0 c.write.result (bytes file c.type_inv.file) c.requires c.in_ok-import.ensures c.write.ensures
