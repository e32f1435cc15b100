-- A longer file has its words, a refused one its line, and any other the stream of a sound topology, which fits.
-- Assumes nothing.
use Rattle.std.proofs.Common.{rules}
use Rattle.import.specs.Output.{too_long}
use Rattle.import.proofs.Put.{too-long, refusal_put, imported}
use Rattle.import.proofs.put_output.Goals as goal

pub returns-then-file-gt-FILE : goal.returns-then-file-gt-FILE
unfolding too_long
returns-then-file-gt-FILE c = too-long c.args.file.now {b = c.args.line.now} c.if-file-gt-FILE.true (search rules) c.requires.1

pub returns-in-Ok : goal.returns-in-Ok
returns-in-Ok c = imported c.args.file.now c.if-file-gt-FILE.false c.in-Ok.ensures

pub returns-in-Err : goal.returns-in-Err
returns-in-Err c = refusal_put c.args.file.now c.in-Err.refusal {b = c.args.line.now} c.if-file-gt-FILE.false c.in-Err.ensures (search rules) c.requires.1
