-- What was put is the records of the first links.
-- Assumes nothing.
use Rattle.std.proofs.Common.{take}
use Rattle.text.specs.Page.{Puts}
use Rattle.topology.specs.Written.{joined_over, link_bytes}
use Rattle.topology.proofs.writing.put_links.Given as goal

abbrev pub invariant-loop-l : goal.invariant-loop-l
invariant-loop-l l = Puts l.fn.page (joined_over link_bytes (take l.l-index l.links)) l.page
