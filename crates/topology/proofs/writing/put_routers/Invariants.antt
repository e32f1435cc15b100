-- What was put is the records of the first routers.
-- Assumes nothing.
use Rattle.std.proofs.Common.{take}
use Rattle.text.specs.Page.{Puts}
use Rattle.topology.specs.Written.{joined_over, router_bytes}
use Rattle.topology.proofs.writing.put_routers.Given as goal

abbrev pub invariant-loop-id : goal.invariant-loop-id
invariant-loop-id l = Puts l.fn.page (joined_over router_bytes (take l.id-index l.ids)) l.page
