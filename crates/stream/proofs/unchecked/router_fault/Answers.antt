-- The tests are those of a router's record, in the same order.
-- Assumes nothing.
use borrow.Author.Tests.{le-leb, lt-leb}
use Rattle.stream_rules.specs.Reading.{router_fault_lem}
use Rattle.stream.proofs.unchecked.router_fault.Goals as goal

pub returns-then-is_listed : goal.returns-then-is_listed
unfolding router_fault_lem
returns-then-is_listed c = λ k e. rw (e, ← c.if-is_listed.ensures)

pub returns-then-ids-ge-ROUTERS : goal.returns-then-ids-ge-ROUTERS
unfolding router_fault_lem
returns-then-ids-ge-ROUTERS c = λ k e. rw (e, ← c.if-is_listed.ensures, le-leb 64 _ c.if-ids-ge-ROUTERS.true)

pub returns : goal.returns
unfolding router_fault_lem
returns c = λ k e. rw (e, ← c.if-is_listed.ensures, lt-leb 64 _ c.if-ids-ge-ROUTERS.false)
