-- The tests are those of the end record.
-- Assumes nothing.
use Rattle.std.proofs.Common.{ap}
use borrow.Author.Tests.{lt-ltb, le-ltb, eq-eqb, ne_eqb}
use Rattle.stream_rules.specs.Reading.{accepted_reading, ended}
use Rattle.stream_rules.specs.Theorems.{success}
use Rattle.stream_rules.proofs.Held.{routers_held}
use Rattle.stream.proofs.unchecked.ended.Goals as goal

pub returns-then-at-length : goal.returns-then-at-length
unfolding ended
returns-then-at-length c = λ w. rw (c.at.ensures, lt-ltb _ _ c.if-at-length.true)

pub returns-then-t-eq0 : goal.returns-then-t-eq0
unfolding ended
returns-then-t-eq0 c = λ w.
    rw (c.at-then-t-eq0.ensures, le-ltb _ _ c.if-at-length.false, ← (routers_held c.args.t w), eq-eqb _ 0 c.if-t-eq0.true)

pub returns : goal.returns
unfolding ended accepted_reading
returns c = λ w.
    rw (le-ltb _ _ c.if-at-length.false, ← (routers_held c.args.t w), ne_eqb _ 0 c.if-t-eq0.false)
    (ap success w.whole)
