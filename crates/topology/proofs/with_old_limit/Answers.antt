-- The limit and the stream behind it are put at the start of the buffer.
-- Assumes nothing.
use Rattle.std.proofs.Common.{◌+◌, ◌≡◌, ◌≤◌, suc, length, zero-add, arith}
use borrow.Author.Tests.{lt-ltb, le-ltb}
use Rattle.topology_types.specs.Outcome.{given, turned_away}
use Rattle.text.proofs.Stores.{put_start}
use Rattle.topology.specs.OldLimit.{with_old_limit_lem}
use Rattle.topology.proofs.with_old_limit.Goals as goal

pub returns-then-out-needed : goal.returns-then-out-needed
unfolding with_old_limit_lem given turned_away
returns-then-out-needed c =
    let long : length c.args.stream.now + 2 ≡ suc (suc (length c.args.stream.now)) = omega arith in
    rw (c.at.ensures, long, lt-ltb (length c.args.out.now) (suc (suc (length c.args.stream.now))) (omega arith))

pub returns : goal.returns
unfolding with_old_limit_lem given
returns c =
    let long : suc (suc (length c.args.stream.now)) ≤ length c.args.out.now = omega arith in
    rw (c.put_limit.ensures.after, put_start c.put_limit.ensures long, le-ltb (length c.args.out.now) (suc (suc (length c.args.stream.now))) long, zero-add)
