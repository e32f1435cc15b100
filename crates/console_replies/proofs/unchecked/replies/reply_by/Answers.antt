-- Each request has its definition.
-- Assumes nothing.
use Rattle.std.proofs.Common.{◌≡◌, ◌∙◌, rules}
use Rattle.topology_types.specs.Outcome.{answer_of}
use Rattle.topology.specs.Written.{writing}
use Rattle.topology.specs.OldLimit.{with_old_limit_lem}
use Rattle.order.specs.Calls.{building}
use Rattle.table.specs.Calls.{filling}
use Rattle.forwarding_rules.specs.Calls.{counting_hops}
use Rattle.paths_rules.specs.Calls.{writing_paths}
use Rattle.listing_rules.specs.Listing.{listing}
use Rattle.console_held.specs.Inner.{question_in}
use Rattle.console_held.proofs.Replying.{answer_reply}
use Rattle.console_replies.specs.Calls.{lent, write_by, order_by, check_order_by, fill_by, check_table_by, count_by, walk_by_lem, list_by, old_stream_by, paths_by, coverage_by, te_by}
use Rattle.console_replies.specs.Inner.{reply_to}
use Rattle.console_replies.proofs.Lent.{left_reply}
use Rattle.console_replies.proofs.unchecked.replies.reply_by.Goals as goal

pub returns-in-CheckOrder-clause-says : goal.returns-in-CheckOrder-clause-says
unfolding reply_to question_in check_order_by
returns-in-CheckOrder-clause-says c = rw c.in-CheckOrder.is (answer_reply (c.of_test.ensures ∙ c.check.ensures))

pub returns-in-CheckTable-clause-says : goal.returns-in-CheckTable-clause-says
unfolding reply_to question_in check_table_by
returns-in-CheckTable-clause-says c = rw c.in-CheckTable.is (answer_reply (c.of_test-in-CheckTable.ensures ∙ c.check-in-CheckTable.ensures))

pub returns-in-Walk-clause-says : goal.returns-in-Walk-clause-says
unfolding reply_to question_in walk_by_lem
returns-in-Walk-clause-says c = rw (c.in-Walk.is, ← c.walk.ensures) c.walk_reply.ensures.says

pub returns-in-Write-clause-says : goal.returns-in-Write-clause-says
unfolding reply_to question_in write_by
returns-in-Write-clause-says c =
    let left = c.leaves.ensures.left in
    let e : record { answer = answer_of left.0; buffer = left.1.now } ≡ writing c.args.t.now (lent c.args.q.room) = search rules in
    rw c.in-Write.is (left_reply (writing c.args.t.now) left.2 e left.4 c.requires.room)

pub returns-in-Order-clause-says : goal.returns-in-Order-clause-says
unfolding reply_to question_in order_by
returns-in-Order-clause-says c =
    let left = c.leaves-in-Order.ensures.left in
    let e : record { answer = answer_of left.0; buffer = left.1.now } ≡ building c.args.t.now c.args.q.place.0 c.args.q.mode (lent c.args.q.room) = search rules in
    rw c.in-Order.is (left_reply (building c.args.t.now c.args.q.place.0 c.args.q.mode) left.2 e left.4 c.requires.room)

pub returns-in-Fill-clause-says : goal.returns-in-Fill-clause-says
unfolding reply_to question_in fill_by
returns-in-Fill-clause-says c =
    let left = c.leaves-in-Fill.ensures.left in
    let e : record { answer = answer_of left.0; buffer = left.1.now } ≡ filling c.args.t.now c.args.q.place.0 c.args.q.bytes.now (lent c.args.q.room) = search rules in
    rw c.in-Fill.is (left_reply (filling c.args.t.now c.args.q.place.0 c.args.q.bytes.now) left.2 e left.4 c.requires.room)

pub returns-in-Greatest-clause-says : goal.returns-in-Greatest-clause-says
unfolding reply_to question_in count_by
returns-in-Greatest-clause-says c =
    let left = c.leaves-in-Greatest.ensures.left in
    let e : record { answer = answer_of left.0; buffer = left.1.now } ≡ counting_hops c.args.t.now c.args.table.now (lent c.args.q.room) = search rules in
    rw c.in-Greatest.is (left_reply (counting_hops c.args.t.now _) left.2 e left.4 c.requires.room)

pub returns-in-Listing-clause-says : goal.returns-in-Listing-clause-says
unfolding reply_to question_in list_by
returns-in-Listing-clause-says c =
    let left = c.leaves-in-Listing.ensures.left in
    let e : record { answer = answer_of left.0; buffer = left.1.now } ≡ listing c.args.t.now c.args.q.place.0 (lent c.args.q.room) = search rules in
    rw c.in-Listing.is (left_reply (listing c.args.t.now c.args.q.place.0) left.2 e left.4 c.requires.room)

pub returns-in-OldStream-clause-says : goal.returns-in-OldStream-clause-says
unfolding reply_to question_in old_stream_by
returns-in-OldStream-clause-says c =
    let left = c.leaves-in-OldStream.ensures.left in
    let e : record { answer = answer_of left.0; buffer = left.1.now } ≡ with_old_limit_lem c.args.q.bytes.now (lent c.args.q.room) = search rules in
    rw c.in-OldStream.is (left_reply (with_old_limit_lem c.args.q.bytes.now) left.2 e left.4 c.requires.room)

pub returns-in-Paths-clause-says : goal.returns-in-Paths-clause-says
unfolding reply_to question_in paths_by
returns-in-Paths-clause-says c =
    let left = c.leaves-in-Paths.ensures.left in
    let e : record { answer = answer_of left.0; buffer = left.1.now } ≡ writing_paths c.args.t.now c.args.table.now c.args.q.place.0 (lent c.args.q.room) = search rules in
    rw c.in-Paths.is (left_reply (writing_paths c.args.t.now _ c.args.q.place.0) left.2 e left.4 c.requires.room)

pub returns-in-Coverage-clause-says : goal.returns-in-Coverage-clause-says
unfolding reply_to question_in coverage_by
returns-in-Coverage-clause-says c = rw c.in-Coverage.is c.cover.ensures.says

pub returns-in-Te-clause-says : goal.returns-in-Te-clause-says
unfolding reply_to question_in te_by
returns-in-Te-clause-says c = rw c.in-Te.is c.link_cost.ensures.says
