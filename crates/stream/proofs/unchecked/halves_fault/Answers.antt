-- Each test is one of the halves', in their order, and what the tables have says what is listed.
-- Assumes nothing.
use Rattle.std.proofs.Common.{◌≡◌, Err, rules}
use Rattle.stream.specs.Inner.{crowd_fault}
use Rattle.stream.proofs.Steps.{at_ends, at_listed, at_back, at_many, at_crowd, at_last, with_both, with_one}
use Rattle.stream.proofs.unchecked.halves_fault.Goals as goal

pub returns-in_err-test_ends : goal.returns-in_err-test_ends
returns-in_err-test_ends c =
    let f = c.in_err-test_ends.field-0.0 in
    let e : c.from_residual.result ≡ Err f = search rules in
    rw e (λ p i. at_ends i c.requires.0 c.args.h c.args.both f c.in_err-test_ends.ensures)

pub returns-in_err-test_new : goal.returns-in_err-test_new
returns-in_err-test_new c =
    let f = c.in_err-test_new.field-0.0 in
    let e : c.from_residual-in_err-test_new.result ≡ Err f = search rules in
    rw e (λ p i. at_listed i c.requires.0 c.args.h c.args.both c.in_ok-test_ends.ensures f c.in_err-test_new.ensures)

pub returns-in_err-test_back : goal.returns-in_err-test_back
returns-in_err-test_back c =
    let f = c.in_err-test_back.field-0.0 in
    let e : c.from_residual-in_err-test_back.result ≡ Err f = search rules in
    rw e (λ p i. at_back i c.requires.0 c.args.h c.args.both c.in_ok-test_ends.ensures c.in_ok-test_new.ensures f c.in_err-test_back.ensures)

pub returns-then-m-count-gt-HALVES : goal.returns-then-m-count-gt-HALVES
returns-then-m-count-gt-HALVES c = λ p i.
    at_many i c.requires.0 c.args.h c.args.both c.in_ok-test_ends.ensures c.in_ok-test_new.ensures c.in_ok-test_back.ensures
    c.count.ensures c.if-m-count-gt-HALVES.true

pub returns-in_err-test_room : goal.returns-in_err-test_room
returns-in_err-test_room c =
    let f = c.in_err-test_room.field-0.0 in
    let e : c.from_residual-in_err-test_room.result ≡ Err f = search rules in
    rw e (λ p i.
    at_crowd i c.requires.0 c.args.h c.args.both c.in_ok-test_ends.ensures c.in_ok-test_new.ensures c.in_ok-test_back.ensures
    c.count.ensures c.if-m-count-gt-HALVES.false f c.in_err-test_room.ensures)

pub returns-then-both : goal.returns-then-both
returns-then-both c = λ p i.
    at_last i c.requires.0 c.args.h c.args.both c.in_ok-test_ends.ensures c.in_ok-test_new.ensures c.in_ok-test_back.ensures
    c.count.ensures c.if-m-count-gt-HALVES.false c.in_ok-test_room.ensures _ (with_both c.if-both.true c.test_room-then-both.ensures)

pub returns : goal.returns
returns c = λ p i.
    at_last i c.requires.0 c.args.h c.args.both c.in_ok-test_ends.ensures c.in_ok-test_new.ensures c.in_ok-test_back.ensures
    c.count.ensures c.if-m-count-gt-HALVES.false c.in_ok-test_room.ensures 0
    (with_one (crowd_fault c.args.tables.now.leaving c.args.h.to.0) c.if-both.false)
