-- Each record is that at the reading's turn: a fault refuses there, the end record gives what the reading returns, and any other is listed.
-- Assumes nothing.
use Rattle.std.proofs.Common.{◌≡◌, Ok, Err, refl, ◌∙◌, rules}
use Rattle.topology_types.specs.declared.Fault.{Fault}
use Rattle.stream.proofs.Standing.{standing_first, same_stream, no_record, end_inside, end_is, is_refused, falls, onward}
use Rattle.stream.proofs.read.Goals as goal

pub loop-record-init : goal.loop-record-init
loop-record-init c = (refl, standing_first c.args.stream.now c.new-listing.ensures)

pub returns-in_err-record : goal.returns-in_err-record
returns-in_err-record c =
    let (same, w) = c.loop-record.invariant in
    let e : c.from_residual.result ≡ Err c.in_err-record.field-0.0 = search rules in
    let (f, was, is) : (f : Fault) × (c.next_record.result ≡ Err f) × (c.in_err-record.field-0.0 ≡ record { fault = f; at = c.loop-record.reader.at }) = search rules in
    rw (e, is) (no_record c.loop-record.reader c.next_record.new.self same w c.next_record.result c.next_record.ensures f was)

pub ended-requires : goal.ended-requires
ended-requires c =
    let (same, w) = c.loop-record.invariant in
    let was : c.next_record.result ≡ Ok c.in_ok-record.record = search rules in
    end_inside c.loop-record.reader c.next_record.new.self same w c.next_record.result c.next_record.ensures c.in_ok-record.record was c.in-End.is

pub returns-in-End : goal.returns-in-End
returns-in-End c =
    let (same, w) = c.loop-record.invariant in
    let was : c.next_record.result ≡ Ok c.in_ok-record.record = search rules in
    c.ended.ensures w.listing w.lists
    ∙ end_is c.loop-record.reader c.next_record.new.self same w c.next_record.result c.next_record.ensures c.in_ok-record.record was c.in-End.is

pub loop-record-smaller : goal.loop-record-smaller
loop-record-smaller c =
    let (same, w) = c.loop-record.invariant in
    let was : c.next_record.result ≡ Ok c.in_ok-record.record = search rules in
    let passed : c.take.result ≡ Ok tt = search rules in
    falls c.loop-record.reader c.next_record.new.self same w c.next_record.result c.next_record.ensures c.in_ok-record.record was c.take.ensures passed
    c.in_default.not-End

pub loop-record-preserved : goal.loop-record-preserved
loop-record-preserved c =
    let (same, w) = c.loop-record.invariant in
    let was : c.next_record.result ≡ Ok c.in_ok-record.record = search rules in
    let passed : c.take.result ≡ Ok tt = search rules in (
      same_stream c.loop-record.reader c.next_record.new.self same w c.next_record.result c.next_record.ensures,
      onward c.loop-record.reader c.next_record.new.self same w c.next_record.result c.next_record.ensures c.in_ok-record.record was c.take.ensures passed
          c.in_default.not-End,
    )

pub returns-in_err-map_err : goal.returns-in_err-map_err
returns-in_err-map_err c =
    let (same, w) = c.loop-record.invariant in
    let was : c.next_record.result ≡ Ok c.in_ok-record.record = search rules in
    let e : c.from_residual-in_err-map_err.result ≡ Err c.in_err-map_err.field-0.0 = search rules in
    let (f, off, is) : (f : Fault) × (c.take.result ≡ Err f) × (c.in_err-map_err.field-0.0 ≡ record { fault = f; at = c.loop-record.reader.at }) = search rules in
    rw (e, is)
    (is_refused c.loop-record.reader c.next_record.new.self same w c.next_record.result c.next_record.ensures c.in_ok-record.record was c.take.ensures f off)
