-- The reader that is left carries the same stream, and has reached the offset past the record, of which there are no more bytes than follow.
-- Assumes nothing.
use Rattle.std.proofs.Common.{ℕ, ◌+◌, ◌≡◌, Err, Ok, ap, ◌∙◌, sym, arith, rules, add-zero, drop, length-drop}
use Rattle.stream_rules.specs.Record.{Record}
use Rattle.stream_rules.specs.Reading.{width}
use Rattle.stream_rules.specs.Inner.{record_seen}
use Rattle.stream_rules.proofs.Stream.{width_within}
use Rattle.stream.specs.Reader.{Next, taken, next}
use Rattle.stream.proofs.reader.Reader.next_record.Goals as goal

pub returns-in_err-record : goal.returns-in_err-record
unfolding next taken width
returns-in_err-record c =
    let r = c.args.self.now in
    let e : c.from_residual.result ≡ Err c.in_err-record.field-0.0 = search rules in
    let made : Record → ℕ → Next = λ found at. record { found = found; reader = record { stream = r.stream; at = at } } in
    ap (λ x. made (record_seen x) r.at) e
    ∙ ap (made (record_seen (Err c.in_err-record.field-0.0))) (sym (add-zero r.at))
    ∙ ap (λ found. made found (r.at + width found)) c.in_err-record.ensures

pub overflow_add-self : goal.overflow_add-self
overflow_add-self c =
    let r = c.args.self.now in
    let wide = c.width_of.ensures ∙ ap width c.in_ok-record.ensures in
    omega (arith, wide, width_within (drop r.at r.stream.now), length-drop r.at r.stream.now)

pub returns : goal.returns
unfolding next taken
returns c =
    let r = c.args.self.now in
    let made : Record → ℕ → Next = λ found at. record { found = found; reader = record { stream = r.stream; at = at } } in
    ap (λ n. made (record_seen (Ok c.in_ok-record.record)) (r.at + n)) c.width_of.ensures
    ∙ ap (λ found. made found (r.at + width found)) c.in_ok-record.ensures
