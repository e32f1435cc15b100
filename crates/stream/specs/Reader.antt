-- The record reader: it carries the lent stream and the offset it has reached (01, Topology stream).
-- Assumes nothing.
use Rattle.std.specs.Prelude.{ℕ, ◌+◌, List, drop}
use Rattle.stream_rules.specs.Record.{Record}
use Rattle.stream_rules.specs.Stream.{record_in}
use Rattle.stream_rules.specs.Reading.{width}
use Rattle.stream.specs.declared.reader.Reader.{Reader}

-- a record, and the offset past it
pub record Taken : Type 0 where
  pub found : Record
  pub at : ℕ

-- the record that begins at an offset of a stream, and the offset past it. A refusal stands in a record's place and takes no byte
unfoldable pub taken : List ℕ → ℕ → Taken
taken stream at = let found = record_in (drop at stream) in record { found = found; at = at + width found }

-- what taking a record from a reader gives, and the reader that it leaves
pub record Next : Type 0 where
  pub found : Record
  pub reader : Reader

-- the record that begins at the offset that the reader has reached; it then carries the same stream, and has reached the offset past the record
unfoldable pub next : Reader → Next
next r =
    let taken-there = taken r.stream.now r.at in
    record { found = taken-there.found; reader = record { stream = r.stream; at = taken-there.at } }
