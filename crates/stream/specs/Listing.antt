-- What a `Listing` stands for, and what taking a record makes of it.
-- Assumes nothing.
use Rattle.std.specs.Prelude.{Result, ◌≡◌, OnOk, OnErr}
use Rattle.topology_types.specs.declared.Fault.{Fault}
use Rattle.topology_types.specs.Outcome.{failed}
use Rattle.stream_rules.specs.Record.{Record}
use Rattle.stream_rules.specs.Halves.{StreamListing}
use Rattle.stream_rules.specs.Reading.{fault, added}
use Rattle.stream_rules.specs.Inner.{Stands}
use Rattle.stream.specs.declared.unchecked.Listing.{Listing}

-- it stands for these routers, links and lone halves
abbrev pub Lists : StreamListing → Listing → Type 0
Lists p l = Stands p l.topology l.tables.costs l.tables.leaving l.halves

-- a record is taken: why it is refused; with the record it stands for what is listed then; refused, it stays
pub record Taken (r : Record) (before after : Listing) (answer : Result (Unit {0}) Fault) : Type 0 where
  pub number : (p : StreamListing) → Lists p before → failed answer ≡ fault p r
  pub listed : (p : StreamListing) → Lists p before → OnOk answer (Lists (added p r) after)
  pub stays : OnErr answer (after ≡ before)
