-- What the inner functions of `stream` ask of what is held, and of the tables that they look halves up in.
-- Assumes nothing.
use Rattle.std.specs.Prelude.{ℕ, ◌+◌, ◌*◌, ◌^◌, ◌<◌, Bool, cond, not, List, [], ◌∷◌, Result, Ok, Err, ◌≡◌, eqb, length, get_or}
use Rattle.network.specs.Lists.{keep}
use Rattle.topology_types.specs.declared.Half.{Half}
use Rattle.topology_types.specs.declared.Topology.{Topology}
use Rattle.topology_types.specs.Limits.{most_routers}
use Rattle.topology_types.specs.Topology.{contents, held}
use Rattle.topology_types.specs.Inner.{CountsFit}
use Rattle.topology_types.specs.declared.Fault.{Fault}
use Rattle.topology_types.specs.Outcome.{number_of}
use Rattle.stream_rules.specs.declared.Record as read
use Rattle.stream_rules.specs.declared.Record.TheVariants as read_as
use Rattle.stream_rules.specs.Record.{Record}
use Rattle.stream_rules.specs.Record as record_of
use Rattle.stream_rules.specs.Halves.{StreamListing, halves, same_half, leaves}
use Rattle.stream_rules.specs.Reading.{repeated, fault, added, nothing_listed}

-- what stands in the stream, by what the code makes of it: a record, or why there is none
abbrev pub record_seen : Result read.Record Fault → Record
record_seen (Ok (read_as.Router id)) = record_of.Router id
record_seen (Ok (read_as.Link h)) = record_of.Link h
record_seen (Ok (read_as.Half h)) = record_of.Half h
record_seen (Ok (read_as.Limit k)) = record_of.Limit k
record_seen (Ok read_as.End) = record_of.End
record_seen (Err f) = record_of.Refused (number_of f)

-- the counts are within the limits, and unused slots are zero: what holds of a topology while it is read
pub record WhileRead (t : Topology) : Type 0 where
  pub counted : CountsFit t
  pub whole : t ≡ held (contents t)

-- what is known of the listing without going through its halves: n routers, m halves, a table that has 0 at u * 64 + v exactly
-- where the half from u to v is not listed, and one that has at u how many halves leave u
pub record Indexed (p : StreamListing) (n m : ℕ) (costs leaving : List ℕ) : Type 0 where
  pub routers : n ≡ length p.contents.ids
  pub many : m ≡ length (halves p)
  pub listed : (h : Half) → h.from.0 < most_routers → h.to.0 < most_routers →
      not (eqb (get_or costs (h.from.0 * most_routers + h.to.0) 0) 0) ≡ repeated p h
  pub out : (u : ℕ) → u < most_routers → get_or leaving u 0 ≡ length (keep (leaves u) (halves p))

-- what every record of bytes says fits where it is stored
abbrev pub Fitting : Record → Type 0
Fitting (record_of.Router id) = id < 2 ^ 32
Fitting (record_of.Link h) = h.cost < 2 ^ 16
Fitting (record_of.Half h) = h.cost < 2 ^ 16
Fitting (record_of.Limit k) = Unit {0}
Fitting record_of.End = Unit {0}
Fitting (record_of.Refused number) = Unit {0}

-- what is listed by records that have no fault, one after another
pub data Arisen : StreamListing → Type 0 where
  nothing : Arisen nothing_listed
  one_more : {p : StreamListing} → Arisen p → (r : Record) → fault p r ≡ 0 → Fitting r → Arisen (added p r)

-- what f gives over the halves, added up
unfoldable pub total : (Half → ℕ) → List Half → ℕ
total f [] = 0
total f (h ∷ hs) = f h + total f hs

-- 1 for a half that passes the test
unfoldable pub one_if : (Half → Bool) → Half → ℕ
one_if test k = cond (test k) 1 0

-- what a half costs that is the same as h
unfoldable pub cost_like : Half → Half → ℕ
cost_like h k = cond (same_half h k) k.cost 0

-- a table that has at u * 64 + v what the half from u to v costs, 0 if it is not among these
pub record Tabled (costs : List ℕ) (hs : List Half) : Type 0 where
  pub long : length costs ≡ most_routers * most_routers
  pub at : (g : Half) → g.from.0 < most_routers → g.to.0 < most_routers →
      get_or costs (g.from.0 * most_routers + g.to.0) 0 ≡ total (cost_like g) hs

-- one that has at u how many of these leave u
pub record Tallied (leaving : List ℕ) (hs : List Half) : Type 0 where
  pub long : length leaving ≡ most_routers
  pub at : (u : ℕ) → u < most_routers → get_or leaving u 0 ≡ total (one_if (leaves u)) hs

-- a topology, the two tables, and how many halves there are, lone ones too, stand for what is listed
pub record Stands (p : StreamListing) (t : Topology) (costs leaving : List ℕ) (m : ℕ) : Type 0 where
  pub arisen : Arisen p
  pub whole : t ≡ held p.contents
  pub many : m ≡ length (halves p)
  pub tabled : Tabled costs (halves p)
  pub tallied : Tallied leaving (halves p)
