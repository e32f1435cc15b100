-- What the inner functions promise (02, #106): what is taken of LSAs.
-- Assumes nothing.
use Rattle.std.specs.Prelude.{List, map, Result, Ok, Err, ◌≡◌}
use Rattle.topology_types.specs.declared.Refusal.{Refusal}
use Rattle.topology_types.specs.Outcome.{answer, number_of}
use Rattle.stream_rules.specs.declared.Reading.{Reading}
use Rattle.stream_rules.specs.Halves.{StreamListing}
use Rattle.stream_rules.specs.Reading.{refusal, accepted_reading, nothing_listed}
use Rattle.stream.specs.declared.unchecked.Listing.{Listing}
use Rattle.stream.specs.Listing.{Lists}
use Rattle.ospf_lsas.specs.Lsa.{Lsa}
use Rattle.ospf.specs.Import.{router_of, router_in, placed_in, taken_to, at_last}
use Rattle.ospf.specs.Theorems.{Taken}

-- what is listed, as it is
unfoldable pub as_listed : StreamListing → Reading
as_listed p = accepted_reading p.contents

-- the routers of LSAs, and no halves: a refusal, or a topology without links
unfoldable pub routers_taken : List Lsa → Reading
routers_taken ls = taken_to as_listed nothing_listed (map router_in ls)

-- the reading that a listing stands for, as it is, or why there is none
abbrev pub listing_of : Result Listing Refusal → Reading
listing_of (Ok l) = record { answer = answer 0 0; topology = l.topology }
listing_of (Err r) = refusal (number_of r.fault) r.at

-- the routers of LSAs are listed, none of them refused, and nothing else is
pub record HasRouters (ls : List Lsa) (l : Listing) : Type 0 where
  pub listing : StreamListing
  pub taken : Taken (map router_in ls) listing
  pub lists : Lists listing l
  pub ids : listing.contents.ids ≡ map router_of ls

-- the routers of LSAs and then their halves: what is imported, the tests of the whole file passed
unfoldable pub taken_in_turn : List Lsa → Reading
taken_in_turn ls = taken_to at_last nothing_listed (placed_in ls)
