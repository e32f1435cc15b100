-- Reading a topology stream: records in turn, the first fault ends it (01, Topology stream; Refusals and where they point).
-- Assumes nothing.
use Rattle.std.specs.Prelude.{ℕ, zero, suc, ◌+◌, Bool, true, false, cond, not, ◌&&◌, List, [], ◌∷◌, ◌++◌, eqb, ltb, leb, length}
use Rattle.std.specs.Prelude.{Result, Ok, Err}
use Rattle.network.specs.Lists.{any, keep, member}
use Rattle.topology_types.specs.declared.Half.{Half}
use Rattle.topology_types.specs.declared.Link.{Link}
use Rattle.topology_types.specs.Limits.{most_routers, most_halves, most_neighbours, most_next_hops, default_next_hops}
use Rattle.topology_types.specs.declared.Refusal.{Refusal}
use Rattle.topology_types.specs.declared.Topology.{Topology}
use Rattle.topology_types.specs.Outcome.{answer, number_of}
use Rattle.topology_types.specs.Topology.{Contents, held, zeros}
use Rattle.topology_sound.specs.Sound.{within}
use Rattle.stream_rules.specs.declared.Reading.{Reading}
use Rattle.stream_rules.specs.Record.{Record}
use Rattle.stream_rules.specs.Record as record_of
use Rattle.stream_rules.specs.Halves.{StreamListing, halves, same_half, leaves, opposite, link_of}
use Rattle.stream_rules.specs.Stream.{records}

-- 01, Refusals: a refused reading returns the topology of all zeros
unfoldable pub refusal : ℕ → ℕ → Reading
refusal number at = record { answer = answer number at; topology = zeros }

-- 01, Refusals: the reading that a call's result stands for
abbrev pub reading_of : Result Topology Refusal → Reading
reading_of (Ok t) = record { answer = answer 0 0; topology = t }
reading_of (Err r) = refusal (number_of r.fault) r.at

-- 01, Refusals: a success has number 0 and, since no buffer is written, at 0
unfoldable pub accepted_reading : Contents → Reading
accepted_reading c = record { answer = answer 0 0; topology = held c }

-- 01, Refusals, 3 and 4: the number of the first test that a router's record fails, 0 if it fails none
unfoldable pub router_fault_lem : Contents → ℕ → ℕ
router_fault_lem c id = cond (member id c.ids) 3 (cond (leb most_routers (length c.ids)) 4 0)

-- 02, #105, 8: the half is listed already
unfoldable pub repeated : StreamListing → Half → Bool
repeated p h = any (same_half h) (halves p)

-- 02, #105, 10: as many halves leave the place as may leave a router
unfoldable pub crowded : StreamListing → ℕ → Bool
crowded p place = leb most_neighbours (length (keep (leaves place) (halves p)))

-- 01, Refusals, 5 to 10, and 02, #105: the same of a record that lists the halves `new`, the first of which is h
unfoldable pub halves_fault_lem : StreamListing → Half → List Half → ℕ
halves_fault_lem p h new =
    let n = length p.contents.ids in
    cond (not (ltb h.from.0 n && ltb h.to.0 n)) 5
    (cond (eqb h.from.0 h.to.0) 6
    (cond (eqb h.cost 0) 7
    (cond (any (repeated p) new) 8
    (cond (ltb most_halves (length (halves p) + length new)) 9
    (cond (any (λ k. crowded p k.from.0) new) 10 0)))))

-- 01, Refusals: the same of any record. 1 and 2 stand in the record's place; record 2 counts as both halves (02, #105); 16 is the limit's; the end's
-- faults are those of `ended`.
unfoldable pub fault : StreamListing → Record → ℕ
fault p (record_of.Router id) = router_fault_lem p.contents id
fault p (record_of.Link h) = halves_fault_lem p h (h ∷ opposite h ∷ [])
fault p (record_of.Half h) = halves_fault_lem p h (h ∷ [])
fault p (record_of.Limit k) = cond (within most_next_hops k) 0 16
fault p record_of.End = 0
fault p (record_of.Refused number) = number

-- 01, Topology stream: a router, a link or a limit more. Routers are listed by place, links by number; of limits the last stands.
unfoldable pub with_router : Contents → ℕ → Contents
with_router c id = record { ids = c.ids ++ (id ∷ []); links = c.links; limit = c.limit }

unfoldable pub with_link : Contents → Link → Contents
with_link c l = record { ids = c.ids; links = c.links ++ (l ∷ []); limit = c.limit }

unfoldable pub with_limit : Contents → ℕ → Contents
with_limit c k = record { ids = c.ids; links = c.links; limit = k }

-- 02, #105: two opposite halves make a link, numbered when the second arrives. What is listed with the half h, by the lone halves that are opposite to
-- it, of which there is at most one, since no half is listed twice: without one it is lone, with one both make a link.
unfoldable pub arrived : StreamListing → Half → List Half → StreamListing
arrived p h [] = record { contents = p.contents; lone = p.lone ++ (h ∷ []) }
arrived p h (k ∷ ks) =
    record { contents = with_link p.contents (link_of k h); lone = keep (λ lone. not (same_half (opposite h) lone)) p.lone }

-- what is listed with a record more; record 2 counts as both halves, so its link is numbered then, with its places as read (02, #105)
unfoldable pub added : StreamListing → Record → StreamListing
added p (record_of.Router id) = record { contents = with_router p.contents id; lone = p.lone }
added p (record_of.Link h) = record { contents = with_link p.contents (link_of h (opposite h)); lone = p.lone }
added p (record_of.Half h) = arrived p h (keep (same_half (opposite h)) p.lone)
added p (record_of.Limit k) = record { contents = with_limit p.contents k; lone = p.lone }
added p record_of.End = p
added p (record_of.Refused number) = p

-- 01, Topology stream: how many bytes a record takes, its kind and its body
unfoldable pub width : Record → ℕ
width (record_of.Router id) = 5
width (record_of.Link h) = 5
width (record_of.Half h) = 5
width (record_of.Limit k) = 2
width record_of.End = 1
width (record_of.Refused number) = 0

-- 01, Topology stream: the end record, kind 3
unfoldable pub is_end : Record → Bool
is_end (record_of.Router id) = false
is_end (record_of.Link h) = false
is_end (record_of.Half h) = false
is_end (record_of.Limit k) = false
is_end record_of.End = true
is_end (record_of.Refused number) = false

-- 01, Refusals, 11 and 12, at the end record: whether a byte follows it, and where it stands. Routers that no path joins are listed too (02, #107).
unfoldable pub ended : Bool → ℕ → Contents → Reading
ended follows at c = cond follows (refusal 11 (at + 1)) (cond (eqb (length c.ids) 0) (refusal 12 at) (accepted_reading c))

-- 01, Refusals: a fault refuses at the record, else the reading goes on
unfoldable pub unless : ℕ → ℕ → Reading → Reading
unless zero at r = r
unless (suc number) at r = refusal (suc number) at

-- 01, Refusals, 11: whether a byte follows the end record, as it begins another record
unfoldable pub any_record? : List Record → Bool
any_record? [] = false
any_record? (r ∷ rs) = true

-- 01, Refusals: records are taken in turn and the first fault ends the reading; the first of them stands at `at`. At the end record lone halves are
-- dropped (02, #105).
unfoldable pub in_turn : ℕ → StreamListing → List Record → Reading
in_turn at p [] = refusal 1 at
in_turn at p (r ∷ rs) = unless (fault p r) at (cond (is_end r) (ended (any_record? rs) at p.contents) (in_turn (at + width r) (added p r) rs))

-- 01, Topology stream: before the first record nothing is listed; 02, #101: K is 3
unfoldable pub nothing_listed : StreamListing
nothing_listed = record { contents = record { ids = []; links = []; limit = default_next_hops }; lone = [] }

-- 01, Topology stream: what reading a stream returns
unfoldable pub reading : List ℕ → Reading
reading stream = in_turn 0 nothing_listed (records 0 stream)
