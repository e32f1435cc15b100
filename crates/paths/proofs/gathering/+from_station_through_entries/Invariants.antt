-- The measure: entries lead to lower ranks, so 32 for each rank; a station's own row has at most 16 entries left, and each turn through them leaves one
-- fewer.
-- Assumes nothing.
use Rattle.std.proofs.Common.{◌+◌, ◌-◌, ◌*◌, length}
use Rattle.table.specs.Listed.{places_in}
use Rattle.forwarding_rules.specs.Theorems.{rank_byte}
use Rattle.paths.proofs.gathering.+from_station_through_entries.Given as goal

abbrev pub decreases-from_station : goal.decreases-from_station
decreases-from_station l = 32 * rank_byte l.table.now l.station.0 + 17

abbrev pub decreases-through_entries : goal.decreases-through_entries
decreases-through_entries l = 32 * rank_byte l.table.now l.station.0 + (length (places_in l.table.now l.station.0) - l.i)
