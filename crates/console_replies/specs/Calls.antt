-- The requests that leave what is held as it is: what each answers, by what it asks.
-- Assumes nothing.
use Rattle.std.specs.Prelude.{ℕ, Bool, cond, List, [], ◌∷◌, ◌++◌, map, eqb, replicate}
use Rattle.std.specs.Float.{binary32}
use Rattle.std.specs.Float.Ieee.{to_bits}
use Rattle.network.specs.Forwarding.{Walk, delivered_at, dropped_at, unfinished_at}
use Rattle.topology_types.specs.declared.Topology.{Topology}
use Rattle.topology_types.specs.Outcome.{Outcome}
use Rattle.topology.specs.Written.{writing}
use Rattle.topology.specs.OldLimit.{with_old_limit_lem}
use Rattle.order.specs.Calls.{building, checking}
use Rattle.table.specs.Calls.{filling, table_checking}
use Rattle.forwarding_rules.specs.Calls as said
use Rattle.forwarding_rules.specs.Calls.{Said, counting_hops, walking}
use Rattle.paths_rules.specs.Calls.{writing_paths}
use Rattle.listing_rules.specs.Listing.{spaced, listing}
use Rattle.coverage_rules.specs.Coverage.{Coverage, coverage}
use Rattle.coverage_rules.specs.Printed.{numbers}
use Rattle.te.specs.Cost.{LinkCost, costing}
use Rattle.text.specs.Numbers.{number_text}
use Rattle.text.specs.Lines.{newline, error_line, refused_word, word_line, buffer_line}
use Rattle.console_held.specs.Questions.{Question}
use Rattle.console_held.specs.Requests.{answer_of, delivered_word, dropped_word, packet_line}

-- every line that answers fits: a number of 3 digits, one of 20, two digits for each byte of ROOM, and what parts and ends them
abbrev pub most_answer : ℕ
most_answer = 131136

-- lent buffers are ROOM bytes of `aa`
unfoldable pub lent : ℕ → List ℕ
lent room = replicate room 170

-- NUMBER AT BUFFER
unfoldable pub buffer_of : Outcome → List ℕ
buffer_of o = buffer_line o.answer.number o.answer.at o.buffer

-- what a walk answers; no walk that a call answers is unfinished
unfoldable pub walk_text : Said (Walk ℕ) → List ℕ
walk_text (said.done (delivered_at p)) = packet_line delivered_word p
walk_text (said.done (dropped_at p)) = packet_line dropped_word p
walk_text (said.done (unfinished_at p)) = error_line
walk_text (said.refused number at) = word_line refused_word number at

-- NUMBER AT, and after `0 0` the numbers in the order in which the program prints them
unfoldable pub coverage_line : Coverage → List ℕ
coverage_line c =
    cond (eqb c.answer.number 0) (spaced (map number_text (0 ∷ 0 ∷ numbers c)) ++ (newline ∷ [])) (answer_of c.answer)

-- `1` or `0` for present
unfoldable pub presence : Bool → ℕ
presence has = cond has 1 0

-- NUMBER AT COST, then metric, maximum and reservable, each with its presence in front: a bandwidth is its 32-bit pattern
unfoldable pub cost_numbers : LinkCost → List ℕ
cost_numbers c =
    c.answer.number ∷ c.answer.at ∷ c.cost ∷
    presence c.link.hasmetric ∷ c.link.metric ∷
    presence c.link.hasmaximum ∷ to_bits binary32 c.link.maximum ∷
    presence c.link.hasreservable ∷ to_bits binary32 c.link.reservable ∷ []

-- and the line's end
unfoldable pub cost_line : LinkCost → List ℕ
cost_line c = spaced (map number_text (cost_numbers c)) ++ (newline ∷ [])

-- `write ROOM`
unfoldable pub write_by : Topology → List ℕ → Question → List ℕ
write_by t table q = buffer_of (writing t (lent q.room))

-- `order D MODE ROOM`
unfoldable pub order_by : Topology → List ℕ → Question → List ℕ
order_by t table q = buffer_of (building t q.place q.mode (lent q.room))

-- `check-order D MODE ORDER`
unfoldable pub check_order_by : Topology → List ℕ → Question → List ℕ
check_order_by t table q = answer_of (checking t q.place q.mode q.bytes)

-- `fill D ORDER ROOM`
unfoldable pub fill_by : Topology → List ℕ → Question → List ℕ
fill_by t table q = buffer_of (filling t q.place q.bytes (lent q.room))

-- `check-table`
unfoldable pub check_table_by : Topology → List ℕ → Question → List ℕ
check_table_by t table q = answer_of (table_checking t table)

-- `greatest ROOM`
unfoldable pub count_by : Topology → List ℕ → Question → List ℕ
count_by t table q = buffer_of (counting_hops t table (lent q.room))

-- `walk START SCHEDULE`
unfoldable pub walk_by_lem : Topology → List ℕ → Question → List ℕ
walk_by_lem t table q = walk_text (walking t table q.place q.bytes)

-- `listing D ROOM`
unfoldable pub list_by : Topology → List ℕ → Question → List ℕ
list_by t table q = buffer_of (listing t q.place (lent q.room))

-- `old-stream STREAM ROOM`
unfoldable pub old_stream_by : Topology → List ℕ → Question → List ℕ
old_stream_by t table q = buffer_of (with_old_limit_lem q.bytes (lent q.room))

-- `paths START ROOM`
unfoldable pub paths_by : Topology → List ℕ → Question → List ℕ
paths_by t table q = buffer_of (writing_paths t table q.place (lent q.room))

-- `coverage`
unfoldable pub coverage_by : Topology → List ℕ → Question → List ℕ
coverage_by t table q = coverage_line (coverage t)

-- `te VALUE`
unfoldable pub te_by : Topology → List ℕ → Question → List ℕ
te_by t table q = cost_line (costing q.bytes)
