-- Which request a line is, what it answers, and what is held from then on. `response_to` is the whole of it.
-- Assumes nothing.
use Rattle.std.specs.Prelude.{ℕ, cond, List, [], ◌∷◌, length, Option, Some, None}
use Rattle.topology_types.specs.declared.Topology.{Topology}
use Rattle.text.specs.Fields.{asks}
use Rattle.console_held.specs.Questions.{place_field, hops_field, mode_field, room_field, bytes_field, Question, question_of}
use Rattle.console_held.specs.Requests.{Held, Answered, unchanged, no_request, read_by, import_by, load_by, load_packet_by, setting_by, hop_by_lem}
use Rattle.console_replies.specs.Calls.{write_by, order_by, check_order_by, fill_by, check_table_by, count_by, walk_by_lem, list_by, old_stream_by, coverage_by, paths_by, te_by}

-- A request's first word, the kinds of the fields after it, and what it answers, with what is held and what is asked.
pub record Form : Type 0 where
  pub word : List ℕ
  pub kinds : List ℕ
  pub answer : Held → Question → Answered

unfoldable pub form : List ℕ → List ℕ → (Held → Question → Answered) → Form
form word kinds answer = record { word = word; kinds = kinds; answer = answer }

-- a request that leaves what is held
unfoldable pub leaving : (Topology → List ℕ → Question → List ℕ) → Held → Question → Answered
leaving reply h q = unchanged h (reply h.topology h.table q)

-- each with its line above it
unfoldable pub forms : List Form
forms =
    -- `topology STREAM`
    form (116 ∷ 111 ∷ 112 ∷ 111 ∷ 108 ∷ 111 ∷ 103 ∷ 121 ∷ []) (bytes_field ∷ []) read_by ∷
    -- `write ROOM`
    form (119 ∷ 114 ∷ 105 ∷ 116 ∷ 101 ∷ []) (room_field ∷ []) (leaving write_by) ∷
    -- `order D MODE ROOM`
    form (111 ∷ 114 ∷ 100 ∷ 101 ∷ 114 ∷ []) (place_field ∷ mode_field ∷ room_field ∷ []) (leaving order_by) ∷
    -- `check-order D MODE ORDER`
    form (99 ∷ 104 ∷ 101 ∷ 99 ∷ 107 ∷ 45 ∷ 111 ∷ 114 ∷ 100 ∷ 101 ∷ 114 ∷ []) (place_field ∷ mode_field ∷ bytes_field ∷ []) (leaving check_order_by) ∷
    -- `fill D ORDER ROOM`
    form (102 ∷ 105 ∷ 108 ∷ 108 ∷ []) (place_field ∷ bytes_field ∷ room_field ∷ []) (leaving fill_by) ∷
    -- `load-table TABLE`
    form (108 ∷ 111 ∷ 97 ∷ 100 ∷ 45 ∷ 116 ∷ 97 ∷ 98 ∷ 108 ∷ 101 ∷ []) (bytes_field ∷ []) load_by ∷
    -- `check-table`
    form (99 ∷ 104 ∷ 101 ∷ 99 ∷ 107 ∷ 45 ∷ 116 ∷ 97 ∷ 98 ∷ 108 ∷ 101 ∷ []) [] (leaving check_table_by) ∷
    -- `greatest ROOM`
    form (103 ∷ 114 ∷ 101 ∷ 97 ∷ 116 ∷ 101 ∷ 115 ∷ 116 ∷ []) (room_field ∷ []) (leaving count_by) ∷
    -- `load-packet STATION HOPS`
    form (108 ∷ 111 ∷ 97 ∷ 100 ∷ 45 ∷ 112 ∷ 97 ∷ 99 ∷ 107 ∷ 101 ∷ 116 ∷ []) (place_field ∷ hops_field ∷ []) load_packet_by ∷
    -- `set START`
    form (115 ∷ 101 ∷ 116 ∷ []) (place_field ∷ []) setting_by ∷
    -- `hop STATES`
    form (104 ∷ 111 ∷ 112 ∷ []) (bytes_field ∷ []) hop_by_lem ∷
    -- `walk START SCHEDULE`
    form (119 ∷ 97 ∷ 108 ∷ 107 ∷ []) (place_field ∷ bytes_field ∷ []) (leaving walk_by_lem) ∷
    -- `listing D ROOM`
    form (108 ∷ 105 ∷ 115 ∷ 116 ∷ 105 ∷ 110 ∷ 103 ∷ []) (place_field ∷ room_field ∷ []) (leaving list_by) ∷
    -- `old-stream STREAM ROOM`
    form (111 ∷ 108 ∷ 100 ∷ 45 ∷ 115 ∷ 116 ∷ 114 ∷ 101 ∷ 97 ∷ 109 ∷ []) (bytes_field ∷ room_field ∷ []) (leaving old_stream_by) ∷
    -- `coverage`
    form (99 ∷ 111 ∷ 118 ∷ 101 ∷ 114 ∷ 97 ∷ 103 ∷ 101 ∷ []) [] (leaving coverage_by) ∷
    -- `paths START ROOM`
    form (112 ∷ 97 ∷ 116 ∷ 104 ∷ 115 ∷ []) (place_field ∷ room_field ∷ []) (leaving paths_by) ∷
    -- `import FILE`
    form (105 ∷ 109 ∷ 112 ∷ 111 ∷ 114 ∷ 116 ∷ []) (bytes_field ∷ []) import_by ∷
    -- `te VALUE`
    form (116 ∷ 101 ∷ []) (bytes_field ∷ []) (leaving te_by) ∷
    []

-- the form of no request
unfoldable pub no_form : Form
no_form = form [] [] (λ h q. no_request h)

-- the first form that a line has
unfoldable pub form_for : List Form → List ℕ → Form
form_for [] line = no_form
form_for (f ∷ fs) line = cond (asks f.word (length f.kinds) line) f (form_for fs line)

-- a request with a wrong field is none
unfoldable pub answer_asked : (Held → Question → Answered) → Held → Option Question → Answered
answer_asked answer h (Some q) = answer h q
answer_asked answer h None = no_request h

-- what a line answers
unfoldable pub response_to : Held → List ℕ → Answered
response_to h line = answer_asked (form_for forms line).answer h (question_of (form_for forms line).kinds line)
