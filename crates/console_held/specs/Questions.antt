-- What a request asks: the kinds of its fields, and what they hold.
-- Assumes nothing.
use Rattle.std.specs.Prelude.{ℕ, ◌+◌, cond, List, [], ◌∷◌, ltb, length, Option, Some, None}
use Rattle.network.specs.Lists.{same_numbers}
use Rattle.order_standings.specs.declared.Mode.{Mode}
use Rattle.order_standings.specs.declared.Mode.TheVariants.{ShortestPath, Free}
use Rattle.text.specs.Fields.{before, field}
use Rattle.text.specs.Numbers.{number}
use Rattle.text.specs.Hex as hex
use Rattle.text.specs.Hex.{byte_count, bytes}

-- D, START, STATION and HOPS are one byte each to a call of the library: a larger number is no request
abbrev pub most_byte : ℕ
most_byte = 255

-- at most 65,536 for ROOM
abbrev pub most_room : ℕ
most_room = 65536

-- a line has at most 262,144 bytes
abbrev pub most_line : ℕ
most_line = 262144

-- so a field holds at most half as many, and no table is longer
abbrev pub most_table : ℕ
most_table = 131072

-- The kinds of fields, each a letter: `p` for D, START or STATION
abbrev pub place_field : ℕ
place_field = 112

-- `h` for HOPS
abbrev pub hops_field : ℕ
hops_field = 104

-- `m` for MODE
abbrev pub mode_field : ℕ
mode_field = 109

-- `r` for ROOM
abbrev pub room_field : ℕ
room_field = 114

-- `b` for STREAM, FILE, ORDER, TABLE, STATES, SCHEDULE or VALUE, which hold bytes
abbrev pub bytes_field : ℕ
bytes_field = 98

-- What a request asks, each part by the field of its kind.
pub record Question : Type 0 where
  pub place : ℕ
  pub hops : ℕ
  pub mode : Mode
  pub room : ℕ
  pub bytes : List ℕ

-- the field of a kind, where these are the kinds of the fields after the first word, and what is absent if none is
unfoldable pub text_of_lem : ℕ → List ℕ → List ℕ → List ℕ → List ℕ
text_of_lem sort kinds line absent = cond (ltb (length (before sort kinds)) (length kinds)) (field (length (before sort kinds) + 1) line) absent

-- `0`
unfoldable pub zero_text : List ℕ
zero_text = 48 ∷ []

-- `shortest`
unfoldable pub shortest_word : List ℕ
shortest_word = 115 ∷ 104 ∷ 111 ∷ 114 ∷ 116 ∷ 101 ∷ 115 ∷ 116 ∷ []

-- `free`
unfoldable pub free_word : List ℕ
free_word = 102 ∷ 114 ∷ 101 ∷ 101 ∷ []

-- MODE is `shortest` or `free`
unfoldable pub mode_named : List ℕ → Option Mode
mode_named word = cond (same_numbers word shortest_word) (Some ShortestPath) (cond (same_numbers word free_word) (Some Free) None)

-- what is asked, where the fields hold this, the last a count of bytes, and these are the bytes; nothing if one is no such field
unfoldable pub question : Option ℕ → Option ℕ → Option Mode → Option ℕ → Option ℕ → List ℕ → Option Question
question (Some place) (Some hops) (Some mode) (Some room) (Some count) given =
    Some (record { place = place; hops = hops; mode = mode; room = room; bytes = given })
question (Some place) (Some hops) (Some mode) (Some room) None given = None
question (Some place) (Some hops) (Some mode) None count given = None
question (Some place) (Some hops) None room count given = None
question (Some place) None mode room count given = None
question None hops mode room count given = None

-- what a line asks, where these are the kinds of the fields after its first word
unfoldable pub question_of : List ℕ → List ℕ → Option Question
question_of kinds line =
    question (number most_byte (text_of_lem place_field kinds line zero_text)) (number most_byte (text_of_lem hops_field kinds line zero_text))
    (mode_named (text_of_lem mode_field kinds line shortest_word)) (number most_room (text_of_lem room_field kinds line zero_text))
    (byte_count (text_of_lem bytes_field kinds line hex.none)) (bytes (text_of_lem bytes_field kinds line hex.none))
