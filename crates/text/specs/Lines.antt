-- The lines that answer requests.
-- Assumes nothing.
use Rattle.std.specs.Prelude.{ℕ, List, [], ◌∷◌, ◌++◌}
use Rattle.text.specs.Fields.{space}
use Rattle.text.specs.Numbers.{number_text}
use Rattle.text.specs.Hex.{bytes_text}

-- the byte that ends a line
abbrev pub newline : ℕ
newline = 10

-- `error`
unfoldable pub error_line : List ℕ
error_line = 101 ∷ 114 ∷ 114 ∷ 111 ∷ 114 ∷ newline ∷ []

-- `refused`
unfoldable pub refused_word : List ℕ
refused_word = 114 ∷ 101 ∷ 102 ∷ 117 ∷ 115 ∷ 101 ∷ 100 ∷ []

-- two numbers, one space between, as NUMBER AT
unfoldable pub answer_text : ℕ → ℕ → List ℕ
answer_text number at = number_text number ++ (space ∷ number_text at)

-- NUMBER AT and the line's end
unfoldable pub answer_line : ℕ → ℕ → List ℕ
answer_line number at = answer_text number at ++ (newline ∷ [])

-- a word, NUMBER AT and the line's end
unfoldable pub word_line : List ℕ → ℕ → ℕ → List ℕ
word_line word number at = word ++ (space ∷ answer_line number at)

-- NUMBER AT BUFFER and the line's end
unfoldable pub buffer_line : ℕ → ℕ → List ℕ → List ℕ
buffer_line number at buffer = answer_text number at ++ (space ∷ bytes_text buffer ++ (newline ∷ []))
