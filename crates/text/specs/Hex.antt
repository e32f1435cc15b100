-- Bytes in lowercase hex, `-` for none.
-- Assumes nothing.
use Rattle.std.specs.Prelude.{ℕ, ◌+◌, ◌-◌, ◌*◌, ◌/◌, ◌%◌, Bool, cond, ◌&&◌, ◌||◌, Option, Some, None, List, [], ◌∷◌, eqb, ltb, leb, length}
use Rattle.network.specs.Lists.{every, same_numbers}
use Rattle.text.specs.Numbers.{decimal}

-- `-`, for no bytes
unfoldable pub none : List ℕ
none = 45 ∷ []

-- `0` to `9` and `a` to `f`
unfoldable pub hexadecimal : ℕ → Bool
hexadecimal c = decimal c || (leb 97 c && leb c 102)

-- what such a digit stands for
unfoldable pub worth : ℕ → ℕ
worth c = cond (leb c 57) (c - 48) (c - 87)

-- the bytes of which the text has two digits each, the high one first
unfoldable pub bytes_of : List ℕ → List ℕ
bytes_of [] = []
bytes_of (c ∷ []) = []
bytes_of (c ∷ d ∷ s) = (worth c * 16 + worth d) ∷ bytes_of s

-- digits alone, an even number of them, two or more
unfoldable pub in_hex : List ℕ → Bool
in_hex s = leb 2 (length s) && eqb (length s % 2) 0 && every hexadecimal s

-- how many bytes a field holds, unless it is neither hex nor `-`
unfoldable pub byte_count : List ℕ → Option ℕ
byte_count s = cond (same_numbers s none) (Some 0) (cond (in_hex s) (Some (length s / 2)) None)

-- the bytes that a field holds
unfoldable pub bytes : List ℕ → List ℕ
bytes s = cond (in_hex s) (bytes_of s) []

-- the digit that stands for a number below 16
unfoldable pub digit : ℕ → ℕ
digit n = cond (ltb n 10) (48 + n) (87 + n)

-- two digits for each byte
unfoldable pub hex_of : List ℕ → List ℕ
hex_of [] = []
hex_of (b ∷ bs) = digit (b / 16) ∷ digit (b % 16) ∷ hex_of bs

-- bytes as a field
unfoldable pub bytes_text : List ℕ → List ℕ
bytes_text [] = none
bytes_text (b ∷ bs) = hex_of (b ∷ bs)
