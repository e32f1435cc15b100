-- Numbers in decimal.
-- Assumes nothing.
use Rattle.std.specs.Prelude.{ℕ, zero, suc, ◌+◌, ◌-◌, ◌*◌, ◌/◌, ◌%◌, Bool, true, false, cond, not, ◌&&◌, Option, Some, None, List, [], ◌∷◌, ◌++◌, eqb, ltb, leb}
use Rattle.network.specs.Lists.{every}

-- `0` to `9`
unfoldable pub decimal : ℕ → Bool
decimal c = leb 48 c && leb c 57

-- the number whose digits stand in the text, put behind those of n
unfoldable pub onto : ℕ → List ℕ → ℕ
onto n [] = n
onto n (c ∷ s) = onto (n * 10 + (c - 48)) s

-- a text of one byte or more, and of more only if the first is not `0`
unfoldable pub plain_number : List ℕ → Bool
plain_number [] = false
plain_number (c ∷ []) = true
plain_number (c ∷ d ∷ s) = not (eqb c 48)

-- digits alone, with no zeros in front other than 0 itself
unfoldable pub numeral : List ℕ → Bool
numeral s = plain_number s && every decimal s

-- the number that a field holds, unless it is no number or too large
unfoldable pub number : ℕ → List ℕ → Option ℕ
number most s = cond (numeral s && leb (onto 0 s) most) (Some (onto 0 s)) None

-- the digits of n, of which there are at most so many: those of its tenth part, if it has one, and the last
unfoldable pub final_digits : ℕ → ℕ → List ℕ
final_digits zero n = []
final_digits (suc most) n = cond (ltb n 10) ((48 + n) ∷ []) (final_digits most (n / 10) ++ ((48 + n % 10) ∷ []))

-- a number below 2 ^ 64 in decimal
unfoldable pub number_text : ℕ → List ℕ
number_text n = final_digits 20 n
