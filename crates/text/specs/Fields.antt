-- The fields of a request: a line is cut at each space, so that two spaces have an empty field between them.
-- Assumes nothing.
use Rattle.std.specs.Prelude.{ℕ, zero, suc, Bool, cond, ◌&&◌, List, [], ◌∷◌, eqb}
use Rattle.network.specs.Lists.{same_numbers}

-- the byte that parts two fields
abbrev pub space : ℕ
space = 32

-- what stands before the first byte that is `stop`, all of the text if none is
unfoldable pub before : ℕ → List ℕ → List ℕ
before stop [] = []
before stop (c ∷ s) = cond (eqb c stop) [] (c ∷ before stop s)

-- what stands after so many spaces, nothing if there are fewer
unfoldable pub after : ℕ → List ℕ → List ℕ
after n [] = []
after zero (c ∷ s) = c ∷ s
after (suc n) (c ∷ s) = cond (eqb c space) (after n s) (after (suc n) s)

-- the field with this number, from 0
unfoldable pub field : ℕ → List ℕ → List ℕ
field n line = before space (after n line)

-- how many spaces the text has
unfoldable pub spaces : List ℕ → ℕ
spaces [] = 0
spaces (c ∷ s) = cond (eqb c space) (suc (spaces s)) (spaces s)

-- the line begins with this word, and so many fields follow it
unfoldable pub asks : List ℕ → ℕ → List ℕ → Bool
asks word fields line = same_numbers (field 0 line) word && eqb (spaces line) fields
