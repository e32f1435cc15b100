-- Room for what is read, and for what is put.
-- Assumes nothing.
use Rattle.std.specs.Prelude.{ℕ, List, replicate}

-- so many bytes, all of them the same
unfoldable pub bytes_of_one : ℕ → ℕ → List ℕ
bytes_of_one n byte = replicate n byte
