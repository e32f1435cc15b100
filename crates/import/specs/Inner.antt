-- What a private function of the import program promises.
-- Assumes nothing.
use Rattle.std.specs.Prelude.{ℕ, ◌≤◌, Result, Ok, Err, List, ◌≡◌, length, take}
use Rattle.topology_types.specs.Outcome.{refused}
use Rattle.topology_types.specs.declared.Refusal.{Refusal}
use Rattle.topology.specs.Written.{written}
use Rattle.ospf.specs.Import.{importing}

-- importing the file was refused so, or the stream of its topology stands at the start of the buffer, with so many bytes
abbrev pub StreamPut : List ℕ → Result ℕ Refusal → List ℕ → Type 0
StreamPut file (Ok end) stream = ((importing file).answer.number ≡ 0) × (take end stream ≡ written (importing file).topology) × (end ≤ length stream)
StreamPut file (Err r) stream = (importing file).answer ≡ refused r
