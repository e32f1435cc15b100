-- What is proved of what the program writes, for every file: the line of a refused one, byte by byte, and the stream of one that is imported.
-- Assumes nothing.
use Rattle.std.specs.Prelude.{ℕ, ◌≤◌, ◌<◌, List, [], ◌∷◌, ◌++◌, ◌≢◌, ◌≡◌, length, take}
use Rattle.stream_rules.specs.Reading.{reading}
use Rattle.stream_rules.specs.Theorems.{Bytes}
use Rattle.topology.specs.Written.{written}
use Rattle.text.specs.Numbers.{number_text}
use Rattle.ospf.specs.Import.{importing}
use Rattle.import.specs.Output.{import_output, complaint}

-- 02, #106: a file of at most 262,144 bytes is imported. A refused one writes nothing to standard output, and one line to standard error: `refused`, number,
-- at. Any other writes the stream of the imported topology to standard output, at most 2,883 bytes, and nothing to standard error; reading that stream, as the
-- listing does, returns what importing returned. A longer file is refused by the line `too long`.
pub record Imports (file : List ℕ) : Type 0 where
  pub refused : length file ≤ 262144 → (importing file).answer.number ≢ 0 →
      (import_output file ≡ [])
      × (complaint file
      ≡ 114 ∷ 101 ∷ 102 ∷ 117 ∷ 115 ∷ 101 ∷ 100 ∷ 32 ∷ (number_text (importing file).answer.number
      ++ (32 ∷ (number_text (importing file).answer.at ++ (10 ∷ [])))))
  pub imported : length file ≤ 262144 → (importing file).answer.number ≡ 0 →
      (import_output file ≡ written (importing file).topology) × (complaint file ≡ []) × (length (import_output file) ≤ 2883)
  pub read_back : length file ≤ 262144 → (importing file).answer.number ≡ 0 → reading (import_output file) ≡ importing file
  pub too-long : 262144 < length file →
      (import_output file ≡ []) × (complaint file ≡ 116 ∷ 111 ∷ 111 ∷ 32 ∷ 108 ∷ 111 ∷ 110 ∷ 103 ∷ 10 ∷ [])

abbrev pub ImportsRight : Type 0
ImportsRight = (file : List ℕ) → Bytes file → Imports file

-- 02, #106: not cut. The first 262,145 bytes of an input, all that is read of it, write what the whole input does.
abbrev pub NotCut : Type 0
NotCut = (input : List ℕ) → (import_output (take 262145 input) ≡ import_output input) × (complaint (take 262145 input) ≡ complaint input)
