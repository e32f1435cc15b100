-- The program's output for some streams, as a list: a new fact is one line. Texts are given byte by byte.
-- Assumes nothing.
use Rattle.std.specs.Prelude.{ℕ, Bool, List, [], ◌∷◌, ◌++◌, T, take}
use Rattle.network.specs.Lists.{every, same_numbers}
use Rattle.stream_rules.specs.Facts.{routers, T-stream}
use Rattle.coverage.specs.Output.{coverage_output}

-- a stream, and what is printed for it
pub record Fact : Type 0 where
  pub stream : List ℕ
  pub prints : List ℕ

unfoldable pub holds : Fact → Bool
holds f = same_numbers (coverage_output f.stream) f.prints

-- `refused ` and what stands behind it
unfoldable pub refused : List ℕ → List ℕ
refused rest = 114 ∷ 101 ∷ 102 ∷ 117 ∷ 115 ∷ 101 ∷ 100 ∷ 32 ∷ rest

-- 02, #102: T's whole output, `3 6` and three times `3 3`, by its listing; one router, `0 0` twice; #107: T and a fourth router, which has no link, `3 12`,
-- three times `3 3` and `0 3`, and two routers without a link, `0 2` and `0 0` twice; then refusals: `refused 1 0` for nothing, `refused 11 31` for a byte
-- after T
unfoldable pub facts : List Fact
facts =
    record {
      stream = T-stream;
      prints = 51 ∷ 32 ∷ 54 ∷ 10 ∷ 51 ∷ 32 ∷ 51 ∷ 10 ∷ 51 ∷ 32 ∷ 51 ∷ 10 ∷ 51 ∷ 32 ∷ 51 ∷ 10 ∷ [];
    }
    ∷ record { stream = routers 1 ++ (3 ∷ []); prints = 48 ∷ 32 ∷ 48 ∷ 10 ∷ 48 ∷ 32 ∷ 48 ∷ 10 ∷ [] }
    ∷ record {
      stream = take 30 T-stream ++ (1 ∷ 0 ∷ 0 ∷ 0 ∷ 4 ∷ 3 ∷ []);
      prints = 51 ∷ 32 ∷ 49 ∷ 50 ∷ 10 ∷ 51 ∷ 32 ∷ 51 ∷ 10 ∷ 51 ∷ 32 ∷ 51 ∷ 10 ∷ 51 ∷ 32 ∷ 51 ∷ 10 ∷ 48 ∷ 32 ∷ 51 ∷ 10 ∷ [];
    }
    ∷ record { stream = routers 2 ++ (3 ∷ []); prints = 48 ∷ 32 ∷ 50 ∷ 10 ∷ 48 ∷ 32 ∷ 48 ∷ 10 ∷ 48 ∷ 32 ∷ 48 ∷ 10 ∷ [] }
    ∷ record { stream = []; prints = refused (49 ∷ 32 ∷ 48 ∷ 10 ∷ []) }
    ∷ record { stream = T-stream ++ (0 ∷ []); prints = refused (49 ∷ 49 ∷ 32 ∷ 51 ∷ 49 ∷ 10 ∷ []) }
    ∷ []

abbrev pub FactsHold : Type 0
FactsHold = T (every holds facts)
