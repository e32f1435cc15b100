-- The program's output for some streams, as a list: a new fact is one line. Texts are given byte by byte.
-- Assumes nothing.
use Rattle.std.specs.Prelude.{ℕ, Bool, List, [], ◌∷◌, ◌++◌, T}
use Rattle.network.specs.Lists.{every, same_numbers}
use Rattle.stream_rules.specs.Facts.{routers, T-stream}
use Rattle.paths_lines.specs.Facts.{T-0, T-1, T-2, lone_0}
use Rattle.routes.specs.Output.{routes_output}

-- a stream, and what is printed for it
pub record Fact : Type 0 where
  pub stream : List ℕ
  pub prints : List ℕ

unfoldable pub holds : Fact → Bool
holds f = same_numbers (routes_output f.stream) f.prints

-- `refused ` and what stands behind it
unfoldable pub refused : List ℕ → List ℕ
refused rest = 114 ∷ 101 ∷ 102 ∷ 117 ∷ 115 ∷ 101 ∷ 100 ∷ 32 ∷ rest

-- 02, 103: T's whole output, by its listing; one router alone; two routers without a link, of which each has a path to itself alone (02, #107); then
-- refusals: `refused 1 0` for nothing, `refused 11 31` for a byte after T
unfoldable pub facts : List Fact
facts =
    record { stream = T-stream; prints = T-0 ++ (T-1 ++ T-2) }
    ∷ record { stream = routers 1 ++ (3 ∷ []); prints = lone_0 }
    ∷ record { stream = routers 2 ++ (3 ∷ []); prints = lone_0 ++ (49 ∷ 32 ∷ 49 ∷ 32 ∷ 58 ∷ 32 ∷ 49 ∷ 10 ∷ []) }
    ∷ record { stream = []; prints = refused (49 ∷ 32 ∷ 48 ∷ 10 ∷ []) }
    ∷ record { stream = T-stream ++ (0 ∷ []); prints = refused (49 ∷ 49 ∷ 32 ∷ 51 ∷ 49 ∷ 10 ∷ []) }
    ∷ []

abbrev pub FactsHold : Type 0
FactsHold = T (every holds facts)
