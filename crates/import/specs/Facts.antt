-- What the program writes for some files, as a list: a new fact is one line. Texts are given byte by byte.
-- Assumes nothing.
use Rattle.std.specs.Prelude.{ℕ, Bool, ◌&&◌, List, [], ◌∷◌, ◌++◌, T, take, set}
use Rattle.network.specs.Lists.{every, same_numbers}
use Rattle.ospf_lsas.specs.Facts.{lsa_1, lsa_3, three}
use Rattle.import.specs.Output.{import_output, complaint}

-- a file, and what is written for it to standard output and to standard error
pub record Fact : Type 0 where
  pub file : List ℕ
  pub writes : List ℕ
  pub complains : List ℕ

unfoldable pub holds : Fact → Bool
holds f = same_numbers (import_output f.file) f.writes && same_numbers (complaint f.file) f.complains

-- `refused ` and what stands behind it
unfoldable pub refused : List ℕ → List ℕ
refused rest = 114 ∷ 101 ∷ 102 ∷ 117 ∷ 115 ∷ 101 ∷ 100 ∷ 32 ∷ rest

-- 02, #106: the three LSAs: K, the routers 1.1.1.1 to 3.3.3.3, the halves between the first two at 10 and 12, those between the last two at 500 and 20, and the
-- end. Then the first and the third alone, which no link joins (02, #107): K, the two routers and the end. Then refusals: `refused 12 0` for nothing,
-- `refused 26 112` where the last byte is missing, `refused 27 0` for a metric changed, and `refused 3 48` for an LSA twice.
unfoldable pub facts : List Fact
facts =
    record {
      file = three;
      writes =
          8 ∷ 3 ∷ 1 ∷ 1 ∷ 1 ∷ 1 ∷ 1 ∷ 1 ∷ 2 ∷ 2 ∷ 2 ∷ 2 ∷ 1 ∷ 3 ∷ 3 ∷ 3 ∷ 3
          ∷ 4 ∷ 0 ∷ 1 ∷ 0 ∷ 10 ∷ 4 ∷ 1 ∷ 0 ∷ 0 ∷ 12 ∷ 4 ∷ 1 ∷ 2 ∷ 1 ∷ 244 ∷ 4 ∷ 2 ∷ 1 ∷ 0 ∷ 20 ∷ 3 ∷ [];
      complains = [];
    }
    ∷ record { file = lsa_1 ++ lsa_3; writes = 8 ∷ 3 ∷ 1 ∷ 1 ∷ 1 ∷ 1 ∷ 1 ∷ 1 ∷ 3 ∷ 3 ∷ 3 ∷ 3 ∷ 3 ∷ []; complains = [] }
    ∷ record { file = []; writes = []; complains = refused (49 ∷ 50 ∷ 32 ∷ 48 ∷ 10 ∷ []) }
    ∷ record { file = take 159 three; writes = []; complains = refused (50 ∷ 54 ∷ 32 ∷ 49 ∷ 49 ∷ 50 ∷ 10 ∷ []) }
    ∷ record { file = set three 47 11; writes = []; complains = refused (50 ∷ 55 ∷ 32 ∷ 48 ∷ 10 ∷ []) }
    ∷ record { file = lsa_1 ++ lsa_1; writes = []; complains = refused (51 ∷ 32 ∷ 52 ∷ 56 ∷ 10 ∷ []) }
    ∷ []

abbrev pub FactsHold : Type 0
FactsHold = T (every holds facts)
