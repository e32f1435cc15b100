-- What `coverage` answers for some topologies, and `te` for some values, as lists: a new fact is one line. Texts are given byte by byte: 48 is `0`, 32 the
-- space, 10 the line's end.
-- Assumes nothing.
use Rattle.std.specs.Prelude.{ℕ, Bool, List, [], ◌∷◌, T}
use Rattle.network.specs.Lists.{every, same_numbers}
use Rattle.topology_types.specs.declared.Topology.{Topology}
use Rattle.topology_types.specs.Topology.{zeros}
use Rattle.order.specs.Facts.{T-topology}
use Rattle.table.specs.Facts.{lone}
use Rattle.te.specs.Cost.{costing}
use Rattle.coverage_rules.specs.Coverage.{coverage}
use Rattle.console_replies.specs.Calls.{coverage_line, cost_line}

pub record Fact : Type 0 where
  pub topology : Topology
  pub line : List ℕ

unfoldable pub holds : Fact → Bool
holds f = same_numbers (coverage_line (coverage f.topology)) f.line

-- `14 0` where it is refused; one router, `0 0` and its figures `0 0 0 0`; T, `0 0` and `3 6 3 3 3 3 3 3`
unfoldable pub facts : List Fact
facts =
    record { topology = zeros; line = 49 ∷ 52 ∷ 32 ∷ 48 ∷ 10 ∷ [] }
    ∷ record { topology = lone; line = 48 ∷ 32 ∷ 48 ∷ 32 ∷ 48 ∷ 32 ∷ 48 ∷ 32 ∷ 48 ∷ 32 ∷ 48 ∷ 10 ∷ [] }
    ∷ record {
      topology = T-topology;
      line =
          48 ∷ 32 ∷ 48 ∷ 32 ∷ 51 ∷ 32 ∷ 54 ∷ 32 ∷ 51 ∷ 32 ∷ 51 ∷ 32 ∷ 51 ∷ 32 ∷ 51 ∷ 32 ∷ 51 ∷ 32 ∷ 51 ∷ 10 ∷ [];
    }
    ∷ []

abbrev pub FactsHold : Type 0
FactsHold = T (every holds facts)

pub record LineFact : Type 0 where
  pub value : List ℕ
  pub line : List ℕ

unfoldable pub line_holds : LineFact → Bool
line_holds f = same_numbers (cost_line (costing f.value)) f.line

-- no bytes, `29 0` and zeros; 1,250,000 bytes per second, `0 0 10 0 0 1 1234736768 0 0`; metric 7, `0 0 7 1 7 0 0 0 0`; metric 0 and 1,250,000, where the
-- metric is present and not used, `0 0 10 1 0 1 1234736768 0 0`; metric 7, 1,250,000 and 1,000,000 reservable, `0 0 7 1 7 1 1234736768 1 1232348160`; metric 7
-- and a byte more, `29 8` and zeros
unfoldable pub line_facts : List LineFact
line_facts =
    record { value = []; line = 50 ∷ 57 ∷ 32 ∷ 48 ∷ 32 ∷ 48 ∷ 32 ∷ 48 ∷ 32 ∷ 48 ∷ 32 ∷ 48 ∷ 32 ∷ 48 ∷ 32 ∷ 48 ∷ 32 ∷ 48 ∷ 10 ∷ [] }
    ∷ record {
      value = 0 ∷ 6 ∷ 0 ∷ 4 ∷ 73 ∷ 152 ∷ 150 ∷ 128 ∷ [];
      line =
          48 ∷ 32 ∷ 48 ∷ 32 ∷ 49 ∷ 48 ∷ 32 ∷ 48 ∷ 32 ∷ 48 ∷ 32 ∷ 49 ∷ 32 ∷ 49 ∷ 50 ∷ 51 ∷ 52 ∷ 55 ∷ 51 ∷ 54 ∷ 55 ∷ 54 ∷ 56 ∷
          32 ∷ 48 ∷ 32 ∷ 48 ∷ 10 ∷ [];
    }
    ∷ record {
      value = 0 ∷ 5 ∷ 0 ∷ 4 ∷ 0 ∷ 0 ∷ 0 ∷ 7 ∷ [];
      line = 48 ∷ 32 ∷ 48 ∷ 32 ∷ 55 ∷ 32 ∷ 49 ∷ 32 ∷ 55 ∷ 32 ∷ 48 ∷ 32 ∷ 48 ∷ 32 ∷ 48 ∷ 32 ∷ 48 ∷ 10 ∷ [];
    }
    ∷ record {
      value = 0 ∷ 5 ∷ 0 ∷ 4 ∷ 0 ∷ 0 ∷ 0 ∷ 0 ∷ 0 ∷ 6 ∷ 0 ∷ 4 ∷ 73 ∷ 152 ∷ 150 ∷ 128 ∷ [];
      line =
          48 ∷ 32 ∷ 48 ∷ 32 ∷ 49 ∷ 48 ∷ 32 ∷ 49 ∷ 32 ∷ 48 ∷ 32 ∷ 49 ∷ 32 ∷ 49 ∷ 50 ∷ 51 ∷ 52 ∷ 55 ∷ 51 ∷ 54 ∷ 55 ∷ 54 ∷ 56 ∷
          32 ∷ 48 ∷ 32 ∷ 48 ∷ 10 ∷ [];
    }
    ∷ record {
      value = 0 ∷ 5 ∷ 0 ∷ 4 ∷ 0 ∷ 0 ∷ 0 ∷ 7 ∷ 0 ∷ 6 ∷ 0 ∷ 4 ∷ 73 ∷ 152 ∷ 150 ∷ 128 ∷ 0 ∷ 7 ∷ 0 ∷ 4 ∷ 73 ∷ 116 ∷ 36 ∷ 0 ∷ [];
      line =
          48 ∷ 32 ∷ 48 ∷ 32 ∷ 55 ∷ 32 ∷ 49 ∷ 32 ∷ 55 ∷ 32 ∷ 49 ∷ 32 ∷ 49 ∷ 50 ∷ 51 ∷ 52 ∷ 55 ∷ 51 ∷ 54 ∷ 55 ∷ 54 ∷ 56 ∷ 32 ∷ 49 ∷ 32 ∷ 49 ∷ 50 ∷ 51 ∷
          50 ∷ 51 ∷ 52 ∷ 56 ∷ 49 ∷ 54 ∷ 48 ∷ 10 ∷ [];
    }
    ∷ record {
      value = 0 ∷ 5 ∷ 0 ∷ 4 ∷ 0 ∷ 0 ∷ 0 ∷ 7 ∷ 0 ∷ [];
      line = 50 ∷ 57 ∷ 32 ∷ 56 ∷ 32 ∷ 48 ∷ 32 ∷ 48 ∷ 32 ∷ 48 ∷ 32 ∷ 48 ∷ 32 ∷ 48 ∷ 32 ∷ 48 ∷ 32 ∷ 48 ∷ 10 ∷ [];
    }
    ∷ []

abbrev pub LinesHold : Type 0
LinesHold = T (every line_holds line_facts)
