-- What is written of topologies that were read (01, Topology stream), as one list: the bytes that were read and the bytes that are written, in decimal.
-- A new fact is one line.
-- Assumes nothing.
use Rattle.std.specs.Prelude.{ℕ, Bool, List, [], ◌∷◌, ◌++◌, T}
use Rattle.network.specs.Lists.{every, same_numbers}
use Rattle.stream_rules.specs.Reading.{reading}
use Rattle.stream_rules.specs.Facts.{one, two, three, T-stream}
use Rattle.topology.specs.Written.{written}

pub record Fact : Type 0 where
  pub stream : List ℕ
  pub bytes : List ℕ

unfoldable pub holds : Fact → Bool
holds fact = same_numbers (written (reading fact.stream).topology) fact.bytes

unfoldable pub writes : List ℕ → List ℕ → Fact
writes stream bytes = record { stream = stream; bytes = bytes }

-- T, with the K of a stream that gives none; T with K 7; K behind the routers; K 16; an ID and a cost of different bytes; places as read, the second before the
-- first; costs that differ, the first half's sender first; halves whose costs agree; a link numbered at its second half, and a lone half;
-- a router apart from two others
unfoldable pub facts : List Fact
facts =
    writes T-stream
    (8 ∷ 3 ∷ 1 ∷ 0 ∷ 0 ∷ 0 ∷ 1 ∷ 1 ∷ 0 ∷ 0 ∷ 0 ∷ 2 ∷ 1 ∷ 0 ∷ 0 ∷ 0 ∷ 3 ∷ 2 ∷ 0 ∷ 1 ∷ 0 ∷ 1 ∷ 2 ∷ 1 ∷ 2 ∷ 0 ∷ 1 ∷ 2 ∷ 0 ∷ 2 ∷ 0 ∷ 3 ∷ 3 ∷ [])
    ∷ writes (8 ∷ 7 ∷ T-stream) (8 ∷ 7 ∷ T-stream)
    ∷ writes (one ++ (8 ∷ 7 ∷ 3 ∷ [])) (8 ∷ 7 ∷ 1 ∷ 0 ∷ 0 ∷ 0 ∷ 1 ∷ 3 ∷ [])
    ∷ writes (8 ∷ 16 ∷ one ++ (3 ∷ [])) (8 ∷ 16 ∷ 1 ∷ 0 ∷ 0 ∷ 0 ∷ 1 ∷ 3 ∷ [])
    ∷ writes (1 ∷ 1 ∷ 2 ∷ 3 ∷ 4 ∷ 3 ∷ []) (8 ∷ 3 ∷ 1 ∷ 1 ∷ 2 ∷ 3 ∷ 4 ∷ 3 ∷ [])
    ∷ writes (two ++ (2 ∷ 1 ∷ 0 ∷ 1 ∷ 2 ∷ 3 ∷ [])) (8 ∷ 3 ∷ two ++ (2 ∷ 1 ∷ 0 ∷ 1 ∷ 2 ∷ 3 ∷ []))
    ∷ writes (two ++ (4 ∷ 0 ∷ 1 ∷ 0 ∷ 2 ∷ 4 ∷ 1 ∷ 0 ∷ 1 ∷ 3 ∷ 3 ∷ [])) (8 ∷ 3 ∷ two ++ (4 ∷ 0 ∷ 1 ∷ 0 ∷ 2 ∷ 4 ∷ 1 ∷ 0 ∷ 1 ∷ 3 ∷ 3 ∷ []))
    ∷ writes (two ++ (4 ∷ 1 ∷ 0 ∷ 0 ∷ 2 ∷ 4 ∷ 0 ∷ 1 ∷ 0 ∷ 3 ∷ 3 ∷ [])) (8 ∷ 3 ∷ two ++ (4 ∷ 1 ∷ 0 ∷ 0 ∷ 2 ∷ 4 ∷ 0 ∷ 1 ∷ 0 ∷ 3 ∷ 3 ∷ []))
    ∷ writes (two ++ (4 ∷ 1 ∷ 0 ∷ 0 ∷ 7 ∷ 4 ∷ 0 ∷ 1 ∷ 0 ∷ 7 ∷ 3 ∷ [])) (8 ∷ 3 ∷ two ++ (2 ∷ 1 ∷ 0 ∷ 0 ∷ 7 ∷ 3 ∷ []))
    ∷ writes (three ++ (4 ∷ 0 ∷ 1 ∷ 0 ∷ 5 ∷ 2 ∷ 1 ∷ 2 ∷ 0 ∷ 7 ∷ 4 ∷ 1 ∷ 0 ∷ 0 ∷ 6 ∷ 4 ∷ 2 ∷ 0 ∷ 0 ∷ 9 ∷ 3 ∷ []))
    (8 ∷ 3 ∷ three ++ (2 ∷ 1 ∷ 2 ∷ 0 ∷ 7 ∷ 4 ∷ 0 ∷ 1 ∷ 0 ∷ 5 ∷ 4 ∷ 1 ∷ 0 ∷ 0 ∷ 6 ∷ 3 ∷ []))
    ∷ writes (three ++ (2 ∷ 0 ∷ 1 ∷ 0 ∷ 5 ∷ 3 ∷ [])) (8 ∷ 3 ∷ three ++ (2 ∷ 0 ∷ 1 ∷ 0 ∷ 5 ∷ 3 ∷ []))
    ∷ []

-- The one statement: every fact of the list holds, by computing it.
abbrev pub FactsHold : Type 0
FactsHold = T (every holds facts)
