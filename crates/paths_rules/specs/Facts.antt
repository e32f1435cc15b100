-- Paths by hand (02, 103), and what is refused, as lists: the call and what it answers. A new fact is one line.
-- Assumes nothing.
use Rattle.std.specs.Prelude.{ℕ, Bool, ◌&&◌, List, [], ◌∷◌, ◌++◌, map, T, replicate, take}
use Rattle.network.specs.Lists.{numbers_from, below, every, same_numbers}
use Rattle.topology_types.specs.declared.Topology.{Topology}
use Rattle.topology_types.specs.Topology.{held, zeros, network_of}
use Rattle.topology.specs.Written.{joined_over}
use Rattle.order.specs.Facts.{answers, link, T-topology, cut_off}
use Rattle.table_rows.specs.Bytes.{table_bytes}
use Rattle.table.specs.Facts.{lone, lone_table, T-table-0, T-table-free, F-topology, F-table, F-table-1, room, cut_table_0, cut_table_3}
use Rattle.paths_rules.specs.Calls.{writing_paths}

-- Writing the paths over a table from a start into a buffer answers a number, at, and leaves these bytes.
pub record Fact : Type 0 where
  pub topology : Topology
  pub table : List ℕ
  pub start : ℕ
  pub buffer : List ℕ
  pub number : ℕ
  pub at : ℕ
  pub bytes : List ℕ

unfoldable pub writes : Topology → List ℕ → ℕ → List ℕ → ℕ → ℕ → List ℕ → Fact
writes t table u buffer number at bytes =
    record { topology = t; table = table; start = u; buffer = buffer; number = number; at = at; bytes = bytes }

unfoldable pub holds : Fact → Bool
holds f =
    answers (writing_paths f.topology f.table f.start f.buffer).answer f.number f.at
    && same_numbers (writing_paths f.topology f.table f.start f.buffer).buffer f.bytes

-- paths of one to five places, behind each other: the places, unused ones 255
unfoldable pub one : ℕ → List ℕ → List ℕ
one u rest = u ∷ (replicate 63 255 ++ rest)

unfoldable pub two : ℕ → ℕ → List ℕ → List ℕ
two u v rest = u ∷ v ∷ (replicate 62 255 ++ rest)

unfoldable pub three : ℕ → ℕ → ℕ → List ℕ → List ℕ
three u v w rest = u ∷ v ∷ w ∷ (replicate 61 255 ++ rest)

unfoldable pub four : ℕ → ℕ → ℕ → ℕ → List ℕ → List ℕ
four u v w x rest = u ∷ v ∷ w ∷ x ∷ (replicate 60 255 ++ rest)

unfoldable pub five : ℕ → ℕ → ℕ → ℕ → ℕ → List ℕ → List ℕ
five u v w x y rest = u ∷ v ∷ w ∷ x ∷ y ∷ (replicate 59 255 ++ rest)

-- F, d = 0, from 5, with K = 16
unfoldable pub F-5 : List ℕ
F-5 = four 5 4 2 0 (four 5 3 1 0 (five 5 3 1 2 0 (five 5 3 4 2 0 [])))

-- F, with a byte to spare too, T and one router alone; from the destination; K as the table has it; an order in free mode; of T with a fourth router that
-- has no link (02, #107) nothing from a start with no path, in a buffer of 0 bytes too, and from others the paths of their own part; then 14, 15, 21 and
-- 24, each beside what is tested later
unfoldable pub written : List Fact
written =
    writes (F-topology 16) F-table 5 (room 256) 0 256 F-5
    ∷ writes (F-topology 16) F-table 5 (room 257) 0 256 (F-5 ++ (170 ∷ []))
    ∷ writes (F-topology 16) F-table 3 (room 192) 0 192 (three 3 1 0 (four 3 1 2 0 (four 3 4 2 0 [])))
    ∷ writes (F-topology 16) F-table 0 (room 64) 0 64 (one 0 [])
    ∷ writes (F-topology 1) F-table 5 (room 256) 0 256 F-5
    ∷ writes (F-topology 16) F-table-1 5 (room 64) 0 64 (four 5 4 2 0 [])
    ∷ writes T-topology T-table-0 2 (room 128) 0 128 (three 2 1 0 (two 2 0 []))
    ∷ writes T-topology T-table-free 1 (room 128) 0 128 (two 1 0 (three 1 2 0 []))
    ∷ writes lone lone_table 0 (room 64) 0 64 (one 0 [])
    ∷ writes cut_off cut_table_0 3 (room 64) 0 0 (room 64)
    ∷ writes cut_off cut_table_0 3 [] 0 0 []
    ∷ writes cut_off cut_table_0 2 (room 128) 0 128 (three 2 1 0 (two 2 0 []))
    ∷ writes cut_off cut_table_3 3 (room 64) 0 64 (one 3 [])
    ∷ writes cut_off cut_table_3 0 (room 64) 0 0 (room 64)
    ∷ writes zeros T-table-0 3 (room 3) 14 0 (room 3)
    ∷ writes T-topology [] 3 [] 15 3 []
    ∷ writes T-topology T-table-0 255 (room 64) 15 255 (room 64)
    ∷ writes T-topology (take 60 T-table-0) 2 [] 21 60 []
    ∷ writes (F-topology 16) T-table-0 0 (room 64) 21 61 (room 64)
    ∷ writes (F-topology 16) F-table 5 (room 255) 24 256 (room 255)
    ∷ writes lone lone_table 0 [] 24 64 []
    ∷ []

-- Eleven routers, each linked to every other, and a twelfth that is linked to the first and the last of them. By the order of places there are 2 ^ (r - 1)
-- paths from rank r, 1 to 10, so 512 from place 10 and one more from place 11.
unfoldable pub twelve : Topology
twelve =
    held (record {
      ids = numbers_from 20 12;
      links = joined_over (λ v. map (λ u. link u v 1) (below v)) (below 11) ++ (link 0 11 1 ∷ link 10 11 1 ∷ []);
      limit = 16;
    })

unfoldable pub twelve_table : List ℕ
twelve_table = table_bytes (network_of twelve) 0 16 (below 12)

-- The two statements: every fact of the list holds, by computing it; and 512 paths are not refused with 25, while 513 are.
abbrev pub WrittenHold : Type 0
WrittenHold = T (every holds written)

abbrev pub MostHold : Type 0
MostHold = T (holds (writes twelve twelve_table 10 [] 24 32768 [])) × T (holds (writes twelve twelve_table 11 [] 25 11 []))
