-- Listings by hand, and what is refused, as a list: the call and what it answers. A new fact is one line. Texts are given byte by byte: 48 is `0`, 32
-- the space, 45 `-` and 10 the line's end.
-- Assumes nothing.
use Rattle.std.specs.Prelude.{ℕ, ◌+◌, Bool, ◌&&◌, List, [], ◌∷◌, ◌++◌, T, replicate}
use Rattle.network.specs.Lists.{every, same_numbers}
use Rattle.topology_types.specs.declared.Topology.{Topology}
use Rattle.topology_types.specs.Topology.{held, zeros}
use Rattle.order.specs.Facts.{answers, link, T-topology, cut_off, two_parts, pair}
use Rattle.table.specs.Facts.{lone, F-topology}
use Rattle.listing_rules.specs.Listing.{listing, all_lines}

pub data Fact : Type 0 where
  -- listing a destination into a buffer answers a number, at, and leaves these bytes
  lists : Topology → ℕ → List ℕ → ℕ → ℕ → List ℕ → Fact
  -- the lines of all destinations
  all : Topology → List ℕ → Fact

unfoldable pub holds : Fact → Bool
holds (lists t d buffer number at bytes) = answers (listing t d buffer).answer number at && same_numbers (listing t d buffer).buffer bytes
holds (all t text) = same_numbers (all_lines t) text

-- 01, Two networks by hand: T's lines for destination 0
unfoldable pub T-0 : List ℕ
T-0 =
    48 ∷ 32 ∷ 48 ∷ 32 ∷ 48 ∷ 32 ∷ 48 ∷ 32 ∷ 45 ∷ 10
    ∷ 48 ∷ 32 ∷ 49 ∷ 32 ∷ 49 ∷ 32 ∷ 49 ∷ 32 ∷ 48 ∷ 10
    ∷ 48 ∷ 32 ∷ 50 ∷ 32 ∷ 50 ∷ 32 ∷ 50 ∷ 32 ∷ 49 ∷ 32 ∷ 48 ∷ 10 ∷ []

-- 01, Two networks by hand: T's lines for destination 1
unfoldable pub T-1 : List ℕ
T-1 =
    49 ∷ 32 ∷ 48 ∷ 32 ∷ 50 ∷ 32 ∷ 50 ∷ 32 ∷ 49 ∷ 32 ∷ 50 ∷ 10
    ∷ 49 ∷ 32 ∷ 49 ∷ 32 ∷ 48 ∷ 32 ∷ 48 ∷ 32 ∷ 45 ∷ 10
    ∷ 49 ∷ 32 ∷ 50 ∷ 32 ∷ 49 ∷ 32 ∷ 49 ∷ 32 ∷ 49 ∷ 10 ∷ []

-- 01, Two networks by hand: T's lines for destination 2
unfoldable pub T-2 : List ℕ
T-2 =
    50 ∷ 32 ∷ 48 ∷ 32 ∷ 50 ∷ 32 ∷ 50 ∷ 32 ∷ 49 ∷ 32 ∷ 50 ∷ 10
    ∷ 50 ∷ 32 ∷ 49 ∷ 32 ∷ 49 ∷ 32 ∷ 49 ∷ 32 ∷ 50 ∷ 10
    ∷ 50 ∷ 32 ∷ 50 ∷ 32 ∷ 48 ∷ 32 ∷ 48 ∷ 32 ∷ 45 ∷ 10 ∷ []

-- 01, Two networks by hand: F's lines for destination 0, by its order, rows and greatest hops
unfoldable pub F-0 : List ℕ
F-0 =
    48 ∷ 32 ∷ 48 ∷ 32 ∷ 48 ∷ 32 ∷ 48 ∷ 32 ∷ 45 ∷ 10
    ∷ 48 ∷ 32 ∷ 49 ∷ 32 ∷ 50 ∷ 32 ∷ 50 ∷ 32 ∷ 48 ∷ 32 ∷ 50 ∷ 10
    ∷ 48 ∷ 32 ∷ 50 ∷ 32 ∷ 49 ∷ 32 ∷ 49 ∷ 32 ∷ 48 ∷ 10
    ∷ 48 ∷ 32 ∷ 51 ∷ 32 ∷ 52 ∷ 32 ∷ 51 ∷ 32 ∷ 49 ∷ 32 ∷ 52 ∷ 10
    ∷ 48 ∷ 32 ∷ 52 ∷ 32 ∷ 51 ∷ 32 ∷ 50 ∷ 32 ∷ 50 ∷ 10
    ∷ 48 ∷ 32 ∷ 53 ∷ 32 ∷ 53 ∷ 32 ∷ 52 ∷ 32 ∷ 52 ∷ 32 ∷ 51 ∷ 10 ∷ []

-- the same with K = 1
unfoldable pub F-0-limited : List ℕ
F-0-limited =
    48 ∷ 32 ∷ 48 ∷ 32 ∷ 48 ∷ 32 ∷ 48 ∷ 32 ∷ 45 ∷ 10
    ∷ 48 ∷ 32 ∷ 49 ∷ 32 ∷ 50 ∷ 32 ∷ 49 ∷ 32 ∷ 48 ∷ 10
    ∷ 48 ∷ 32 ∷ 50 ∷ 32 ∷ 49 ∷ 32 ∷ 49 ∷ 32 ∷ 48 ∷ 10
    ∷ 48 ∷ 32 ∷ 51 ∷ 32 ∷ 52 ∷ 32 ∷ 50 ∷ 32 ∷ 49 ∷ 10
    ∷ 48 ∷ 32 ∷ 52 ∷ 32 ∷ 51 ∷ 32 ∷ 50 ∷ 32 ∷ 50 ∷ 10
    ∷ 48 ∷ 32 ∷ 53 ∷ 32 ∷ 53 ∷ 32 ∷ 51 ∷ 32 ∷ 52 ∷ 10 ∷ []

-- eleven routers in a line, so that two digits stand in every kind of field
unfoldable pub eleven : Topology
eleven =
    held (record {
      ids = 1 ∷ 2 ∷ 3 ∷ 4 ∷ 5 ∷ 6 ∷ 7 ∷ 8 ∷ 9 ∷ 10 ∷ 11 ∷ [];
      links =
          link 0 1 1 ∷ link 1 2 1 ∷ link 2 3 1 ∷ link 3 4 1 ∷ link 4 5 1 ∷ link 5 6 1 ∷ link 6 7 1 ∷ link 7 8 1 ∷ link 8 9 1 ∷ link 9 10 1 ∷ [];
      limit = 3;
    })

-- its lines for the last of them
unfoldable pub eleven_10 : List ℕ
eleven_10 =
    49 ∷ 48 ∷ 32 ∷ 48 ∷ 32 ∷ 49 ∷ 48 ∷ 32 ∷ 49 ∷ 48 ∷ 32 ∷ 49 ∷ 10
    ∷ 49 ∷ 48 ∷ 32 ∷ 49 ∷ 32 ∷ 57 ∷ 32 ∷ 57 ∷ 32 ∷ 50 ∷ 10
    ∷ 49 ∷ 48 ∷ 32 ∷ 50 ∷ 32 ∷ 56 ∷ 32 ∷ 56 ∷ 32 ∷ 51 ∷ 10
    ∷ 49 ∷ 48 ∷ 32 ∷ 51 ∷ 32 ∷ 55 ∷ 32 ∷ 55 ∷ 32 ∷ 52 ∷ 10
    ∷ 49 ∷ 48 ∷ 32 ∷ 52 ∷ 32 ∷ 54 ∷ 32 ∷ 54 ∷ 32 ∷ 53 ∷ 10
    ∷ 49 ∷ 48 ∷ 32 ∷ 53 ∷ 32 ∷ 53 ∷ 32 ∷ 53 ∷ 32 ∷ 54 ∷ 10
    ∷ 49 ∷ 48 ∷ 32 ∷ 54 ∷ 32 ∷ 52 ∷ 32 ∷ 52 ∷ 32 ∷ 55 ∷ 10
    ∷ 49 ∷ 48 ∷ 32 ∷ 55 ∷ 32 ∷ 51 ∷ 32 ∷ 51 ∷ 32 ∷ 56 ∷ 10
    ∷ 49 ∷ 48 ∷ 32 ∷ 56 ∷ 32 ∷ 50 ∷ 32 ∷ 50 ∷ 32 ∷ 57 ∷ 10
    ∷ 49 ∷ 48 ∷ 32 ∷ 57 ∷ 32 ∷ 49 ∷ 32 ∷ 49 ∷ 32 ∷ 49 ∷ 48 ∷ 10
    ∷ 49 ∷ 48 ∷ 32 ∷ 49 ∷ 48 ∷ 32 ∷ 48 ∷ 32 ∷ 48 ∷ 32 ∷ 45 ∷ 10 ∷ []

-- one router alone
unfoldable pub lone_0 : List ℕ
lone_0 = 48 ∷ 32 ∷ 48 ∷ 32 ∷ 48 ∷ 32 ∷ 48 ∷ 32 ∷ 45 ∷ 10 ∷ []

-- 02, #107: the line of a router that has no path to the destination, both of one digit: `255 255 -` behind them
unfoldable pub no_path : ℕ → ℕ → List ℕ
no_path d u = (48 + d) ∷ 32 ∷ (48 + u) ∷ 32 ∷ 50 ∷ 53 ∷ 53 ∷ 32 ∷ 50 ∷ 53 ∷ 53 ∷ 32 ∷ 45 ∷ 10 ∷ []

-- the line of the destination itself, and that of a router whose one next hop it is
unfoldable pub itself : ℕ → List ℕ
itself d = (48 + d) ∷ 32 ∷ (48 + d) ∷ 32 ∷ 48 ∷ 32 ∷ 48 ∷ 32 ∷ 45 ∷ 10 ∷ []

unfoldable pub next : ℕ → ℕ → List ℕ
next d u = (48 + d) ∷ 32 ∷ (48 + u) ∷ 32 ∷ 49 ∷ 32 ∷ 49 ∷ 32 ∷ (48 + d) ∷ 10 ∷ []

-- T with a fourth router that has no link: T's lines, each destination's with one more; and those for the fourth, which no other reaches
unfoldable pub cut_off_3 : List ℕ
cut_off_3 = no_path 3 0 ++ (no_path 3 1 ++ (no_path 3 2 ++ itself 3))

unfoldable pub cut_off_all : List ℕ
cut_off_all = T-0 ++ (no_path 0 3 ++ (T-1 ++ (no_path 1 3 ++ (T-2 ++ (no_path 2 3 ++ cut_off_3)))))

-- two pairs of routers apart
unfoldable pub two_parts_0 : List ℕ
two_parts_0 = itself 0 ++ (next 0 1 ++ (no_path 0 2 ++ no_path 0 3))

unfoldable pub two_parts_1 : List ℕ
two_parts_1 = next 1 0 ++ (itself 1 ++ (no_path 1 2 ++ no_path 1 3))

unfoldable pub two_parts_2 : List ℕ
two_parts_2 = no_path 2 0 ++ (no_path 2 1 ++ (itself 2 ++ next 2 3))

unfoldable pub two_parts_3 : List ℕ
two_parts_3 = no_path 3 0 ++ (no_path 3 1 ++ (next 3 2 ++ itself 3))

-- two routers without a link
unfoldable pub pair_all : List ℕ
pair_all = itself 0 ++ (no_path 0 1 ++ (no_path 1 0 ++ itself 1))

unfoldable pub room : ℕ → List ℕ
room n = replicate n 170

-- T's whole output, F's lines for destination 0, one router alone, eleven in a line; parts apart, whole and for a destination; then 14, 15 and 24, each beside
-- what is tested later, and a buffer with a byte to spare
unfoldable pub facts : List Fact
facts =
    all T-topology (T-0 ++ (T-1 ++ T-2))
    ∷ all lone lone_0
    ∷ lists T-topology 0 (room 32) 0 32 T-0
    ∷ lists T-topology 1 (room 33) 0 32 (T-1 ++ (170 ∷ []))
    ∷ lists (F-topology 16) 0 (room 66) 0 66 F-0
    ∷ lists (F-topology 1) 0 (room 60) 0 60 F-0-limited
    ∷ lists eleven 10 (room 125) 0 125 eleven_10
    ∷ all cut_off cut_off_all
    ∷ all two_parts (two_parts_0 ++ (two_parts_1 ++ (two_parts_2 ++ two_parts_3)))
    ∷ all pair pair_all
    ∷ lists cut_off 3 (room 53) 0 52 (cut_off_3 ++ (170 ∷ []))
    ∷ lists cut_off 3 (room 51) 24 52 (room 51)
    ∷ lists cut_off 4 (room 99) 15 4 (room 99)
    ∷ lists zeros 0 (room 3) 14 0 (room 3)
    ∷ lists zeros 5 [] 14 0 []
    ∷ lists T-topology 3 (room 99) 15 3 (room 99)
    ∷ lists T-topology 255 [] 15 255 []
    ∷ lists T-topology 0 (room 31) 24 32 (room 31)
    ∷ lists T-topology 0 [] 24 32 []
    ∷ []

abbrev pub FactsHold : Type 0
FactsHold = T (every holds facts)
