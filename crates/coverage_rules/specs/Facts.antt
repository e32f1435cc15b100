-- Coverage figures by hand, as a list: a new fact is one line. Texts are given byte by byte: 48 is `0`, 32 the space and 10 the line's end.
-- Assumes nothing.
use Rattle.std.specs.Prelude.{ℕ, Bool, ◌&&◌, List, [], ◌∷◌, T, eqb, length, get_or}
use Rattle.network.specs.Lists.{every, same_numbers}
use Rattle.topology_types.specs.declared.Topology.{Topology}
use Rattle.topology_types.specs.Topology.{zeros}
use Rattle.order.specs.Facts.{answers, T-topology, cut_off, two_parts, pair}
use Rattle.table.specs.Facts.{lone, F-topology}
use Rattle.coverage_rules.specs.Coverage.{pairs_to, covered_among, coverage}
use Rattle.coverage_rules.specs.Printed.{fraction_text, numbers, coverage_text}

pub data Fact : Type 0 where
  -- for a destination so many of so many pairs have two or more next hops, and its rows list so many, over so many links
  to_one : Topology → ℕ → ℕ → ℕ → ℕ → ℕ → Fact
  -- the call answers a number, at, and these numbers, in the order in which those of a sound topology are printed
  counts : Topology → ℕ → ℕ → List ℕ → Fact
  -- these lines are printed
  prints : Topology → List ℕ → Fact
  -- a line has one number over another
  spells : ℕ → ℕ → List ℕ → Fact

unfoldable pub holds : Fact → Bool
holds (to_one t d covered pairs listed links) =
    (eqb (covered_among t (pairs_to t.routers d)) covered && eqb (length (pairs_to t.routers d)) pairs)
    && (eqb (get_or (coverage t).listed d 0) listed && eqb (coverage t).links links)
holds (counts t number at all) = answers (coverage t).answer number at && same_numbers (numbers (coverage t)) all
holds (prints t text) = same_numbers (coverage_text (coverage t)) text
holds (spells part whole text) = same_numbers (fraction_text 10 (record { part = part; whole = whole })) text

-- 02, #102: F for d = 0, 3 of 5 pairs and 8 over 8, and all its figures; one router; T's whole output, by its listing; F with K = 2, which cuts a row for d = 1 and for
-- d = 2, and with K = 1, where no pair has two; parts apart (#107): the pairs of T and a router without a link, which are not covered with it or from it, two
-- pairs of routers, and two routers without a link; four digits, not reduced; 14
unfoldable pub facts : List Fact
facts =
    to_one (F-topology 3) 0 3 5 8 8
    ∷ counts (F-topology 3) 0 0 (16 ∷ 30 ∷ 8 ∷ 8 ∷ 8 ∷ 8 ∷ 8 ∷ 8 ∷ 8 ∷ 8 ∷ 8 ∷ 8 ∷ 8 ∷ 8 ∷ [])
    ∷ to_one (F-topology 1) 0 0 5 5 8
    ∷ prints lone (48 ∷ 32 ∷ 48 ∷ 10 ∷ 48 ∷ 32 ∷ 48 ∷ 10 ∷ [])
    ∷ prints T-topology (51 ∷ 32 ∷ 54 ∷ 10 ∷ 51 ∷ 32 ∷ 51 ∷ 10 ∷ 51 ∷ 32 ∷ 51 ∷ 10 ∷ 51 ∷ 32 ∷ 51 ∷ 10 ∷ [])
    ∷ counts T-topology 0 0 (3 ∷ 6 ∷ 3 ∷ 3 ∷ 3 ∷ 3 ∷ 3 ∷ 3 ∷ [])
    ∷ counts (F-topology 2) 0 0 (16 ∷ 30 ∷ 8 ∷ 8 ∷ 7 ∷ 8 ∷ 7 ∷ 8 ∷ 8 ∷ 8 ∷ 8 ∷ 8 ∷ 8 ∷ 8 ∷ [])
    ∷ counts (F-topology 1) 0 0 (0 ∷ 30 ∷ 5 ∷ 8 ∷ 5 ∷ 8 ∷ 5 ∷ 8 ∷ 5 ∷ 8 ∷ 5 ∷ 8 ∷ 5 ∷ 8 ∷ [])
    ∷ to_one cut_off 0 1 3 3 3
    ∷ to_one cut_off 3 0 3 0 3
    ∷ counts cut_off 0 0 (3 ∷ 12 ∷ 3 ∷ 3 ∷ 3 ∷ 3 ∷ 3 ∷ 3 ∷ 0 ∷ 3 ∷ [])
    ∷ counts two_parts 0 0 (0 ∷ 12 ∷ 1 ∷ 2 ∷ 1 ∷ 2 ∷ 1 ∷ 2 ∷ 1 ∷ 2 ∷ [])
    ∷ prints pair (48 ∷ 32 ∷ 50 ∷ 10 ∷ 48 ∷ 32 ∷ 48 ∷ 10 ∷ 48 ∷ 32 ∷ 48 ∷ 10 ∷ [])
    ∷ spells 2016 4032 (50 ∷ 48 ∷ 49 ∷ 54 ∷ 32 ∷ 52 ∷ 48 ∷ 51 ∷ 50 ∷ 10 ∷ [])
    ∷ counts zeros 14 0 (0 ∷ 0 ∷ [])
    ∷ []

abbrev pub FactsHold : Type 0
FactsHold = T (every holds facts)
