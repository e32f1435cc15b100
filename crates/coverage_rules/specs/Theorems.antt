-- What is proved of the coverage figures, for every sound topology: what each number counts, said without the definition's lists, when they are refused, and
-- what stands in each line.
-- Assumes nothing.
use Rattle.std.specs.Prelude.{ℕ, zero, suc, ◌+◌, ◌*◌, ◌-◌, ◌≤◌, ◌<◌, ◌↔◌, ◌≢◌, ◌≡◌, T, length, get_or, replicate}
use mathlib.Core.List.{List, [], ◌∷◌, ◌++◌, Memᴰ, map}
use Rattle.network.specs.Lists.{below, Distinct}
use Rattle.network.specs.Network.{Arc}
use Rattle.network.specs.Distance.{PathTo, distances}
use Rattle.network.specs.Order.{shortest-path}
use Rattle.network.specs.Row.{row}
use Rattle.network.specs.Theorems.Order.{ByRule}
use Rattle.topology_types.specs.declared.Topology.{Topology}
use Rattle.topology_types.specs.Outcome.{answer}
use Rattle.topology_types.specs.Topology.{network_of}
use Rattle.topology_sound.specs.Sound.{sound}
use Rattle.topology.specs.Written.{joined_over}
use Rattle.table.specs.Listed.{places_in}
use Rattle.text.specs.Numbers.{number_text}
use Rattle.listing_rules.specs.Listing.{table_for}
use Rattle.coverage_rules.specs.Coverage.{Pair, coverage}
use Rattle.coverage_rules.specs.Printed.{numbers, coverage_text}

-- so many pairs there are of which P holds: as many as a list has that holds each of them once and nothing else
pub record HowMany (P : Pair → Type 0) (many : ℕ) : Type 0 where
  pub all : List Pair
  pub once : Distinct all
  pub each : (p : Pair) → Memᴰ p all ↔ P p
  pub counted : many ≡ length all

-- a router and another destination of a topology
pub record PairOf (t : Topology) (p : Pair) : Type 0 where
  pub router : p.router < t.routers
  pub destination : p.destination < t.routers
  pub other : p.router ≢ p.destination

-- what f gives for the numbers below n, added up
unfoldable pub total : (ℕ → ℕ) → ℕ → ℕ
total f zero = 0
total f (suc n) = total f n + f n

-- 02, #102: the rows are those of the listing's tables, under the order by 01's rule in shortest-path mode and with the topology's K. A pair of a router
-- and another destination is counted exactly if its row has two entries or more, so one without a path is not (02, #107: `unreached`); there are N(N - 1)
-- pairs, these among them. For each destination the lengths of its rows are added up, and the sum is at most the number of links.
pub record Figures (t : Topology) : Type 0 where
  pub order : ℕ → List ℕ
  pub by_rule : (d : ℕ) → d < t.routers → ByRule (network_of t) d shortest-path (order d)
  pub entries : ℕ → ℕ → List Arc
  pub row_is : (d u : ℕ) → entries d u ≡ row (network_of t) (distances (network_of t) d) t.limit (order d) u
  pub in_table : (d u : ℕ) → d < t.routers → u < t.routers → places_in (table_for t d) u ≡ map (λ (a : Arc). a.to) (entries d u)
  pub unreached : (d u : ℕ) → d < t.routers → (PathTo (network_of t) d u → ⊥) → entries d u ≡ []
  pub success : (coverage t).answer ≡ answer 0 0
  pub covered : HowMany (λ p. PairOf t p × (2 ≤ length (entries p.destination p.router))) (coverage t).covered
  pub pairs : HowMany (PairOf t) (coverage t).pairs
  pub pairs_are : (coverage t).pairs ≡ t.routers * (t.routers - 1)
  pub covered_most : (coverage t).covered ≤ (coverage t).pairs
  pub destinations : (coverage t).destinations ≡ t.routers
  pub links : (coverage t).links ≡ t.links
  pub listed : (d : ℕ) → d < t.routers → get_or (coverage t).listed d 0 ≡ total (λ u. length (entries d u)) t.routers
  pub listed_most : (d : ℕ) → d < t.routers → get_or (coverage t).listed d 0 ≤ (coverage t).links
  pub slots : length (coverage t).listed ≡ 64
  pub unused : (d : ℕ) → t.routers ≤ d → get_or (coverage t).listed d 0 ≡ 0

abbrev pub FiguresRight : Type 0
FiguresRight = (t : Topology) → T (sound t) → Figures t

-- 01, Refusals, 14: at 0, all numbers zero; all else is `FiguresRight`.
abbrev pub CoverageRefuses : Type 0
CoverageRefuses =
    (t : Topology) → (T (sound t) → ⊥) →
    coverage t ≡ record { answer = answer 14 0; covered = 0; pairs = 0; destinations = 0; links = 0; listed = replicate 64 0 }

-- two numbers, one space between, 32; a newline, 10, ends the line
abbrev pub figure_line : ℕ → ℕ → List ℕ
figure_line part whole = number_text part ++ (32 ∷ (number_text whole ++ (10 ∷ [])))

-- 02, #102: the numbers as they are, unreduced: the pairs' two first, then two for each destination, by place; and each two in a line.
pub record FigureLines (t : Topology) : Type 0 where
  pub in_order : numbers (coverage t)
      ≡ (coverage t).covered ∷ (coverage t).pairs ∷ joined_over (λ d. get_or (coverage t).listed d 0 ∷ t.links ∷ []) (below t.routers)
  pub lines : coverage_text (coverage t)
      ≡ figure_line (coverage t).covered (coverage t).pairs
      ++ joined_over (λ d. figure_line (get_or (coverage t).listed d 0) t.links) (below t.routers)

abbrev pub FigureLinesRight : Type 0
FigureLinesRight = (t : Topology) → T (sound t) → FigureLines t
