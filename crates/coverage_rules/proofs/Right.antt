-- The list of pairs holds each pair of a router and another destination once, so what a test keeps of it is counted; the rows one after the other have as
-- many entries as their lengths make together.
-- Assumes nothing.
use Prim.Native.Nat.{ℕ, zero, suc, ◌+◌, ◌-◌, ◌≤◌, ◌<◌}
use mathlib.Core.List.{List, [], ◌∷◌, ◌++◌, map, append_assoc}
use mathlib.Core.Path.{◌≡◌, refl, sym, ◌∙◌, ap}
use native.Mathlib.Omega.{arith}
use lib.Dec.{T, leb→le, le→leb}
use lib.ListN.{length, get_or, take, replicate, get_or-append}
use lib.Seq.{get_or-append-add, take_at}
use Rattle.network.specs.Lists.{below, keep}
use Rattle.network.specs.Order.{shortest-path, build}
use Rattle.network.proofs.Below.{below_lt, get_d_below, length_map_below}
use Rattle.network.proofs.Build.{built_by_rule}
use Rattle.network.proofs.Lists.{mem_keep, keep_mem, pairwise_keep}
use Rattle.network.proofs.Tests.{as_true, as_false}
use Rattle.topology_types.specs.declared.Topology.{Topology}
use Rattle.topology_types.specs.Topology.{padded, network_of}
use Rattle.topology_sound.specs.Sound.{sound}
use Rattle.topology_sound.proofs.Sound.{sound_exact, sound_networks}
use Rattle.stream_rules.proofs.Held.{padded_length}
use Rattle.topology.specs.Written.{joined_over}
use Rattle.order_standings.proofs.Keeping.{kept_most}
use Rattle.table.proofs.Lists.{no_path_row}
use Rattle.listing_rules.specs.Listing.{spaced}
use Rattle.listing_rules.proofs.Tables.{given, places}
use Rattle.coverage_rules.specs.Coverage.{row_for, pairs_of, has_two, covered_among, listed_for, figures_counted, nothing_counted, coverage}
use Rattle.coverage_rules.specs.Printed.{Fraction, over_links, fractions, numbers, fraction_text, fractions_text, coverage_text}
use Rattle.coverage_rules.specs.Theorems.{HowMany, PairOf, FiguresRight, CoverageRefuses, figure_line, FigureLinesRight}
use Rattle.coverage_rules.proofs.Lists.{joined_as}
use Rattle.coverage_rules.proofs.Pairs.{pairs_once, pairs_each, pairs_many}
use Rattle.coverage_rules.proofs.Links.{listed_most}
use Rattle.coverage_rules.proofs.Counting.{joined_total}

zeros_at : (n i : ℕ) → get_or {A = ℕ} (replicate n 0) i 0 ≡ 0
zeros_at zero i = refl
zeros_at (suc n) zero = refl
zeros_at (suc n) (suc i) = zeros_at n i

module _ (t : Topology) (good : T (sound t)) where
  pub is_counted : coverage t ≡ figures_counted t
  unfolding coverage
  is_counted = rw (as_true (sound t) good)

  abbrev sums : List ℕ
  sums = map (listed_for t) (below t.routers)

  many : length sums ≡ t.routers
  many = length_map_below (listed_for t) t.routers

  listed_at : (d : ℕ) → d < t.routers → get_or (coverage t).listed d 0 ≡ listed_for t d
  unfolding figures_counted padded
  listed_at d h = rw is_counted (get_or-append sums _ 0 d (rw many h) ∙ get_d_below (listed_for t) t.routers d 0 h)

  unused : (d : ℕ) → t.routers ≤ d → get_or (coverage t).listed d 0 ≡ 0
  unfolding figures_counted padded
  unused d past =
      let rest : List ℕ = replicate (64 - length sums) 0 in
      let behind : d ≡ length sums + (d - length sums) = omega (arith, many) in
      rw is_counted
      (ap (λ (i : ℕ). get_or (sums ++ rest) i 0) behind ∙ get_or-append-add sums rest (d - length sums) 0 ∙ zeros_at (64 - length sums) (d - length sums))

  every_pair : HowMany (PairOf t) (coverage t).pairs
  unfolding figures_counted
  every_pair =
      record {
        all = pairs_of t.routers;
        once = pairs_once t.routers;
        each = λ p. (
          λ m. let (h, k, apart) = (pairs_each t.routers p).0 m in record { router = h; destination = k; other = apart },
          λ a. (pairs_each t.routers p).1 (a.router, a.destination, a.other),
        );
        counted = rw is_counted (sym (pairs_many t.routers));
      }

  covered_pairs : HowMany (λ p. PairOf t p × (2 ≤ length (row_for t p.destination p.router))) (coverage t).covered
  unfolding figures_counted covered_among has_two every_pair
  covered_pairs =
      record {
        all = keep (has_two t) (pairs_of t.routers);
        once = pairwise_keep (has_two t) (pairs_once t.routers);
        each = λ p. (
          λ m. let (k, two) = mem_keep (has_two t) (pairs_of t.routers) m in ((every_pair.each p).0 k, leb→le 2 _ two),
          λ (a, h). keep_mem (has_two t) (pairs_of t.routers) ((every_pair.each p).1 a) (le→leb 2 _ h),
        );
        counted = rw is_counted;
      }

pub figures_right : FiguresRight
unfolding figures_counted covered_among row_for listed_for
figures_right t good =
    let s = sound_networks t good in
    record {
      order = λ d. build (network_of t) d shortest-path;
      by_rule = λ d h. (built_by_rule (network_of t) s.well_formed d (omega (arith, s.routers)) shortest-path).0;
      entries = row_for t;
      row_is = λ d u. refl;
      in_table = λ d u h k. places t good d h u k;
      unreached = λ d u h out.
          no_path_row (network_of t) s.well_formed d (omega (arith, s.routers)) (given t good d h).in_free t.limit u out;
      success = rw (is_counted t good);
      covered = covered_pairs t good;
      pairs = every_pair t good;
      pairs_are = rw (is_counted t good);
      covered_most = rw (is_counted t good, ← pairs_many) (kept_most (has_two t) (pairs_of t.routers));
      destinations = rw (is_counted t good);
      links = rw (is_counted t good);
      listed = λ d h. listed_at t good d h ∙ joined_total (row_for t d) t.routers;
      listed_most = λ d h. rw (listed_at t good d h, is_counted t good) (listed_most t good d h);
      slots = rw (is_counted t good) (padded_length 0 64 (sums t good) (omega (arith, many t good, ((sound_exact t).0 good).routers_most)));
      unused = unused t good;
    }

pub coverage_refuses : CoverageRefuses
unfolding coverage nothing_counted padded
coverage_refuses t out = rw (as_false (sound t) out)

line_is : (f : Fraction) → fraction_text 10 f ≡ figure_line f.part f.whole
unfolding fraction_text spaced
line_is f = simp append_assoc

-- what is made of the fractions, one after the other
in_order : (t : Topology) → T (sound t) → (f : Fraction → List ℕ) →
    joined_over f (fractions (coverage t))
    ≡ f (record { part = (coverage t).covered; whole = (coverage t).pairs })
    ++ joined_over (λ d. f (record { part = get_or (coverage t).listed d 0; whole = t.links })) (below t.routers)
unfolding fractions over_links figures_counted padded joined_over
in_order t good f =
    let links : (coverage t).links ≡ t.links = rw (is_counted t good) in
    let front : take (coverage t).destinations (coverage t).listed ≡ sums t good =
    rw (is_counted t good) (take_at (sums t good) _ t.routers (many t good)) in
    rw front
    (ap (λ (l : List ℕ). f (record { part = (coverage t).covered; whole = (coverage t).pairs }) ++ l)
    (ap (λ (k : ℕ). joined_over f (over_links k (sums t good))) links
    ∙ joined_as f _ (λ n. f (record { part = n; whole = t.links })) (sums t good) (λ n m. refl)
    ∙ joined_as _ (listed_for t) _ (below t.routers) (λ d m. rw (listed_at t good d (below_lt _ m)))))

pub lines_right : FigureLinesRight
unfolding coverage_text fractions_text numbers
lines_right t good =
    record { in_order = in_order t good (λ f. f.part ∷ f.whole ∷ []); lines = simp line_is at (in_order t good (fraction_text 10)) }
