-- A sound schedule is its rows laid end to end: each row has one byte per link, none over 1, and N - 1 valid rows make one.
-- Assumes nothing.
use Prim.Native.Nat.{ℕ, pred, ◌+◌, ◌*◌, ◌≤◌}
use mathlib.Core.List.Memᴰ
use mathlib.Core.List.{List, ◌∷◌, Memᴰ}
use mathlib.Core.Path.{◌≡◌, ap, ◌∙◌, subst}
use native.Mathlib.Omega.{arith}
use lib.Dec.{T, eqb, leb, eqb→eq, leb→le}
use lib.ListN.{length, drop}
use Rattle.network.specs.Lists.{below, every}
use Rattle.network.specs.Routing.{valid_states}
use Rattle.network.specs.Theorems.Routing.{AllUp}
use Rattle.network.proofs.Tests.{both}
use Rattle.network.proofs.Lists.{every_all}
use Rattle.network.proofs.Below.{below_lt, length_map_below}
use Rattle.topology_types.specs.declared.Topology.{Topology}
use Rattle.topology_types.specs.Topology.{network_of}
use Rattle.order.proofs.Ranges.{get_d_mem}
use Rattle.forwarding_rules.specs.Schedule.{row_in, rows_in}
use Rattle.forwarding_rules.specs.Theorems.{SoundStates, SoundSchedule}
use Rattle.forwarding_rules.proofs.Rules.{mem_joined}
use Rattle.forwarding_rules.proofs.Schedules.{Rows, rows_of, row_mem, row_fits, row_long, drop_run, joined, joined_long, rows_again}

module _ (t : Topology) (schedule : List ℕ) (s : SoundSchedule t schedule) where
  rows : Rows t schedule
  rows = rows_of t schedule s.whole_rows

  pub enough : pred t.routers ≤ length (rows_in t.routers t.links schedule)
  enough = omega (arith, ap length rows.are, length_map_below (row_in t.links schedule) rows.count, rows.enough)

  -- what is left of the rows from turn h on begins with row h
  pub row_there : (h : ℕ) (x : List ℕ) (rest : List (List ℕ)) → drop h (rows_in t.routers t.links schedule) ≡ x ∷ rest →
      (h * t.links + t.links ≤ length schedule) × SoundStates t (row_in t.links schedule h) × (x ≡ row_in t.links schedule h)
  row_there h x rest e =
      let (inside, is) = drop_run (row_in t.links schedule) rows.count h (rw rows.are at e) in (
        row_fits t.links schedule rows.count rows.whole h inside,
        record {
          long = row_long t.links schedule rows.count rows.whole h inside;
          states_are = λ b m. s.states_are b (row_mem t.links schedule h m);
        },
        is,
      )

  pub all-up : (network_of t).links ≡ t.links → ((b : ℕ) → Memᴰ b schedule → b ≡ 1) → AllUp (network_of t) (rows_in t.routers t.links schedule)
  all-up same ones states m link l =
      let (h, k, e) = Memᴰ.of_map (row_in t.links schedule) (below rows.count) (subst (Memᴰ states) rows.are m) in
      let long = row_long t.links schedule rows.count rows.whole h (below_lt rows.count k) in
      rw (← e) (ones _ (row_mem t.links schedule h (get_d_mem (row_in t.links schedule h) link 0 (omega (arith, same)))))

module _ (t : Topology) (same : (network_of t).links ≡ t.links) where
  pub valid_sound : (states : List ℕ) → T (valid_states (network_of t) states) → SoundStates t states
  unfolding valid_states
  valid_sound states v =
      let (long, small) = both (eqb (length states) (network_of t).links) (every (λ b. leb b 1) states) v in
      record { long = eqb→eq _ _ long ∙ same; states_are = λ b m. leb→le b 1 (every_all (λ b. leb b 1) states small b m) }

  pub schedule_of : (xs : List (List ℕ)) → length xs ≡ pred t.routers → ((states : List ℕ) → Memᴰ states xs → T (valid_states (network_of t) states)) →
      (schedule : List ℕ) × (length schedule ≡ pred t.routers * t.links) × SoundSchedule t schedule × (rows_in t.routers t.links schedule ≡ xs)
  schedule_of xs many valid =
      let wide : (states : List ℕ) → Memᴰ states xs → length states ≡ t.links = λ states m. (valid_sound states (valid states m)).long in
      let whole : length (joined xs) ≡ pred t.routers * t.links = joined_long t.links xs wide ∙ ap (λ (k : ℕ). k * t.links) many in (
        joined xs,
        whole,
        record {
          whole_rows = record { rows = pred t.routers; whole = whole; enough = omega arith };
          states_are = λ b m. let (states, k, h) = mem_joined (λ states. states) xs m in (valid_sound states (valid states k)).states_are b h;
        },
        rows_again t.links t.routers xs wide many,
      )
