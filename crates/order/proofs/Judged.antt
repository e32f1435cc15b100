-- What judging answers, by the tests of an order as the code makes them: the reached ranks are counted, and each test looks for a first rank.
-- Assumes nothing.
use Prim.Native.Nat.{ℕ, ◌*◌, ◌≤◌}
use mathlib.Core.List.{List, []}
use mathlib.Core.Path.{◌≡◌, sym, ◌∙◌}
use native.Mathlib.Omega.{arith}
use lib.Dec.{ltb}
use lib.ListN.{length, get_or, take}
use lib.Seq.{length-take-le}
use Rattle.std.specs.Prelude.{Some, None}
use Rattle.network.specs.Lists.{below, keep}
use Rattle.topology_types.specs.Outcome.{answer}
use Rattle.topology_types.specs.declared.Topology.{Topology}
use Rattle.topology_types.specs.Topology.{network_of}
use Rattle.arcs.specs.declared.Arcs.{Arcs}
use Rattle.order_standings.specs.declared.Mode.{Mode}
use Rattle.order.specs.Calls.{first_of, mode_of, reached_count_lem, wrong_ranks, ranks_after, unready_ranks, judging}
use Rattle.order.specs.Inner.{Measured, LaidOut, FirstPlaced}
use Rattle.order.proofs.Turn.{measured_laid, counts_reached}
use Rattle.order.proofs.Orders.{few_reached, proposal_begins}
use Rattle.order.proofs.Decided.{Proposed, none_found, wrong_entry, ranked_after, other_first, unready, passes}

module _ {t : Topology} {a : Arcs} {d : ℕ} {ds : List ℕ} (g : Measured t a d ds) {reached : ℕ}
    (counted : reached ≡ length (keep (λ v. ltb (get_or ds v 0) (t.routers * 65536)) (below t.routers))) where
  reach : reached ≡ reached_count_lem (network_of t) d
  reach = counted ∙ counts_reached g

  few : reached ≤ t.routers
  few = omega (arith, reach, few_reached t g.is-sound d g.place)

  module _ (m : Mode) (order : List ℕ) (long : length order ≡ t.routers) where
    pub part_long : reached ≡ length (take reached order)
    part_long = sym (length-take-le reached order (omega (arith, few)))

    pub within : reached ≤ length order
    within = omega (arith, few)

    pub wrong_judged : (r : ℕ) → Some r ≡ first_of (wrong_ranks t.routers (take reached order)) → answer 18 r ≡ judging t d m order
    wrong_judged r e = wrong_entry t d m order long r (rw reach at e)

    module _ (none_wrong : None ≡ first_of (wrong_ranks t.routers (take reached order))) where
      once : wrong_ranks t.routers (take (reached_count_lem (network_of t) d) order) ≡ []
      once = none_found _ (rw reach at none_wrong)

      pub ranked_judged : (r : ℕ) → Some r ≡ first_of (ranks_after reached order) → answer 18 r ≡ judging t d m order
      ranked_judged r e = ranked_after t d m order long once r (rw reach at e)

      module _ (none_ranked : None ≡ first_of (ranks_after reached order)) where
        none_after : ranks_after (reached_count_lem (network_of t) d) order ≡ []
        none_after = none_found _ (rw reach at none_ranked)

        pub first_judged : (get_or order 0 0 ≡ d → ⊥) → answer 19 0 ≡ judging t d m order
        first_judged out = other_first t d m order long once none_after out

        module _ (first : get_or order 0 0 ≡ d) where
          proposed : Proposed t d order
          proposed = record { on_sound = g.is-sound; place = g.place; long = long; once = once; none_after = none_after; first = first }

          pub begins : LaidOut t a d m ds × FirstPlaced t d (take reached order)
          begins = (measured_laid g m, rw reach (proposal_begins t g.is-sound d g.place m order proposed))

          pub unready_judged : (r : ℕ) → Some r ≡ first_of (unready_ranks (network_of t) d (mode_of m) (take reached order)) → answer 20 r ≡ judging t d m order
          unready_judged r e = unready t d m order proposed r (rw reach at e)

          pub passed_judged : None ≡ first_of (unready_ranks (network_of t) d (mode_of m) (take reached order)) → answer 0 0 ≡ judging t d m order
          passed_judged e = passes t d m order proposed (none_found _ (rw reach at e))
