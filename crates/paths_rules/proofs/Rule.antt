-- The rule for paths is network's, its entries leading to the places of the table's rows, turn by turn.
-- Assumes nothing.
use Prim.Native.Nat.{ℕ, suc}
use mathlib.Core.List.{List, ◌++◌}
use mathlib.Core.Path.{◌≡◌}
use lib.Dec.{T, eqb→eq}
use lib.ListN.{drop}
use Rattle.network.specs.Theorems.Paths as network
use Rattle.network.proofs.Tests.{eq_test}
use Rattle.topology_types.specs.declared.Topology.{Topology}
use Rattle.topology_types.specs.Topology.{network_of}
use Rattle.topology_types.specs.Outcome.{answer}
use Rattle.topology_sound.specs.Sound.{sound}
use Rattle.table.specs.Listed.{entries_in, listed}
use Rattle.table.specs.Calls.{table_checking}
use Rattle.forwarding_rules.specs.Calls.{by}
use Rattle.paths_rules.specs.Calls.{paths_of, paths_past}
use Rattle.paths_rules.specs.Theorems.{PathRule, PathsByRule}
use Rattle.paths_rules.proofs.Listed.{rule}
use Rattle.paths_rules.proofs.Entries.{Turn, turn, none_past}

module _ (t : Topology) (good : T (sound t)) (table : List ℕ) (right : table_checking t table ≡ answer 0 0) (u : ℕ)
    (r : network.PathRule (by t table) t.routers u) where
  by_rule : PathRule t table u
  unfolding paths_of paths_past listed
  by_rule =
      record {
        at_destination = λ e. r.at_home (eq_test e);
        elsewhere = λ off. r.elsewhere (λ h. off (eqb→eq _ _ h));
        entry = λ i v l. at_turn i v (turn t good table right u i v l);
        past = λ i h. rw (none_past t good table right u i h) r.no_entry;
      }
    where
      at_turn : (i v : ℕ) → Turn t good table right u i v → paths_past t table u i ≡ paths_of t table v ++ paths_past t table u (suc i)
      at_turn i v f = rw (f.parts, ← f.to) (r.each_entry f.arc (drop (suc i) (entries_in (network_of t) table u)))

pub paths_by_rule : PathsByRule
paths_by_rule t good table right u place = by_rule t good table right u (rule t good table right u place)
