-- An imported topology is sound, so that what holds of every sound one holds of it.
-- Assumes nothing.
use native.Mathlib.Omega.{arith}
use lib.Dec.{T}
use Rattle.network.proofs.Distance.{distances_exact}
use Rattle.topology_types.specs.declared.Topology.{Topology}
use Rattle.topology_types.specs.Topology.{network_of}
use Rattle.topology_sound.specs.Sound.{sound}
use Rattle.topology_sound.proofs.Sound.{sound_networks}
use Rattle.order.proofs.Orders.{builds_by_rule, checks_exact}
use Rattle.table_rows.specs.Layout.{row_start_lem}
use Rattle.table.proofs.Fills.{fills_well}
use Rattle.table.proofs.Verdicts.{tables_exact}
use Rattle.forwarding_rules.proofs.Routers.{shortest_walks, tables_meet}
use Rattle.forwarding_rules.proofs.Figures.{figures_reported}
use Rattle.ospf.specs.Import.{importing}
use Rattle.ospf.proofs.Verdict.{import_sound}
use Rattle.facts_ospf.specs.Theorems.{OrdersAndRows, ImportMeets}

orders_and_rows : (t : Topology) → T (sound t) → OrdersAndRows t
unfolding row_start_lem
orders_and_rows t s =
    let n = sound_networks t s in
    record {
      seen = n;
      distances = λ d h. distances_exact (network_of t) n.well_formed d (omega (arith, n.routers));
      built = builds_by_rule t s;
      checked = checks_exact t s;
      filled = fills_well t s;
      proposed = tables_exact t s;
      shortest = shortest_walks t s;
    }

pub import_meets : ImportMeets
import_meets file bytes z =
    let t = (importing file).topology in
    let s : T (sound t) = (import_sound file bytes).is-sound z in
    record {
      is-sound = s;
      demand_2 = orders_and_rows t s;
      demand_3 = λ table ok. record { reported = figures_reported t s table ok; claims = tables_meet t s table ok };
    }
