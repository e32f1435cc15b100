-- The figures are reported as N bytes in the buffer; that they are exact is a part of demand 3.
-- Assumes nothing.
use Prim.Native.Nat.{ℕ, ◌≤◌}
use mathlib.Core.List.{List}
use mathlib.Core.Path.{◌≡◌}
use native.Mathlib.Omega.{arith}
use lib.ListN.{length}
use Rattle.network.proofs.Below.{length_map_below}
use Rattle.topology_types.specs.declared.Topology.{Topology}
use Rattle.topology_types.proofs.Given.{given_exact}
use Rattle.table.specs.Calls.{unless_refused}
use Rattle.forwarding_rules.specs.Calls.{figure_byte, figures, counting_hops}
use Rattle.forwarding_rules.specs.Theorems.{FiguresReported, FiguresExact}
use Rattle.forwarding_rules.proofs.Routers.{tables_meet}

figures_long : (t : Topology) (table : List ℕ) → length (figures t table) ≡ t.routers
unfolding figures
figures_long t table = length_map_below (figure_byte t table) t.routers

pub figures_reported : FiguresReported
unfolding counting_hops unless_refused
figures_reported t good table right buffer =
    let long = figures_long t table in
    let w = given_exact (figures t table) buffer in
    let fits : t.routers ≤ length buffer → length (figures t table) ≤ length buffer = λ h. omega arith in
    record {
      success = λ h. rw right (rw long at (w.answer (fits h)));
      bytes = λ h. rw right (rw long at (w.stated (fits h)));
      rest = λ h. rw right (rw long at (w.rest (fits h)));
      short = λ h. rw right (rw long at (w.short (omega arith)));
      long = long;
    }

pub figures_exact : FiguresExact
figures_exact t good table right = (tables_meet t good table right).figures
