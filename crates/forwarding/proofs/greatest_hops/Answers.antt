-- The table is checked, 14 and 21, and then the figures are given to the buffer.
use Rattle.std.proofs.Common.{◌≡◌, ℕ, List, length, T, sym, Err, rules, refl, arith}
use borrow.Author.Tests.{lt-ltb, le-ltb, ne_eqb}
use Rattle.network.proofs.Below.{length_map_below}
use Rattle.topology_types.specs.declared.Topology.{Topology}
use Rattle.topology_types.specs.Outcome.{answer, number_of, turned_away, given}
use Rattle.topology_types.proofs.Outcome.{numbered}
use Rattle.topology_sound.specs.Sound.{sound}
use Rattle.table.specs.Calls.{unless_refused, table_checking}
use Rattle.table.proofs.Verdicts.{tables_each}
use Rattle.forwarding_rules.specs.Calls.{figure_byte, figures, counting_hops}
use Rattle.forwarding.proofs.greatest_hops.Goals as goal

pub returns-in_err-check : goal.returns-in_err-check
unfolding counting_hops unless_refused turned_away
returns-in_err-check c =
    let e : c.from_residual.result ≡ Err c.in_err-check.field-0.0 = search rules in
    rw (e, ← c.in_err-check.ensures, ne_eqb (number_of c.in_err-check.field-0.0.fault) 0 (λ z. omega (arith, numbered c.in_err-check.field-0.0.fault, z))) refl

-- the table is accepted, and so the topology is sound
long : (t : Topology) (table : List ℕ) → length (figures t table) ≡ t.routers
unfolding figures
long t table = length_map_below (figure_byte t table) t.routers

passed : (t : Topology) (table : List ℕ) → answer 0 0 ≡ table_checking t table → T (sound t)
passed t table whole = ((tables_each _ _ 0).says_0.0 (sym whole)).1

pub returns-then-out-n : goal.returns-then-out-n
unfolding counting_hops unless_refused given turned_away
returns-then-out-n c = rw (c.at.ensures, ← c.in_ok-check.ensures, long c.args.t c.args.table.now, lt-ltb _ _ c.if-out-n.true) refl

pub greatest_hops-requires : goal.greatest_hops-requires
greatest_hops-requires c = (passed c.args.t c.args.table.now (c.in_ok-check.ensures), sym (c.in_ok-check.ensures), c.if-out-n.false)

pub returns : goal.returns
unfolding counting_hops unless_refused given
returns c = rw (c.greatest_hops.ensures, ← c.in_ok-check.ensures, long c.args.t c.args.table.now, le-ltb _ _ c.if-out-n.false) refl
