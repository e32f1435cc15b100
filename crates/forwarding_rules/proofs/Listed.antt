-- What an accepted table gives: rows along which ranks fall, so that network's laws for such rows hold of what forwards by the table; and its figures are
-- network's, or 255 where there is no path.
-- Assumes nothing.
use Prim.Native.Nat.{ℕ, ◌<◌}
use mathlib.Core.List.{List, []}
use mathlib.Core.Logic.{◌⊎◌, inl, inr, ⊎_elim}
use mathlib.Core.Path.{◌≡◌, refl, sym, ◌∙◌}
use native.Mathlib.Omega.{arith}
use borrow.Author.Tests.{eq-eqb, ne_eqb}
use lib.Dec.{T}
use lib.ListN.{get_or}
use Rattle.network.specs.Network.{size, WellFormed}
use Rattle.network.specs.Distance.{distances}
use Rattle.network.specs.Order.{reached}
use Rattle.network.specs.Routing.{valid_states, greatest_hop_by}
use Rattle.network.specs.Theorems.Forwarding.{Lawful}
use Rattle.network.specs.Theorems.Routing.{FallingRows}
use Rattle.network.proofs.Below.{get_d_below}
use Rattle.network.proofs.Tests.{truth}
use Rattle.network.proofs.NextHop.{path_reached, reached_path}
use Rattle.network.proofs.Falling.{rows_unreached}
use Rattle.network.proofs.Routing.{rows_lawful}
use Rattle.topology_types.specs.declared.Topology.{Topology}
use Rattle.topology_types.specs.Topology.{network_of}
use Rattle.topology_types.specs.Outcome.{answer}
use Rattle.topology_sound.specs.Sound.{sound}
use Rattle.topology_sound.proofs.Sound.{sound_exact, sound_networks}
use Rattle.table.specs.Listed.{falling_rank, entries_in, listed}
use Rattle.table.specs.Calls.{table_checking}
use Rattle.table.specs.Inner.{TableStands}
use Rattle.table.proofs.Fields.{fields_read}
use Rattle.table.proofs.Stands.{accepted_stands}
use Rattle.forwarding_rules.specs.Calls.{by, figure, figure_byte, figures}
use Rattle.forwarding_rules.specs.Theorems.{destination_byte, rank_byte, Reached, RanksTell}

-- what an accepted table gives
pub record Over (t : Topology) (table : List ℕ) : Type 0 where
  pub stands : TableStands t table
  -- the network, and the destination in it
  pub well_formed : WellFormed (network_of t)
  pub routers_are : size (network_of t) ≡ t.routers
  pub links_are : (network_of t).links ≡ t.links
  pub inside : destination_byte table < size (network_of t)
  -- ranks that fall along its rows; a router with a path has that of its rank byte
  pub falling : FallingRows (network_of t) (destination_byte table) (entries_in (network_of t) table) (falling_rank t.routers table)
  pub rank_below : (u : ℕ) → u < t.routers → falling_rank t.routers table u < t.routers
  pub rank_reached : (u : ℕ) → u < t.routers → Reached t table u → falling_rank t.routers table u ≡ rank_byte table u
  -- what forwards by the table
  pub lawful : Lawful (by t table) (falling_rank t.routers table) (λ states. T (valid_states (network_of t) states))
  pub hops_are : (u : ℕ) → figure t table u ≡ greatest_hop_by (network_of t) (destination_byte table) (entries_in (network_of t) table) u

pub over : (t : Topology) → T (sound t) → (table : List ℕ) → table_checking t table ≡ answer 0 0 → Over t table
unfolding listed figure
over t good table right =
    let s = sound_networks t good in
    let stands = accepted_stands t good table right in
    let falling = stands.falls.falling in
    let inside : destination_byte table < size (network_of t) = omega (arith, s.routers, stands.place) in
    record {
      stands = stands;
      well_formed = s.well_formed;
      routers_are = s.routers;
      links_are = s.links;
      inside = inside;
      falling = falling;
      rank_below = λ u h. omega (arith, s.routers, falling.ranks_below u (omega (arith, s.routers)));
      rank_reached = λ u h path. stands.falls.rank_is u path ∙ sym ((fields_read table).rank_is u);
      lawful = rows_lawful (network_of t) s.well_formed (destination_byte table) inside _ _ falling;
      hops_are = λ u. rw s.routers refl;
    }

-- a place has a path or has none, as its distance tells
pub reached_or : {t : Topology} {table : List ℕ} → Over t table → (u : ℕ) → Reached t table u ⊎ (Reached t table u → ⊥)
reached_or {t} {table} o u =
    let n = network_of t in
    ⊎_elim (λ r. inl (reached_path n o.well_formed _ o.inside u r)) (λ out. inr (λ path. out (path_reached n o.well_formed _ o.inside path)))
    (truth (reached n (distances n (destination_byte table)) u))

-- by whether a place has a path: the figure reported is network's, or 255 where its row is empty
module _ {t : Topology} {table : List ℕ} (good : T (sound t)) (o : Over t table) (u : ℕ) (h : u < t.routers) where
  figure_at : get_or (figures t table) u 0 ≡ figure_byte t table u
  unfolding figures
  figure_at = get_d_below (figure_byte t table) t.routers u 0 h

  pub figure_reached : Reached t table u → get_or (figures t table) u 0 ≡ greatest_hop_by (network_of t) (destination_byte table) (entries_in (network_of t) table) u
  unfolding figure_byte
  figure_reached path =
      let few = ((sound_exact t).0 good).routers_most in
      let other : rank_byte table u ≡ 255 → ⊥ = λ e. omega (arith, o.stands.reached u h path) in
      figure_at ∙ rw (ne_eqb (rank_byte table u) 255 other) (o.hops_are u)

  module _ (out : Reached t table u → ⊥) where
    pub figure_unreached : get_or (figures t table) u 0 ≡ 255
    unfolding figure_byte
    figure_unreached = figure_at ∙ rw (eq-eqb (rank_byte table u) 255 (o.stands.unreached u h out))

    pub row_unreached : entries_in (network_of t) table u ≡ []
    row_unreached = rows_unreached (network_of t) o.well_formed (destination_byte table) o.inside _ _ o.falling u out

-- so the rank byte tells whether there is a path
pub ranks_tell : RanksTell
ranks_tell t good table right u h =
    let o = over t good table right in
    let few = ((sound_exact t).0 good).routers_most in
    let either = reached_or o u in
    let below = o.stands.reached u h in
    let none_there = o.stands.unreached u h in
    record {
      either = either;
      ranked = (below, λ small. ⊎_elim (λ path. path) (λ out. absurd (omega (arith, none_there out))) either);
      unranked = (none_there, λ e path. omega (arith, below path));
    }
