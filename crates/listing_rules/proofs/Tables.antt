-- The table of a destination is accepted, since the order that is built is; so its ranks and hop counts are below N where there is a path, and else 255, and
-- its entries are places.
-- Assumes nothing.
use Prim.Native.Nat.{ℕ, ◌*◌, ◌≤◌, ◌<◌}
use mathlib.Core.List.{List, ◌++◌, map}
use mathlib.Core.Logic.{⊎_elim}
use mathlib.Core.Path.{◌≡◌, refl, sym, ◌∙◌}
use native.Mathlib.Omega.{arith}
use lib.Dec.{T}
use lib.ListN.{length, get_or, take}
use lib.Seq.{take_at}
use Rattle.network.specs.Lists.{below}
use Rattle.network.specs.Network.{Arc}
use Rattle.network.specs.Distance.{PathTo, distances}
use Rattle.network.specs.Order.{shortest-path, build}
use Rattle.network.specs.Row.{row}
use Rattle.network.proofs.Below.{length_below, below_lt, get_d_below, length_map_below}
use Rattle.topology_types.specs.declared.Topology.{Topology}
use Rattle.topology_types.specs.Topology.{network_of}
use Rattle.topology_sound.specs.Sound.{sound}
use Rattle.topology_sound.proofs.Sound.{sound_exact, sound_networks}
use Rattle.topology.proofs.Joined.{joined_same}
use Rattle.order_standings.specs.declared.Mode.TheVariants as mode
use Rattle.order.specs.Calls.{mode_of}
use Rattle.order.proofs.Ranges.{get_d_mem}
use Rattle.table.specs.Listed.{rank_in_lem, places_in, listed}
use Rattle.table.specs.Calls.{built_table, table_checking}
use Rattle.table.specs.Inner.{RowOf}
use Rattle.table.specs.Theorems.{GivenBy, ListsRows}
use Rattle.table.proofs.Bytes.{bytes_exact}
use Rattle.table.proofs.Calling.{built_free}
use Rattle.table.proofs.Fields.{places_long}
use Rattle.table.proofs.Lists.{tables_list, places_are}
use Rattle.table.proofs.Verdicts.{tables_exact}
use Rattle.forwarding_rules.specs.Calls.{figure_byte, figures}
use Rattle.forwarding_rules.specs.Theorems.{Reached, ByRank}
use Rattle.forwarding_rules.proofs.Listed.{Over, over, figure_unreached, ranks_tell}
use Rattle.forwarding_rules.proofs.Figures.{figures_exact}
use Rattle.listing_rules.specs.Listing.{table_for, line_for, lines_for, all_lines}
use Rattle.listing_rules.specs.Inner.{most_listing_line, most_listing_lines, RowFits, Listable, front_of_lem, front_line, line_in, table_text}
use Rattle.listing_rules.proofs.InTurn.{joined_most}
use Rattle.listing_rules.proofs.Fields.{line_length}

-- the entries of a row are few, and each is a short number
pub entries_fit : {table : List ℕ} {u : ℕ} → RowOf table u → RowFits (places_in table u)
entries_fit {table} {u} r =
    record {
      few = omega (arith, places_long table u, r.few);
      small = λ i k. omega (arith, r.places _ (get_d_mem (places_in table u) i 0 k));
    }

module _ (t : Topology) (good : T (sound t)) (d : ℕ) (place : d < t.routers) where
  abbrev table : List ℕ
  table = table_for t d

  abbrev order : List ℕ
  order = build (network_of t) d shortest-path

  pub given : GivenBy t table d t.limit order
  unfolding table_for built_table mode_of
  given =
      let w = (sound_exact t).0 good in
      record {
        place = place;
        limit_least = w.limit_least;
        limit_most = w.limit_most;
        in_free = built_free t good d place mode.ShortestPath;
        bytes = (bytes_exact (network_of t) d t.limit w.limit_most _ _).0 refl;
      }

  pub accepted : table_checking t table ≡ record { number = 0; at = 0 }
  accepted = (tables_exact t good table).1 (d, t.limit, _, given)

  -- what it lists
  pub lists : ListsRows t table d t.limit order
  lists = tables_list t good table d t.limit order given

  abbrev opened : Over t table
  opened = over t good table accepted

  few_routers : t.routers ≤ 64
  few_routers = ((sound_exact t).0 good).routers_most

  -- a router's row, its entries, and its rank and hop count by whether it has a path
  module _ (u : ℕ) (h : u < t.routers) where
    pub row_stands : RowOf table u
    row_stands = opened.stands.rows u h

    pub places : places_in table u ≡ map (λ (a : Arc). a.to) (row (network_of t) (distances (network_of t) d) t.limit order u)
    places =
        let s = sound_networks t good in
        places_are (network_of t) s.well_formed d t.limit given.limit_most order table given.bytes u (omega (arith, s.routers))

    pub tells : ByRank t table u
    tells = ranks_tell t good table accepted u h

    pub its_path : PathTo (network_of t) d u → Reached t table u
    unfolding listed
    its_path path = rw lists.destination path

    pub no-path : (PathTo (network_of t) d u → ⊥) → Reached t table u → ⊥
    unfolding listed
    no-path out path = out (rw lists.destination at path)

    pub figure_at : get_or (figures t table) u 0 ≡ figure_byte t table u
    unfolding figures
    figure_at = get_d_below (figure_byte t table) t.routers u 0 h

    pub hop_counts : Reached t table u → figure_byte t table u < t.routers
    hop_counts path = omega (arith, figure_at, (figures_exact t good table accepted u h path).at_most_rank, tells.ranked.0 path)

    pub no_count : (Reached t table u → ⊥) → figure_byte t table u ≡ 255
    no_count out = sym figure_at ∙ figure_unreached good opened u h out

    rank-byte : rank_in_lem table u < 256
    rank-byte = ⊎_elim (λ path. omega (arith, few_routers, tells.ranked.0 path)) (λ out. omega (arith, tells.unranked.0 out)) tells.either

    hops_byte : figure_byte t table u < 256
    hops_byte = ⊎_elim (λ path. omega (arith, few_routers, hop_counts path)) (λ out. omega (arith, no_count out)) tells.either

  pub lines_length : length (lines_for t d) ≤ most_listing_lines
  unfolding lines_for line_for front_line
  lines_length =
      let few = joined_most (line_for t d table) most_listing_line (below t.routers)
      (λ u m.
      let h = below_lt _ m in
      line_length (front_of_lem d u (rank_in_lem table u) (figure_byte t table u)) (places_in table u)
      record {
        destination = omega (arith, few_routers, place);
        router = omega (arith, few_routers, h);
        rank = rank-byte u h;
        hops = hops_byte u h;
      }
      (entries_fit (row_stands u h))) in
      omega (arith, few, length_below t.routers, few_routers)

  -- the hop counts by place, as they stand at the front of a buffer
  pub counted : length (figures t table) ≡ t.routers
  unfolding figures
  counted = length_map_below (figure_byte t table) t.routers

  pub counts : (rest : List ℕ) → take t.routers (figures t table ++ rest) ≡ figures t table
  counts rest = take_at (figures t table) rest t.routers counted

  pub listable : Listable table (figures t table) t.routers d
  listable =
      record {
        destination = place;
        routers = few_routers;
        counted = omega (arith, counted);
        row = row_stands;
        rank = rank-byte;
        hop_count = λ u h. omega (arith, figure_at u h, hops_byte u h);
      }

  pub lines : table_text table (figures t table) d t.routers ≡ lines_for t d
  unfolding table_text lines_for line_in line_for
  lines = joined_same _ _ (below t.routers) (λ u m. rw (figure_at u (below_lt _ m)))

pub all_length : (t : Topology) → T (sound t) → length (all_lines t) ≤ most_listing_lines * t.routers
unfolding all_lines
all_length t good =
    omega (
      arith,
      joined_most (lines_for t) most_listing_lines (below t.routers) (λ d m. lines_length t good d (below_lt _ m)),
      length_below t.routers,
    )
