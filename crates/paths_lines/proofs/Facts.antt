-- The prover computes every fact from the definitions.
-- Assumes nothing.
use Rattle.network.specs.Lists.{numbers_from, below, least_by, greatest_by, ahead, foremost, insert, sort, member, same_numbers, wins}
use Rattle.network.specs.Network.{size, id_of, arcs_of, greatest_cost, arcs_among, linked}
use Rattle.network.specs.Distance.{absent, distance_in, through, at_first_lem, round, rounds, distances}
use Rattle.network.specs.Order.{reached, shortest_next_hops, leads_into, ready, candidate, placed_neighbours, preferred, select, continued, placing, build}
use Rattle.network.specs.Row.{rank, sorts_before, ranked_before, full_row, row}
use Rattle.network.specs.Paths.{paths_at, through_each, paths_from}
use Rattle.topology_types.specs.Topology.{no_link, padded, contents, held, seen, network_in, network_of}
use Rattle.topology.specs.Written.{joined_over}
use Rattle.order.specs.Facts.{link, T-topology}
use Rattle.table_rows.specs.Layout.{row_start_lem, number_at, spread}
use Rattle.table_rows.specs.Bytes.{row_bytes, header_bytes, row_of, table_of, table_bytes}
use Rattle.table.specs.Listed.{destination_in_lem, rank_in_lem, entry_count, places_in, arcs_to, entries_in, listed}
use Rattle.table.specs.Calls.{built_table}
use Rattle.table.specs.Facts.{lone, F-links, F-topology}
use Rattle.text.specs.Numbers.{final_digits, number_text}
use Rattle.listing_rules.specs.Listing.{spaced, table_for}
use Rattle.listing_rules.specs.Facts.{eleven}
use Rattle.paths_rules.specs.Calls.{paths_of}
use Rattle.paths_rules.specs.Facts.{twelve}
use Rattle.paths_lines.specs.Lines.{colon, too_many, line_of, path_line, lines_from, lines_to, all_paths}
use Rattle.paths_lines.specs.Facts.{holds, T-0, T-1, T-2, F-first, F-others, lone_0, eleven_8, eleven_10, twelve_10, twelve_1, facts, FactsHold, MoreHold}

pub facts_hold : FactsHold
unfolding numbers_from below least_by greatest_by ahead foremost insert sort member same_numbers wins
    size id_of arcs_of greatest_cost arcs_among linked
    absent distance_in through at_first_lem round rounds distances
    reached shortest_next_hops leads_into ready candidate placed_neighbours preferred select continued placing build
    rank sorts_before ranked_before full_row row paths_at through_each paths_from
    no_link padded contents held seen network_in network_of joined_over link T-topology
    row_start_lem number_at spread row_bytes header_bytes row_of table_of table_bytes destination_in_lem rank_in_lem entry_count places_in arcs_to entries_in listed built_table lone F-links F-topology
    final_digits number_text spaced table_for eleven paths_of twelve colon too_many line_of path_line lines_from lines_to all_paths
    holds T-0 T-1 T-2 F-first F-others lone_0 eleven_8 eleven_10 twelve_10 facts
facts_hold = tt

pub more_hold : MoreHold
unfolding numbers_from below least_by greatest_by ahead foremost insert sort member same_numbers wins
    size id_of arcs_of greatest_cost arcs_among linked
    absent distance_in through at_first_lem round rounds distances
    reached shortest_next_hops leads_into ready candidate placed_neighbours preferred select continued placing build
    rank sorts_before ranked_before full_row row paths_at through_each paths_from
    no_link padded contents held seen network_in network_of joined_over link
    row_start_lem number_at spread row_bytes header_bytes row_of table_of table_bytes destination_in_lem rank_in_lem entry_count places_in arcs_to entries_in listed built_table
    final_digits number_text spaced table_for paths_of twelve colon too_many line_of path_line lines_from holds twelve_1
more_hold = tt
