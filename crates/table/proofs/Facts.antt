-- The prover computes every fact from the definitions.
-- Assumes nothing.
use Rattle.network.specs.Lists.{numbers_from, below, least_by, insert, sort, member, distinct, same_numbers, wins}
use Rattle.network.specs.Network.{size, id_of, arcs_of, greatest_cost, arcs_among, linked, sound_cost, sound_link, same_pair, pairs_differ, sound_links}
use Rattle.network.specs.Distance as of-distance
use Rattle.network.specs.Distance.{absent, distance_in, through, round, rounds, distances}
use Rattle.network.specs.Order.{reached, leads_into, shortest_next_hops, ready, candidate, candidates_in_turn, holds_each_once, first_is, others_in_turn, accepted}
use Rattle.network.specs.Row.{rank, sorts_before, ranked_before, full_row, row}
use Rattle.topology_types.specs.Outcome.{first_or, turned_away, given}
use Rattle.topology_types.specs.Topology.{no_link, padded, contents, held, zeros, seen, network_in, network_of}
use Rattle.topology_sound.specs.Sound.{within, in_limits_lem, well_linked, uncrowded, is_no_link, unused_zero, slotted, sound}
use Rattle.topology_sound.specs.Place.{on_place}
use Rattle.topology.specs.Written.{joined_over}
use Rattle.order.specs.Calls.{mode_of, reached_count_lem, wrong_ranks, ranks_after, unready_ranks, refused_at_first, judging, checking}
use Rattle.order.specs.Facts.{answers, link, two_costs, T-topology, cut_off, two_parts}
use Rattle.table_rows.specs.Layout.{row_start_lem, number_at, spread}
use Rattle.table_rows.specs.Bytes.{rank_or_none, row_bytes, header_bytes, row_of, table_of, table_bytes}
use Rattle.table.specs.Listed.{kind_in, destination_in_lem, count_in_lem, limit_in_lem, rank_in_lem, by_rank, order_in, in_shortest_path_mode}
use Rattle.table.specs.Calls.{unless_refused, filling, sound_header, sound_ranks, differing, wrong_bytes, table_judging, table_checking, right_bytes, right_ranks}
use Rattle.table.specs.Facts.{holds, lone, slope, F-links, F-topology, F-falling, none, one, two, room}
use Rattle.table.specs.Facts.{filled, checked, formed, FilledHold, CheckedHold, FormedHold}
use Rattle.table.specs.Facts.{lone_table, T-table-0, T-table-1, T-table-2, T-table-free, F-table, F-table-1, F-table-falling}
use Rattle.table.specs.Facts.{slope_table_0, slope_table_2, slope_turned, cut_table_0, cut_table_free, cut_table_3, parts_table_0, parts_table_2}

pub filled_hold : FilledHold
unfolding numbers_from below least_by insert sort member distinct same_numbers wins
    size id_of arcs_of greatest_cost arcs_among linked sound_cost sound_link same_pair pairs_differ sound_links
    absent distance_in through of-distance.at_first_lem round rounds distances
    reached leads_into ready candidate rank sorts_before ranked_before full_row row
    turned_away given no_link padded contents held zeros seen network_in network_of
    within in_limits_lem well_linked uncrowded is_no_link unused_zero slotted sound on_place
    joined_over mode_of reached_count_lem wrong_ranks ranks_after unready_ranks refused_at_first judging checking answers link two_costs T-topology cut_off two_parts
    rank_or_none spread row_bytes header_bytes row_of table_of table_bytes row_start_lem number_at unless_refused filling
    holds lone slope F-links F-topology F-falling none one two room filled
    lone_table T-table-0 T-table-1 T-table-2 T-table-free F-table F-table-1 F-table-falling slope_table_0 slope_table_2
    cut_table_0 cut_table_free cut_table_3 parts_table_0 parts_table_2
filled_hold = tt

pub checked_hold : CheckedHold
unfolding numbers_from below least_by insert sort member distinct same_numbers wins
    size id_of arcs_of greatest_cost arcs_among linked sound_cost sound_link same_pair pairs_differ sound_links
    absent distance_in through of-distance.at_first_lem round rounds distances
    reached leads_into ready candidate candidates_in_turn holds_each_once first_is others_in_turn accepted rank sorts_before ranked_before full_row row
    first_or no_link padded contents held zeros seen network_in network_of
    within in_limits_lem well_linked uncrowded is_no_link unused_zero slotted sound
    joined_over refused_at_first answers link two_costs T-topology cut_off two_parts
    rank_or_none spread row_bytes header_bytes row_of table_of table_bytes row_start_lem number_at
    kind_in destination_in_lem count_in_lem limit_in_lem rank_in_lem by_rank order_in sound_header sound_ranks right_ranks differing wrong_bytes right_bytes table_checking table_judging
    holds lone slope F-links F-topology F-falling none one two checked
    lone_table T-table-0 T-table-1 T-table-2 T-table-free F-table F-table-1 F-table-falling slope_table_0 slope_table_2 slope_turned
    cut_table_0 cut_table_free cut_table_3 parts_table_0 parts_table_2
checked_hold = tt

pub formed_hold : FormedHold
unfolding numbers_from below least_by member distinct same_numbers
    size arcs_of greatest_cost arcs_among linked
    absent distance_in through of-distance.at_first_lem round rounds distances
    reached leads_into shortest_next_hops ready candidate candidates_in_turn holds_each_once first_is others_in_turn accepted
    first_or no_link padded contents held seen network_in network_of link two_costs T-topology cut_off two_parts
    row_start_lem number_at destination_in_lem rank_in_lem by_rank order_in in_shortest_path_mode
    holds slope none one two T-table-0 T-table-free F-table slope_table_0 slope_table_2 formed
    cut_table_0 cut_table_free cut_table_3 parts_table_2
formed_hold = tt
