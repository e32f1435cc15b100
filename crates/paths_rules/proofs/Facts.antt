-- The prover computes every fact from the definitions.
-- Assumes nothing.
use Rattle.network.specs.Lists.{numbers_from, below, least_by, insert, sort, member, distinct, same_numbers, wins}
use Rattle.network.specs.Network.{size, id_of, arcs_of, greatest_cost, arcs_among, linked, sound_cost, sound_link, same_pair, pairs_differ, sound_links}
use Rattle.network.specs.Distance as of-distance
use Rattle.network.specs.Distance.{absent, distance_in, through, round, rounds, distances}
use Rattle.network.specs.Order.{reached, leads_into, ready, candidate, candidates_in_turn, holds_each_once, first_is, others_in_turn, accepted}
use Rattle.network.specs.Row.{rank, sorts_before, ranked_before, full_row, row}
use Rattle.network.specs.Paths.{paths_at, through_each, paths_from}
use Rattle.topology_types.specs.Outcome.{first_or, turned_away, given}
use Rattle.topology_types.specs.Topology.{no_link, padded, contents, held, zeros, seen, network_in, network_of}
use Rattle.topology_sound.specs.Sound.{within, in_limits_lem, well_linked, uncrowded, is_no_link, unused_zero, slotted, sound}
use Rattle.topology_sound.specs.Place.{on_place}
use Rattle.topology.specs.Written.{joined_over}
use Rattle.order.specs.Calls.{refused_at_first}
use Rattle.order.specs.Facts.{answers, link, T-topology, cut_off}
use Rattle.table_rows.specs.Layout.{row_start_lem, number_at, spread}
use Rattle.table_rows.specs.Bytes.{rank_or_none, row_bytes, header_bytes, row_of, table_of, table_bytes}
use Rattle.table.specs.Listed.{kind_in, destination_in_lem, count_in_lem, limit_in_lem, rank_in_lem, entry_count, places_in, arcs_to, entries_in, listed, by_rank, order_in}
use Rattle.table.specs.Calls.{unless_refused, sound_header, sound_ranks, right_ranks, differing, right_bytes, wrong_bytes, table_judging, table_checking}
use Rattle.table.specs.Facts as tables
use Rattle.table.specs.Facts.{lone, lone_table, T-table-0, T-table-free, F-links, F-topology, F-table, F-table-1, room, cut_table_0, cut_table_3}
use Rattle.paths_rules.specs.Calls.{paths_of, path_bytes, paths_bytes, writing_paths}
use Rattle.paths_rules.specs.Facts.{writes, holds, one, two, three, four, five, F-5, written}
use Rattle.paths_rules.specs.Facts.{twelve, twelve_table, WrittenHold, MostHold}

pub written_hold : WrittenHold
unfolding numbers_from below least_by insert sort member distinct same_numbers wins
    size id_of arcs_of greatest_cost arcs_among linked sound_cost sound_link same_pair pairs_differ sound_links
    absent distance_in through of-distance.at_first_lem round rounds distances
    reached leads_into ready candidate candidates_in_turn holds_each_once first_is others_in_turn accepted rank sorts_before ranked_before full_row row
    paths_at through_each paths_from
    first_or turned_away given no_link padded contents held zeros seen network_in network_of
    within in_limits_lem well_linked uncrowded is_no_link unused_zero slotted sound on_place
    joined_over refused_at_first answers link T-topology cut_off rank_or_none row_start_lem number_at spread row_bytes header_bytes row_of table_of table_bytes
    kind_in destination_in_lem count_in_lem limit_in_lem rank_in_lem entry_count places_in arcs_to entries_in listed by_rank order_in
    unless_refused sound_header sound_ranks right_ranks differing wrong_bytes right_bytes table_judging table_checking
    lone lone_table tables.none tables.one tables.two T-table-0 T-table-free cut_table_0 cut_table_3 F-links F-topology F-table F-table-1 room
    paths_of path_bytes paths_bytes writing_paths writes holds one two three four five F-5 written
written_hold = tt

pub most_hold : MostHold
unfolding numbers_from below least_by insert sort member distinct same_numbers wins
    size id_of arcs_of greatest_cost arcs_among linked sound_cost sound_link same_pair pairs_differ sound_links
    absent distance_in through of-distance.at_first_lem round rounds distances
    reached leads_into ready candidate candidates_in_turn holds_each_once first_is others_in_turn accepted rank sorts_before ranked_before full_row row
    paths_at through_each paths_from
    first_or turned_away given no_link padded contents held seen network_in network_of
    within in_limits_lem well_linked uncrowded is_no_link unused_zero slotted sound on_place
    joined_over refused_at_first answers link rank_or_none row_start_lem number_at spread row_bytes header_bytes row_of table_of table_bytes
    kind_in destination_in_lem count_in_lem limit_in_lem rank_in_lem entry_count places_in arcs_to entries_in listed by_rank order_in
    unless_refused sound_header sound_ranks right_ranks differing wrong_bytes right_bytes table_judging table_checking
    paths_of path_bytes paths_bytes writing_paths writes holds twelve twelve_table
most_hold = (tt, tt)
