-- The prover computes every fact that goes through the calls, from the definitions: the starred ones, and those of parts apart.
-- Assumes nothing.
use Rattle.network.specs.Lists.{numbers_from, below, least_by, greatest_by, ahead, foremost, insert, sort, member, distinct, same_numbers, wins}
use Rattle.network.specs.Network.{size, id_of, arcs_of, greatest_cost, arcs_among, linked, sound_cost, sound_link, same_pair, pairs_differ, sound_links}
use Rattle.network.specs.Distance as of-distance
use Rattle.network.specs.Distance.{absent, distance_in, through, round, rounds, distances}
use Rattle.network.specs.Order as of-order
use Rattle.network.specs.Order.{reached, shortest_next_hops, leads_into, ready, candidate, placed_neighbours, preferred, select, continued, placing, build}
use Rattle.network.specs.Order.{candidates_in_turn, holds_each_once, first_is, others_in_turn}
use Rattle.network.specs.Row.{rank, sorts_before, ranked_before, full_row, row}
use Rattle.network.specs.Forwarding.{hop_to, hop, walk_on, walk_end, walk, start, longest}
use Rattle.network.specs.Routing.{up, first_live}
use Rattle.topology_types.specs.Outcome.{first_or, turned_away, given}
use Rattle.topology_types.specs.Topology.{no_link, padded, contents, held, zeros, seen, network_in, network_of}
use Rattle.topology_sound.specs.Sound.{within, in_limits_lem, well_linked, uncrowded, is_no_link, unused_zero, slotted, sound}
use Rattle.topology_sound.specs.Place.{on_place}
use Rattle.stream_rules.specs.Stream.{big_endian_on, big_endian, body_length, half_in, decoded, record_in, records}
use Rattle.stream_rules.specs.Halves.{first_half, second_half, link_halves, halves, same_half, leaves, opposite, link_of}
use Rattle.stream_rules.specs.Reading.{refusal, accepted_reading, router_fault_lem, repeated, crowded, halves_fault_lem, fault, with_router, with_link, with_limit, arrived, added}
use Rattle.stream_rules.specs.Reading.{width, is_end, ended, unless, any_record?, in_turn, nothing_listed, reading}
use Rattle.stream_rules.specs.Facts.{T-stream}
use Rattle.topology.specs.Written.{joined_over}
use Rattle.order.specs.Calls.{mode_of, reached_count_lem, order_bytes, building, wrong_ranks, ranks_after, unready_ranks, refused_at_first, judging, checking}
use Rattle.order.specs.Facts.{answers}
use Rattle.table_rows.specs.Layout.{row_start_lem, number_at, spread}
use Rattle.table_rows.specs.Bytes.{rank_or_none, row_bytes, header_bytes, row_of, table_of, table_bytes}
use Rattle.table.specs.Listed.{kind_in, destination_in_lem, count_in_lem, limit_in_lem, rank_in_lem, entry_count, places_in, arcs_to, entries_in, listed, by_rank, order_in}
use Rattle.table.specs.Calls.{unless_refused, filling, sound_header, sound_ranks, right_ranks, differing, right_bytes, wrong_bytes, table_judging, table_checking}
use Rattle.table.specs.Facts.{room}
use Rattle.forwarding_rules.specs.Schedule.{row_in, row_counts, rows_in, sound_length, wrong_states}
use Rattle.forwarding_rules.specs.Calls.{tested, tested_by, tested_over, figure, figure_byte, figures, counting_hops, setting_at, hopping, walking}
use Rattle.forwarding_rules.specs.Lent.{packet_after_setting_lem, packet_after_hop_lem, setting_packet, hopping_packet}
use Rattle.forwarding_rules.specs.Lists.{after_one, after_all}
use Rattle.facts_starred.specs.Facts.Fact.{up_but, left_at}
use Rattle.facts_starred.specs.Facts.Chain.{wrote, ends_so, by_table, by_order, by_reading, follows}
use Rattle.facts_starred.specs.Facts.Starred.{link, F-network, F-stream, alone_stream, from, F-schedule, starred, StarredHold}
use Rattle.facts_starred.specs.Facts.Apart.{cut_off, two_parts, pair, three_up, apart, ApartHold}

chains_hold : StarredHold × ApartHold
unfolding numbers_from below least_by greatest_by ahead foremost insert sort member distinct same_numbers wins
    size id_of arcs_of greatest_cost arcs_among linked sound_cost sound_link same_pair pairs_differ sound_links
    absent distance_in through of-distance.at_first_lem round rounds distances
    reached shortest_next_hops leads_into ready candidate placed_neighbours preferred select continued placing build
    candidates_in_turn holds_each_once first_is others_in_turn of-order.accepted
    rank sorts_before ranked_before full_row row
    hop_to hop walk_on walk_end walk start longest up first_live
    first_or turned_away given no_link padded contents held zeros seen network_in network_of
    within in_limits_lem well_linked uncrowded is_no_link unused_zero slotted sound on_place
    big_endian_on big_endian body_length half_in decoded record_in records
    link_halves first_half second_half halves same_half leaves opposite link_of
    refusal accepted_reading router_fault_lem repeated crowded halves_fault_lem fault with_router with_link with_limit arrived added
    width is_end ended unless any_record? in_turn nothing_listed reading
    T-stream joined_over mode_of reached_count_lem order_bytes building wrong_ranks ranks_after unready_ranks refused_at_first judging checking answers
    rank_or_none row_start_lem number_at spread row_bytes header_bytes row_of table_of table_bytes
    kind_in destination_in_lem count_in_lem limit_in_lem rank_in_lem entry_count places_in arcs_to entries_in listed by_rank order_in
    unless_refused filling sound_header sound_ranks right_ranks differing wrong_bytes right_bytes table_judging table_checking room
    row_in row_counts rows_in sound_length wrong_states tested tested_by tested_over figure figure_byte figures counting_hops setting_at hopping walking
    packet_after_setting_lem packet_after_hop_lem setting_packet hopping_packet after_one after_all
    up_but left_at wrote ends_so by_table by_order by_reading follows
    link F-network F-stream alone_stream from F-schedule starred cut_off two_parts pair three_up apart
chains_hold = (tt, tt)

pub starred_hold : StarredHold
starred_hold = chains_hold.0

pub apart_hold : ApartHold
apart_hold = chains_hold.1
