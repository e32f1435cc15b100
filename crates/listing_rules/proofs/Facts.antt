-- The prover computes every fact from the definitions.
-- Assumes nothing.
use Rattle.network.specs.Lists.{numbers_from, below, least_by, greatest_by, ahead, foremost, insert, sort, member, distinct, same_numbers, wins}
use Rattle.network.specs.Network.{size, id_of, arcs_of, greatest_cost, arcs_among, linked, sound_cost, sound_link, same_pair, pairs_differ, sound_links}
use Rattle.network.specs.Distance.{absent, distance_in, through, at_first_lem, round, rounds, distances}
use Rattle.network.specs.Order.{reached, shortest_next_hops, leads_into, ready, candidate, placed_neighbours, preferred, select, continued, placing, build}
use Rattle.network.specs.Row.{rank, sorts_before, ranked_before, full_row, row}
use Rattle.network.specs.Forwarding.{longest}
use Rattle.topology_types.specs.Outcome.{turned_away, given}
use Rattle.topology_types.specs.Topology.{no_link, padded, contents, held, zeros, seen, network_in, network_of}
use Rattle.topology_sound.specs.Sound.{within, in_limits_lem, well_linked, uncrowded, is_no_link, unused_zero, slotted, sound}
use Rattle.topology_sound.specs.Place.{on_place}
use Rattle.topology.specs.Written.{joined_over}
use Rattle.order.specs.Facts.{answers, link, T-topology, cut_off, two_parts, pair}
use Rattle.table_rows.specs.Layout.{row_start_lem, number_at, spread}
use Rattle.table_rows.specs.Bytes.{rank_or_none, row_bytes, header_bytes, row_of, table_of, table_bytes}
use Rattle.table.specs.Listed.{destination_in_lem, rank_in_lem, entry_count, places_in, arcs_to, entries_in, listed}
use Rattle.table.specs.Calls.{built_table}
use Rattle.table.specs.Facts.{lone, F-links, F-topology}
use Rattle.forwarding_rules.specs.Calls.{figure, figure_byte}
use Rattle.text.specs.Hex.{none}
use Rattle.text.specs.Numbers.{final_digits, number_text}
use Rattle.listing_rules.specs.Listing.{spaced, row_fields, line_text, table_for, line_for, lines_for, all_lines, listing}
use Rattle.listing_rules.specs.Facts.{holds, T-0, T-1, T-2, F-0, F-0-limited, eleven, eleven_10, lone_0, no_path, itself, next, cut_off_3, cut_off_all}
use Rattle.listing_rules.specs.Facts.{two_parts_0, two_parts_1, two_parts_2, two_parts_3, pair_all, room, facts, FactsHold}

pub facts_hold : FactsHold
unfolding numbers_from below least_by greatest_by ahead foremost insert sort member distinct same_numbers wins
    size id_of arcs_of greatest_cost arcs_among linked sound_cost sound_link same_pair pairs_differ sound_links
    absent distance_in through at_first_lem round rounds distances
    reached shortest_next_hops leads_into ready candidate placed_neighbours preferred select continued placing build
    rank sorts_before ranked_before full_row row longest
    turned_away given no_link padded contents held zeros seen network_in network_of
    within in_limits_lem well_linked uncrowded is_no_link unused_zero slotted sound on_place
    joined_over answers link T-topology cut_off two_parts pair spread rank_or_none row_bytes header_bytes row_of table_of table_bytes row_start_lem number_at
    destination_in_lem rank_in_lem entry_count places_in arcs_to entries_in listed built_table lone F-links F-topology figure figure_byte
    none final_digits number_text spaced row_fields line_text table_for line_for lines_for all_lines listing
    holds T-0 T-1 T-2 F-0 F-0-limited eleven eleven_10 lone_0
    no_path itself next cut_off_3 cut_off_all two_parts_0 two_parts_1 two_parts_2 two_parts_3 pair_all room facts
facts_hold = tt
