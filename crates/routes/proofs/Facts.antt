-- The prover computes every fact from the definitions.
-- Assumes nothing.
use Rattle.network.specs.Lists.{numbers_from, below, least_by, greatest_by, ahead, foremost, insert, sort, member, same_numbers, wins}
use Rattle.network.specs.Network.{size, id_of, arcs_of, greatest_cost, arcs_among, linked}
use Rattle.network.specs.Distance.{absent, distance_in, through, at_first_lem, round, rounds, distances}
use Rattle.network.specs.Order.{reached, shortest_next_hops, leads_into, ready, candidate, placed_neighbours, preferred, select, continued, placing, build}
use Rattle.network.specs.Row.{rank, sorts_before, ranked_before, full_row, row}
use Rattle.network.specs.Paths.{paths_at, through_each, paths_from}
use Rattle.topology_types.specs.Topology.{no_link, padded, contents, held, zeros, seen, network_in, network_of}
use Rattle.topology_sound.specs.Sound.{within}
use Rattle.stream_rules.specs.Stream.{big_endian_on, big_endian, body_length, half_in, decoded, record_in, records}
use Rattle.stream_rules.specs.Halves.{first_half, second_half, link_halves, halves, same_half, leaves, opposite, link_of}
use Rattle.stream_rules.specs.Reading.{refusal, accepted_reading, router_fault_lem, repeated, crowded, halves_fault_lem, fault, with_router, with_link, with_limit, arrived, added}
use Rattle.stream_rules.specs.Reading.{width, is_end, ended, unless, any_record?, in_turn, nothing_listed, reading}
use Rattle.stream_rules.specs.Facts.{T-stream, in_sequence, routers}
use Rattle.topology.specs.Written.{joined_over}
use Rattle.table_rows.specs.Layout.{row_start_lem, number_at, spread}
use Rattle.table_rows.specs.Bytes.{rank_or_none, row_bytes, header_bytes, row_of, table_of, table_bytes}
use Rattle.table.specs.Listed.{destination_in_lem, rank_in_lem, entry_count, places_in, arcs_to, entries_in, listed}
use Rattle.table.specs.Calls.{built_table}
use Rattle.text.specs.Lines.{refused_word, answer_text, answer_line, word_line}
use Rattle.text.specs.Numbers.{final_digits, number_text}
use Rattle.listing_rules.specs.Listing.{spaced, table_for}
use Rattle.paths_rules.specs.Calls.{paths_of}
use Rattle.paths_lines.specs.Lines.{colon, too_many, line_of, path_line, lines_from, lines_to, all_paths}
use Rattle.paths_lines.specs.Facts.{T-0, T-1, T-2, lone_0}
use Rattle.program_io.specs.Output.{refused_line, printed, output_by}
use Rattle.routes.specs.Output.{routes_output}
use Rattle.routes.specs.Facts.{holds, refused, facts, FactsHold}

pub facts_hold : FactsHold
unfolding numbers_from below least_by greatest_by ahead foremost insert sort member same_numbers wins
    size id_of arcs_of greatest_cost arcs_among linked
    absent distance_in through at_first_lem round rounds distances
    reached shortest_next_hops leads_into ready candidate placed_neighbours preferred select continued placing build
    rank sorts_before ranked_before full_row row paths_at through_each paths_from
    no_link padded contents held zeros seen network_in network_of within
    big_endian_on big_endian body_length half_in decoded record_in records
    link_halves first_half second_half halves same_half leaves opposite link_of
    refusal accepted_reading router_fault_lem repeated crowded halves_fault_lem fault with_router with_link with_limit arrived added
    width is_end ended unless any_record? in_turn nothing_listed reading
    T-stream in_sequence routers joined_over rank_or_none row_start_lem number_at spread row_bytes header_bytes row_of table_of table_bytes
    destination_in_lem rank_in_lem entry_count places_in arcs_to entries_in listed built_table refused_word answer_text answer_line word_line final_digits number_text
    spaced table_for paths_of colon too_many line_of path_line lines_from lines_to all_paths T-0 T-1 T-2 lone_0
    refused_line printed output_by routes_output holds refused facts
facts_hold = tt
