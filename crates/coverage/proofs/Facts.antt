-- The prover computes every fact from the definitions.
-- Assumes nothing.
use Rattle.network.specs.Lists.{numbers_from, below, least_by, greatest_by, ahead, foremost, insert, sort, member, distinct, same_numbers, wins}
use Rattle.network.specs.Network.{size, id_of, arcs_of, greatest_cost, arcs_among, linked, sound_cost, sound_link, same_pair, pairs_differ, sound_links}
use Rattle.network.specs.Distance.{absent, distance_in, through, at_first_lem, round, rounds, distances}
use Rattle.network.specs.Order.{reached, shortest_next_hops, leads_into, ready, candidate, placed_neighbours, preferred, select, continued, placing, build}
use Rattle.network.specs.Row.{rank, sorts_before, ranked_before, full_row, row}
use Rattle.topology_types.specs.Topology.{no_link, padded, contents, held, zeros, seen, network_in, network_of}
use Rattle.topology_sound.specs.Sound.{within, in_limits_lem, well_linked, uncrowded, is_no_link, unused_zero, slotted, sound}
use Rattle.stream_rules.specs.Stream.{big_endian_on, big_endian, body_length, half_in, decoded, record_in, records}
use Rattle.stream_rules.specs.Halves.{first_half, second_half, link_halves, halves, same_half, leaves, opposite, link_of}
use Rattle.stream_rules.specs.Reading.{refusal, accepted_reading, router_fault_lem, repeated, crowded, halves_fault_lem, fault, with_router, with_link, with_limit, arrived, added}
use Rattle.stream_rules.specs.Reading.{width, is_end, ended, unless, any_record?, in_turn, nothing_listed, reading}
use Rattle.stream_rules.specs.Facts.{T-stream, in_sequence, routers}
use Rattle.topology.specs.Written.{joined_over}
use Rattle.text.specs.Lines.{refused_word, answer_text, answer_line, word_line}
use Rattle.text.specs.Numbers.{final_digits, number_text}
use Rattle.listing_rules.specs.Listing.{spaced}
use Rattle.coverage_rules.specs.Coverage.{row_for, pairs_to, pairs_of, has_two, covered_among, listed_for, figures_counted, coverage}
use Rattle.coverage_rules.specs.Printed.{over_links, fractions, fraction_text, fractions_text, coverage_text}
use Rattle.program_io.specs.Output.{refused_line, printed, output_by}
use Rattle.coverage.specs.Output.{figures_text, coverage_output}
use Rattle.coverage.specs.Facts.{holds, refused, facts, FactsHold}

pub facts_hold : FactsHold
unfolding numbers_from below least_by greatest_by ahead foremost insert sort member distinct same_numbers wins
    size id_of arcs_of greatest_cost arcs_among linked sound_cost sound_link same_pair pairs_differ sound_links
    absent distance_in through at_first_lem round rounds distances
    reached shortest_next_hops leads_into ready candidate placed_neighbours preferred select continued placing build
    rank sorts_before ranked_before full_row row
    no_link padded contents held zeros seen network_in network_of
    within in_limits_lem well_linked uncrowded is_no_link unused_zero slotted sound
    big_endian_on big_endian body_length half_in decoded record_in records
    link_halves first_half second_half halves same_half leaves opposite link_of
    refusal accepted_reading router_fault_lem repeated crowded halves_fault_lem fault with_router with_link with_limit arrived added
    width is_end ended unless any_record? in_turn nothing_listed reading
    T-stream in_sequence routers joined_over refused_word answer_text answer_line word_line final_digits number_text spaced
    row_for pairs_to pairs_of has_two covered_among listed_for figures_counted coverage over_links fractions fraction_text fractions_text coverage_text
    refused_line printed output_by figures_text coverage_output holds refused facts
facts_hold = tt
