-- The prover computes every fact from the definitions.
-- Assumes nothing.
use lib.Ieee.{of_bits, to_bits}
use Rattle.network.specs.Lists.{numbers_from, below, least_by, greatest_by, ahead, foremost, insert, sort, member, distinct, same_numbers, wins}
use Rattle.network.specs.Network.{size, id_of, arcs_of, greatest_cost, arcs_among, linked, sound_cost, sound_link, same_pair, pairs_differ, sound_links}
use Rattle.network.specs.Distance.{absent, distance_in, through, at_first_lem, round, rounds, distances}
use Rattle.network.specs.Order.{reached, shortest_next_hops, leads_into, ready, candidate, placed_neighbours, preferred, select, continued, placing, build}
use Rattle.network.specs.Row.{rank, sorts_before, ranked_before, full_row, row}
use Rattle.topology_types.specs.Topology.{no_link, padded, contents, held, zeros, seen, network_in, network_of}
use Rattle.topology_sound.specs.Sound.{within, in_limits_lem, well_linked, uncrowded, is_no_link, unused_zero, slotted, sound}
use Rattle.topology.specs.Written.{joined_over}
use Rattle.order.specs.Facts.{link, T-topology}
use Rattle.table.specs.Facts.{lone}
use Rattle.text.specs.Lines.{answer_text, answer_line}
use Rattle.text.specs.Numbers.{final_digits, number_text}
use Rattle.listing_rules.specs.Listing.{spaced}
use Rattle.coverage_rules.specs.Coverage.{row_for, pairs_to, pairs_of, has_two, covered_among, listed_for, figures_counted, nothing_counted, coverage}
use Rattle.coverage_rules.specs.Printed.{over_links, fractions, numbers}
use Rattle.console_held.specs.Requests.{answer_of}
use Rattle.stream_rules.specs.Stream.{big_endian, big_endian_on}
use Rattle.te.specs.SubTlvs.{type_of, length_of, span_of, cut_short, number_in, usable, case_of, judged, sub_in}
use Rattle.te.specs.Cost.{nothing, gathered, held_to_range, bandwidth_cost, maximum_cost, record_cost, refused_cost, concluded, fault_of_lem, added_sub, taken_from, costing}
use Rattle.console_replies.specs.Calls.{coverage_line, presence, cost_numbers, cost_line}
use Rattle.console_replies.specs.Facts.{holds, facts, FactsHold, line_holds, line_facts, LinesHold}

pub facts_hold : FactsHold
unfolding numbers_from below least_by greatest_by ahead foremost insert sort member distinct same_numbers wins
    size id_of arcs_of greatest_cost arcs_among linked sound_cost sound_link same_pair pairs_differ sound_links
    absent distance_in through at_first_lem round rounds distances
    reached shortest_next_hops leads_into ready candidate placed_neighbours preferred select continued placing build
    rank sorts_before ranked_before full_row row
    no_link padded contents held zeros seen network_in network_of
    within in_limits_lem well_linked uncrowded is_no_link unused_zero slotted sound
    joined_over link T-topology lone answer_text answer_line final_digits number_text spaced
    row_for pairs_to pairs_of has_two covered_among listed_for figures_counted nothing_counted coverage
    over_links fractions numbers answer_of coverage_line holds facts
facts_hold = tt

pub lines_hold : LinesHold
unfolding same_numbers big_endian big_endian_on of_bits to_bits final_digits number_text spaced
    type_of length_of span_of cut_short number_in usable case_of judged sub_in
    nothing gathered held_to_range bandwidth_cost maximum_cost record_cost refused_cost concluded fault_of_lem added_sub taken_from costing
    presence cost_numbers cost_line line_holds line_facts
lines_hold = tt
