-- The prover computes every fact from the definitions.
-- Assumes nothing.
use Rattle.network.specs.Lists.{numbers_from, below, least_by, greatest_by, ahead, foremost, insert, sort, member, distinct, same_numbers, wins}
use Rattle.network.specs.Network.{size, id_of, arcs_of, greatest_cost, arcs_among, linked, sound_cost, sound_link, same_pair, pairs_differ, sound_links}
use Rattle.network.specs.Distance.{absent, distance_in, through, at_first_lem, round, rounds, distances}
use Rattle.network.specs.Order.{reached, shortest_next_hops, leads_into, ready, candidate, placed_neighbours, preferred, select, continued, placing, build}
use Rattle.network.specs.Row.{rank, sorts_before, ranked_before, full_row, row}
use Rattle.topology_types.specs.Topology.{no_link, padded, contents, held, zeros, seen, network_in, network_of}
use Rattle.topology_sound.specs.Sound.{within, in_limits_lem, well_linked, uncrowded, is_no_link, unused_zero, slotted, sound}
use Rattle.topology.specs.Written.{joined_over}
use Rattle.order.specs.Facts.{answers, link, T-topology, cut_off, two_parts, pair}
use Rattle.table.specs.Facts.{lone, F-links, F-topology}
use Rattle.text.specs.Numbers.{final_digits, number_text}
use Rattle.listing_rules.specs.Listing.{spaced}
use Rattle.coverage_rules.specs.Coverage.{row_for, pairs_to, pairs_of, has_two, covered_among, listed_for, figures_counted, nothing_counted, coverage}
use Rattle.coverage_rules.specs.Printed.{over_links, fractions, numbers, fraction_text, fractions_text, coverage_text}
use Rattle.coverage_rules.specs.Facts.{holds, facts, FactsHold}

pub facts_hold : FactsHold
unfolding numbers_from below least_by greatest_by ahead foremost insert sort member distinct same_numbers wins
    size id_of arcs_of greatest_cost arcs_among linked sound_cost sound_link same_pair pairs_differ sound_links
    absent distance_in through at_first_lem round rounds distances
    reached shortest_next_hops leads_into ready candidate placed_neighbours preferred select continued placing build
    rank sorts_before ranked_before full_row row
    no_link padded contents held zeros seen network_in network_of
    within in_limits_lem well_linked uncrowded is_no_link unused_zero slotted sound
    joined_over answers link T-topology cut_off two_parts pair lone F-links F-topology final_digits number_text spaced
    row_for pairs_to pairs_of has_two covered_among listed_for figures_counted nothing_counted coverage
    over_links fractions numbers fraction_text fractions_text coverage_text holds facts
facts_hold = tt
