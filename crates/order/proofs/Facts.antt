-- The prover computes every fact from the definitions.
-- Assumes nothing.
use Rattle.network.specs.Lists.{numbers_from, below, least_by, ahead, foremost, member, distinct, same_numbers, wins}
use Rattle.network.specs.Network.{size, id_of, arcs_of, greatest_cost, arcs_among, linked, sound_cost, sound_link, same_pair, pairs_differ, sound_links}
use Rattle.network.specs.Distance as of-distance
use Rattle.network.specs.Distance.{absent, distance_in, through, round, rounds, distances}
use Rattle.network.specs.Order.{reached, shortest_next_hops, leads_into, ready, candidate, placed_neighbours, preferred, select, continued, placing}
use Rattle.network.specs.Order.{build}
use Rattle.topology_types.specs.Outcome.{turned_away, given}
use Rattle.topology_types.specs.Topology.{no_link, padded, contents, held, zeros, seen, network_in, network_of}
use Rattle.topology_sound.specs.Sound.{within, in_limits_lem, well_linked, uncrowded, is_no_link, unused_zero, slotted, sound}
use Rattle.topology_sound.specs.Place.{on_place}
use Rattle.order.specs.Calls.{mode_of, reached_count_lem, order_bytes, building, wrong_ranks, ranks_after, unready_ranks, refused_at_first, judging, checking}
use Rattle.order.specs.Facts.{answers, holds, link, two_costs, T-topology, square, directed, costs_there, costs_back, cut_off, two_parts, pair}
use Rattle.order.specs.Facts.{facts, FactsHold}

pub facts_hold : FactsHold
unfolding numbers_from below least_by ahead foremost member distinct same_numbers wins
    size id_of arcs_of greatest_cost arcs_among linked sound_cost sound_link same_pair pairs_differ sound_links
    absent distance_in through of-distance.at_first_lem round rounds distances
    reached shortest_next_hops leads_into ready candidate placed_neighbours preferred select continued placing build
    turned_away given no_link padded contents held zeros seen network_in network_of
    within in_limits_lem well_linked uncrowded is_no_link unused_zero slotted sound on_place
    mode_of reached_count_lem order_bytes building wrong_ranks ranks_after unready_ranks refused_at_first judging checking
    answers holds link two_costs T-topology square directed costs_there costs_back cut_off two_parts pair facts
facts_hold = tt
