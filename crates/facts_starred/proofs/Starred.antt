-- The prover computes the further facts from the definitions of `network`, that the networks are well formed, and what their streams are read as.
-- Assumes nothing.
use mathlib.Core.Path.{refl}
use Rattle.network.specs.Lists.{numbers_from, below, least_by, greatest_by, ahead, foremost, insert, sort, member, distinct, same_numbers, wins}
use Rattle.network.specs.Network.{size, id_of, arcs_of, greatest_cost, arcs_among, linked, sound_cost, sound_link, same_pair, pairs_differ, sound_links}
use Rattle.network.specs.Distance as of-distance
use Rattle.network.specs.Distance.{absent, distance_in, through, round, rounds, distances}
use Rattle.network.specs.Order.{reached, shortest_next_hops, leads_into, ready, candidate, placed_neighbours, preferred, select, continued, placing, build}
use Rattle.network.specs.Row.{rank, sorts_before, ranked_before, full_row, row}
use Rattle.network.specs.Forwarding.{hop_to, hop, start, route_on, route, longest}
use Rattle.network.specs.Paths.{paths_at, through_each, paths_from}
use Rattle.network.specs.Calls.{after_hop, after_call, after_calls}
use Rattle.network.specs.Routing.{up, first_live, valid_states, greatest_hops_lem, cost_of_lem}
use Rattle.network.proofs.Linked.{linked_well_formed}
use Rattle.topology_types.specs.Topology.{no_link, padded, contents, held, zeros, seen, network_in, network_of}
use Rattle.topology_sound.specs.Sound.{within}
use Rattle.stream_rules.specs.Stream.{big_endian_on, big_endian, body_length, half_in, decoded, record_in, records}
use Rattle.stream_rules.specs.Halves.{first_half, second_half, link_halves, halves, same_half, leaves, opposite, link_of}
use Rattle.stream_rules.specs.Reading.{refusal, accepted_reading, router_fault_lem, repeated, crowded, halves_fault_lem, fault, with_router, with_link, with_limit, arrived, added}
use Rattle.stream_rules.specs.Reading.{width, is_end, ended, unless, any_record?, in_turn, nothing_listed, reading}
use Rattle.stream_rules.specs.Facts.{T-stream}
use Rattle.facts_starred.specs.Facts.Fact.{up_but, left_at, call_of, same_paths, claim_holds, holds}
use Rattle.facts_starred.specs.Facts.Starred.{link, two_costs, T-network, F-network, alone, slope, slope_stream, about, F-stream, alone_stream}
use Rattle.facts_starred.specs.Facts.Starred.{T-reversed, all_up, further, FurtherHold, WorkedWellFormed, StreamsRead}

pub further_hold : FurtherHold
unfolding numbers_from below least_by greatest_by ahead foremost insert sort member same_numbers wins
    size id_of arcs_of greatest_cost arcs_among linked
    absent distance_in through of-distance.at_first_lem round rounds distances
    reached shortest_next_hops leads_into ready candidate placed_neighbours preferred select continued placing build
    rank sorts_before ranked_before full_row row
    hop_to hop start route_on route longest after_hop after_call after_calls
    up first_live valid_states greatest_hops_lem paths_at through_each paths_from cost_of_lem
    up_but left_at call_of same_paths claim_holds holds
    link two_costs T-network F-network T-reversed slope about all_up further
further_hold = tt

pub worked_well_formed : WorkedWellFormed
unfolding member distinct greatest_cost sound_cost sound_link same_pair pairs_differ sound_links link two_costs T-network F-network alone slope
worked_well_formed = (linked_well_formed _ _ tt, linked_well_formed _ _ tt, linked_well_formed _ _ tt, linked_well_formed _ _ tt)

pub streams_read : StreamsRead
unfolding numbers_from below least_by member
    size arcs_of greatest_cost arcs_among linked
    absent distance_in through of-distance.at_first_lem round rounds distances reached
    no_link padded contents held zeros seen network_in network_of within
    big_endian_on big_endian body_length half_in decoded record_in records
    link_halves first_half second_half halves same_half leaves opposite link_of
    refusal accepted_reading router_fault_lem repeated crowded halves_fault_lem fault with_router with_link with_limit arrived added
    width is_end ended unless any_record? in_turn nothing_listed reading
    T-stream link two_costs T-network F-network alone slope F-stream alone_stream slope_stream
streams_read = (refl, refl, refl, refl, refl)
