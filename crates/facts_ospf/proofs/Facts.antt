-- The prover computes every fact from the definitions.
-- Assumes nothing.
use Rattle.network.specs.Lists.{keep, every, any, least_by, member, same_numbers}
use Rattle.topology_types.specs.Topology.{no_link, padded, contents, held, zeros}
use Rattle.stream_rules.specs.Stream.{big_endian_on, big_endian}
use Rattle.stream_rules.specs.Halves.{first_half, second_half, link_halves, halves, same_half, leaves, opposite, link_of}
use Rattle.stream_rules.specs.Reading.{refusal, accepted_reading, router_fault_lem, repeated, crowded, halves_fault_lem, fault, with_router, with_link, arrived, added}
use Rattle.stream_rules.specs.Reading.{ended, unless, nothing_listed}
use Rattle.ospf_lsas.specs.Lsa.{ls_type, advertising_router, checksum, length_field, link_count, link_in, link_length_lem, whole_link, link_before as link_before, links_in}
use Rattle.ospf_lsas.specs.Lsa.{some?, links, malformed, c0, c1, wrong_sum, lsas_from, lsas, first_at, first_malformed_lem, first_wrong_sum_lem}
use Rattle.ospf_halves.specs.Neighbours.{all_of, point_to_point, lowest_to_lem, once, neighbours_of, place_of, half_to, halves_of}
use Rattle.ospf.specs.Import.{router_of, router_in, half_placed, halves_at, halves_in, placed_in, taken_to, at_last, importing}
use Rattle.ospf_lsas.specs.Facts.{lsa_1, lsa_2, lsa_3, lsa_4, three}
use Rattle.facts_ospf.specs.Facts.{flat_links, answers_so, holds_so, holds, sealed, links_to, made, counted, alone, ring, facts, FactsHold}

pub facts_hold : FactsHold
unfolding least_by member same_numbers no_link padded contents held zeros
    big_endian_on big_endian first_half second_half link_halves halves same_half leaves opposite link_of
    refusal accepted_reading router_fault_lem repeated crowded halves_fault_lem fault with_router with_link arrived added
    ended unless nothing_listed
    ls_type advertising_router checksum length_field link_count link_in link_length_lem whole_link link_before links_in some? links
    malformed c0 c1 wrong_sum lsas_from lsas first_at first_malformed_lem first_wrong_sum_lem
    all_of point_to_point lowest_to_lem once neighbours_of place_of half_to halves_of
    router_of router_in half_placed halves_at halves_in placed_in taken_to at_last importing
    flat_links answers_so holds_so holds lsa_1 lsa_2 lsa_3 lsa_4 three sealed links_to made counted alone ring facts
facts_hold = tt
