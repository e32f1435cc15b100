-- The prover computes every fact from the definitions.
-- Assumes nothing.
use Rattle.network.specs.Lists.{least_by, member, same_numbers}
use Rattle.stream_rules.specs.Stream.{big_endian_on, big_endian}
use Rattle.ospf_lsas.specs.Lsa.{advertising_router, length_field, link_count, link_in, link_length_lem, whole_link, link_before, links_in, links}
use Rattle.ospf_lsas.specs.Facts.{lsa_1, lsa_2, lsa_3, lsa_4, bare}
use Rattle.ospf_halves.specs.Neighbours.{all_of, point_to_point, lowest_to_lem, once, neighbours_of, place_of, half_to, halves_of}
use Rattle.ospf_halves.specs.Facts.{flat_halves, holds, four_ids, given_so, FactsHold}

pub facts_hold : FactsHold
unfolding least_by member same_numbers big_endian_on big_endian
    advertising_router length_field link_count link_in link_length_lem whole_link link_before links_in links
    all_of point_to_point lowest_to_lem once neighbours_of place_of half_to halves_of
    flat_halves holds lsa_1 lsa_2 lsa_3 lsa_4 four_ids bare given_so
facts_hold = tt
