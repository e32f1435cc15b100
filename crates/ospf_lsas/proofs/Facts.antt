-- The prover computes every fact from the definitions.
-- Assumes nothing.
use Rattle.network.specs.Lists.{same_numbers}
use Rattle.stream_rules.specs.Stream.{big_endian_on, big_endian}
use Rattle.ospf_lsas.specs.Lsa.{ls_type, advertising_router, checksum, length_field, link_count, link_in, link_length_lem, whole_link, link_before, links_in, some?, links}
use Rattle.ospf_lsas.specs.Lsa.{malformed, c0, c1, wrong_sum, lsas_from, lsas, first_at, first_malformed_lem, first_wrong_sum_lem}
use Rattle.ospf_lsas.specs.Facts.{flat, lists_so, holds, lsa_1, lsa_2, lsa_3, lsa_4, three, bare, read_so, pointed_26, pointed_27, FactsHold}

pub facts_hold : FactsHold
unfolding same_numbers big_endian_on big_endian
    ls_type advertising_router checksum length_field link_count link_in link_length_lem whole_link link_before links_in some? links
    malformed c0 c1 wrong_sum lsas_from lsas first_at first_malformed_lem first_wrong_sum_lem
    flat lists_so holds lsa_1 lsa_2 lsa_3 lsa_4 three bare read_so pointed_26 pointed_27
facts_hold = (tt, tt, tt)
