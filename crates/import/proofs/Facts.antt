-- The prover computes every fact from the definitions.
-- Assumes nothing.
use Rattle.network.specs.Lists.{least_by, member, same_numbers}
use Rattle.topology_types.specs.Topology.{no_link, padded, contents, held, zeros}
use Rattle.stream_rules.specs.Stream.{big_endian_on, big_endian, in_bytes}
use Rattle.stream_rules.specs.Halves.{first_half, second_half, link_halves, halves, same_half, leaves, opposite, link_of}
use Rattle.stream_rules.specs.Reading.{refusal, accepted_reading, router_fault_lem, repeated, crowded, halves_fault_lem, fault, with_router, with_link, arrived, added}
use Rattle.stream_rules.specs.Reading.{ended, unless, nothing_listed}
use Rattle.topology.specs.Written.{joined_over, router_bytes, half_body, half_bytes, link_bytes, limit_bytes, written}
use Rattle.text.specs.Lines.{refused_word, answer_text, answer_line, word_line}
use Rattle.text.specs.Numbers.{final_digits, number_text}
use Rattle.ospf_lsas.specs.Lsa.{ls_type, advertising_router, checksum, length_field, link_count, link_in, link_length_lem, whole_link, link_before as with_next, links_in, some?, links}
use Rattle.ospf_lsas.specs.Lsa.{malformed, c0, c1, wrong_sum, lsas_from, lsas, first_at, first_malformed_lem, first_wrong_sum_lem}
use Rattle.ospf_halves.specs.Neighbours.{all_of, point_to_point, lowest_to_lem, once, neighbours_of, place_of, half_to, halves_of}
use Rattle.ospf.specs.Import.{router_of, router_in, half_placed, halves_at, halves_in, placed_in, taken_to, at_last, importing}
use Rattle.ospf_lsas.specs.Facts.{lsa_1, lsa_2, lsa_3, three}
use Rattle.program_io.specs.Output.{refused_line}
use Rattle.import.specs.Output.{imported_stream, complaint_of, import_output, complaint}
use Rattle.import.specs.Facts.{holds, refused, facts, FactsHold}

pub facts_hold : FactsHold
unfolding least_by member same_numbers no_link padded contents held zeros
    big_endian_on big_endian in_bytes first_half second_half link_halves halves same_half leaves opposite link_of
    refusal accepted_reading router_fault_lem repeated crowded halves_fault_lem fault with_router with_link arrived added ended unless nothing_listed
    joined_over router_bytes half_body half_bytes link_bytes limit_bytes written refused_word answer_text answer_line word_line final_digits number_text
    ls_type advertising_router checksum length_field link_count link_in link_length_lem whole_link with_next links_in some? links
    malformed c0 c1 wrong_sum lsas_from lsas first_at first_malformed_lem first_wrong_sum_lem
    all_of point_to_point lowest_to_lem once neighbours_of place_of half_to halves_of router_of router_in half_placed halves_at halves_in placed_in taken_to at_last importing
    lsa_1 lsa_2 lsa_3 three refused_line imported_stream complaint_of import_output complaint holds refused facts
facts_hold = tt
