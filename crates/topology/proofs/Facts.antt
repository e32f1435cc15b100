-- The prover computes every fact from the definitions.
-- Assumes nothing.
use Rattle.network.specs.Lists.{member, same_numbers}
use Rattle.topology_types.specs.Topology.{no_link, padded, contents, held, zeros}
use Rattle.topology_sound.specs.Sound.{within}
use Rattle.stream_rules.specs.Stream.{big_endian_on, big_endian, in_bytes, body_length, half_in, decoded, record_in, records}
use Rattle.stream_rules.specs.Halves.{first_half, second_half, link_halves, halves, same_half, leaves, opposite, link_of}
use Rattle.stream_rules.specs.Reading.{refusal, accepted_reading, router_fault_lem, repeated, crowded, halves_fault_lem, fault, with_router, with_link, with_limit, arrived, added}
use Rattle.stream_rules.specs.Reading.{width, is_end, ended, unless, any_record?, in_turn, nothing_listed, reading}
use Rattle.stream_rules.specs.Facts.{one, two, three, T-stream}
use Rattle.topology.specs.Written.{joined_over, router_bytes, half_body, half_bytes, link_bytes, limit_bytes, written}
use Rattle.topology.specs.Facts.{holds, writes, facts, FactsHold}

pub facts_hold : FactsHold
unfolding member no_link padded contents held zeros within
    big_endian_on big_endian in_bytes body_length half_in decoded record_in records
    link_halves first_half second_half halves same_half leaves opposite link_of
    refusal accepted_reading router_fault_lem repeated crowded halves_fault_lem fault with_router with_link with_limit arrived added
    width is_end ended unless any_record? in_turn nothing_listed reading
    same_numbers one two three T-stream joined_over router_bytes half_body half_bytes link_bytes limit_bytes written holds writes facts
facts_hold = tt
