-- The prover computes every fact from the definitions.
-- Assumes nothing.
use lib.Ieee.{of_bits, to_bits}
use Rattle.network.specs.Lists.{same_numbers}
use Rattle.stream_rules.specs.Stream.{big_endian_on, big_endian, in_bytes}
use Rattle.te.specs.SubTlvs.{type_of, length_of, span_of, cut_short, number_in, usable, case_of, judged, sub_in}
use Rattle.te.specs.Cost.{nothing, gathered, held_to_range, bandwidth_cost, maximum_cost, record_cost, refused_cost, concluded, fault_of_lem, added_sub, taken_from, costing}
use Rattle.te.specs.Facts.{field, fields, outcome, worth_is, holds, max_1250000, max_12500000, max_1, res_12500000, metric, other}
use Rattle.te.specs.Facts.{patterns, priced, read_so, refused_so, FactsHold}

pub facts_hold : FactsHold
unfolding of_bits to_bits same_numbers big_endian_on big_endian in_bytes
    type_of length_of span_of cut_short number_in usable case_of judged sub_in
    nothing gathered held_to_range bandwidth_cost maximum_cost record_cost refused_cost concluded fault_of_lem added_sub taken_from costing
    field fields outcome worth_is holds max_1250000 max_12500000 max_1 res_12500000 metric other patterns priced read_so refused_so
facts_hold = (tt, tt, tt, tt)
