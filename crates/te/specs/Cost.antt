-- What a link costs by its TE link data, and the link's record (02, #108).
-- Assumes nothing.
use Rattle.std.specs.Prelude.{ℕ, zero, suc, ◌+◌, ◌-◌, ◌*◌, ◌/◌, true, false, cond, ◌&&◌, List, [], ◌∷◌, eqb, leb, ltb, pos, Float}
use Rattle.std.specs.Float.{nan, inf, fin}
use Rattle.std.specs.Float.Ieee.{up, down}
use Rattle.std.specs.Prelude.{Option, Some, None, Result, Ok, Err}
use Rattle.topology_types.specs.declared.Refusal.{Refusal}
use Rattle.topology_types.specs.Outcome.{answer, number_of}
use Rattle.te.specs.SubTlvs.{Found, Refused, Skipped, Is}
use Rattle.te.specs.declared.SubTlv.{SubTlv}
use Rattle.te.specs.declared.SubTlv.TheVariants.{TeMetric, MaxBandwidth, Reservable}
use Rattle.te.specs.declared.LinkRecord.{LinkRecord}
use Rattle.te.specs.declared.LinkCost as code
use Rattle.te.specs.declared.CostAnswer.{CostAnswer}
use Rattle.te.specs.SubTlvs.{span_of, sub_in}

-- what a value answers: a number and an "at", the cost and the record
abbrev pub LinkCost : Type 0
LinkCost = CostAnswer

-- 02, #108: absent fields are 0
unfoldable pub nothing : LinkRecord
nothing = record {
  metric = 0;
  hasmetric = false;
  hasmaximum = false;
  hasreservable = false;
  maximum = fin false 0 (pos 0);
  reservable = fin false 0 (pos 0);
}

-- 02, #108: of repeats the last stands
unfoldable pub gathered : LinkRecord → SubTlv → LinkRecord
gathered r (TeMetric n) = record {
  metric = n;
  hasmetric = true;
  hasmaximum = r.hasmaximum;
  hasreservable = r.hasreservable;
  maximum = r.maximum;
  reservable = r.reservable;
}
gathered r (MaxBandwidth x) = record {
  metric = r.metric;
  hasmetric = r.hasmetric;
  hasmaximum = true;
  hasreservable = r.hasreservable;
  maximum = x;
  reservable = r.reservable;
}
gathered r (Reservable x) = record {
  metric = r.metric;
  hasmetric = r.hasmetric;
  hasmaximum = r.hasmaximum;
  hasreservable = true;
  maximum = r.maximum;
  reservable = x;
}

-- a number held to the range from 1 to 65,535
unfoldable pub held_to_range : ℕ → ℕ
held_to_range c = cond (ltb c 1) 1 (cond (ltb 65535 c) 65535 c)

-- 02, #108: the greatest whole c with c times the bandwidth not above 12,500,000, held to that range. The bandwidth is m times 2 to the e, so c times m times
-- up e is not above 12,500,000 times down e, and the greatest such c is the quotient. It is asked only of a bandwidth that can be used. 12,500,000 bytes per
-- second are 100 Mbit/s.
unfoldable pub bandwidth_cost : Float → ℕ
bandwidth_cost nan = 0
bandwidth_cost (inf s) = 0
bandwidth_cost (fin s m e) = held_to_range (12500000 * down e / (m * up e))

-- the cost by a record's maximum bandwidth, 0 where it has none
unfoldable pub maximum_cost : LinkRecord → ℕ
maximum_cost r = cond r.hasmaximum (bandwidth_cost r.maximum) 0

-- 02, #108: the TE metric if within 1 to 65,535, else by the maximum bandwidth; 0 where neither can be used
unfoldable pub record_cost : LinkRecord → ℕ
record_cost r = cond (leb 1 r.metric && leb r.metric 65535) r.metric (maximum_cost r)

-- none where the cost is 0
abbrev pub some_cost : ℕ → Option ℕ
some_cost zero = None
some_cost (suc c) = Some (suc c)

-- 02, #108: refused, cost and record are all 0
unfoldable pub refused_cost : ℕ → ℕ → CostAnswer
refused_cost number at = record { answer = answer number at; cost = 0; link = nothing }

-- 02, #108: the answer carries the cost and the record; 29 at the end where neither 5 nor 6 can be used
unfoldable pub concluded : ℕ → LinkRecord → CostAnswer
concluded end r = cond (eqb (record_cost r) 0) (refused_cost 29 end) (record { answer = answer 0 0; cost = record_cost r; link = r })

-- the number of a fault, 0 where there is none
unfoldable pub fault_of_lem : Found → ℕ
fault_of_lem (Refused number) = number
fault_of_lem Skipped = 0
fault_of_lem (Is s) = 0

-- the record with what was found: only one of the three cases changes it
unfoldable pub added_sub : LinkRecord → Found → LinkRecord
added_sub r (Refused number) = r
added_sub r Skipped = r
added_sub r (Is s) = gathered r s

-- 02, #108: the sub-TLVs from an offset on, in turn, with what was gathered before; the first `skipped` bytes still belong to the one before. The first
-- fault decides, at the sub-TLV.
unfoldable pub taken_from : ℕ → ℕ → LinkRecord → List ℕ → CostAnswer
taken_from at skipped r [] = concluded at r
taken_from at zero r (byte ∷ rest) =
    let found = sub_in (byte ∷ rest) in
    cond (eqb (fault_of_lem found) 0) (taken_from (at + 1) (span_of (byte ∷ rest) - 1) (added_sub r found) rest) (refused_cost (fault_of_lem found) at)
taken_from at (suc skipped) r (byte ∷ rest) = taken_from (at + 1) skipped r rest

-- 02, #108: what the value of a Link TLV answers
unfoldable pub costing : List ℕ → CostAnswer
costing value = taken_from 0 0 nothing value

-- 02, #108: the answer that the call's result stands for
abbrev pub costing_of : Result code.LinkCost Refusal → CostAnswer
costing_of (Ok c) = record { answer = answer 0 0; cost = c.cost; link = c.link }
costing_of (Err r) = refused_cost (number_of r.fault) r.at
