-- Values of Link TLVs worked by hand, as lists (02, #108): what a pattern of four bytes is worth, what a value is refused for, what it costs, and what its
-- record keeps. A new fact is one line.
-- Assumes nothing.
use Rattle.std.specs.Prelude.{ℕ, ◌*◌, Bool, false, cond, not, ◌&&◌, List, [], ◌∷◌, ◌++◌, T, eqb, Float}
use Rattle.std.specs.Float.{nan, inf, fin, binary32}
use Rattle.std.specs.Float.Ieee.{up, down, of_bits, to_bits}
use Rattle.network.specs.Lists.{every, same_numbers}
use Rattle.stream_rules.specs.Stream.{in_bytes}
use Rattle.te.specs.declared.LinkRecord.{LinkRecord}
use Rattle.te.specs.declared.CostAnswer.{CostAnswer}
use Rattle.te.specs.Cost.{costing}

pub data Fact : Type 0 where
  -- a value is refused by a number, at an offset
  refuses : List ℕ → ℕ → ℕ → Fact
  -- a value costs so much, and the record has these fields: for metric, maximum and reservable 1 or 0 for present, and its number, bandwidths as the patterns
  -- of 32 bits
  costs : List ℕ → ℕ → List ℕ → Fact
  -- a value of a maximum bandwidth of this pattern alone costs so much, and keeps it
  prices : ℕ → ℕ → Fact
  -- a pattern of 32 bits is worth one number over another
  worth : ℕ → ℕ → ℕ → Fact

-- 1 or 0 for present, and a number
unfoldable pub field : Bool → ℕ → List ℕ
field has n = cond has 1 0 ∷ n ∷ []

unfoldable pub fields : LinkRecord → List ℕ
fields r =
    field r.hasmetric r.metric ++ field r.hasmaximum (to_bits binary32 r.maximum) ++ field r.hasreservable (to_bits binary32 r.reservable)

unfoldable pub outcome : CostAnswer → List ℕ
outcome c = c.answer.number ∷ c.answer.at ∷ c.cost ∷ fields c.link

unfoldable pub worth_is : Float → ℕ → ℕ → Bool
worth_is nan a b = false
worth_is (inf s) a b = false
worth_is (fin s m e) a b = not s && eqb (m * up e * b) (a * down e)

unfoldable pub holds : Fact → Bool
holds (refuses value number at) = same_numbers (outcome (costing value)) (number ∷ at ∷ 0 ∷ 0 ∷ 0 ∷ 0 ∷ 0 ∷ 0 ∷ 0 ∷ [])
holds (costs value cost kept) = same_numbers (outcome (costing value)) (0 ∷ 0 ∷ cost ∷ kept)
holds (prices pattern cost) =
    same_numbers (outcome (costing (0 ∷ 6 ∷ 0 ∷ 4 ∷ in_bytes 4 pattern))) (0 ∷ 0 ∷ cost ∷ 0 ∷ 0 ∷ 1 ∷ pattern ∷ 0 ∷ 0 ∷ [])
holds (worth pattern a b) = worth_is (of_bits binary32 pattern) a b

-- sub-TLVs of length 4: 1,250,000, 12,500,000 and 1 byte a second as the maximum, 12,500,000 as the reservable bandwidth, and a metric of
-- four bytes
unfoldable pub max_1250000 : List ℕ
max_1250000 = 0 ∷ 6 ∷ 0 ∷ 4 ∷ 0x49 ∷ 0x98 ∷ 0x96 ∷ 0x80 ∷ []

unfoldable pub max_12500000 : List ℕ
max_12500000 = 0 ∷ 6 ∷ 0 ∷ 4 ∷ 0x4b ∷ 0x3e ∷ 0xbc ∷ 0x20 ∷ []

unfoldable pub max_1 : List ℕ
max_1 = 0 ∷ 6 ∷ 0 ∷ 4 ∷ 0x3f ∷ 0x80 ∷ 0 ∷ 0 ∷ []

unfoldable pub res_12500000 : List ℕ
res_12500000 = 0 ∷ 7 ∷ 0 ∷ 4 ∷ 0x4b ∷ 0x3e ∷ 0xbc ∷ 0x20 ∷ []

unfoldable pub metric : ℕ → ℕ → ℕ → ℕ → List ℕ
metric a b c d = 0 ∷ 5 ∷ 0 ∷ 4 ∷ a ∷ b ∷ c ∷ d ∷ []

-- one of another type, with 5 bytes of value and 3 of padding
unfoldable pub other : List ℕ
other = 0 ∷ 9 ∷ 0 ∷ 5 ∷ 1 ∷ 2 ∷ 3 ∷ 4 ∷ 5 ∷ 0 ∷ 0 ∷ 0 ∷ []

-- IEEE 754: what patterns are worth
unfoldable pub patterns : List Fact
patterns =
    worth 0x3f800000 1 1
    ∷ worth 0x3fc00000 3 2
    ∷ worth 0x49989680 1250000 1
    ∷ worth 0x4b3ebc20 12500000 1
    ∷ worth 0x4b3ebc21 12500001 1
    -- 2 to the 24th less 1, over 2 to the 24th, and times 2 to the 104th: the greatest below 1, and the largest finite one
    ∷ worth 0x3f7fffff 16777215 16777216
    ∷ worth 0x7f7fffff 340282346638528859811704183484516925440 1
    ∷ []

unfoldable pub priced : List Fact
priced =
    prices 0x49989680 10
    ∷ prices 0x4b3ebc20 1
    ∷ prices 0x4b3ebc21 1
    ∷ prices 0x3f800000 65535
    ∷ prices 0x7f7fffff 1
    -- the floats beside 1,250,000: ten times 1,249,999.875 is not above 12,500,000, ten times 1,250,000.125 is
    ∷ prices 0x4998967f 10
    ∷ prices 0x49989681 9
    -- 6,250,000 and the floats beside it, 6,249,999.5 and 6,250,000.5
    ∷ prices 0x4abebc20 2
    ∷ prices 0x4abebc1f 2
    ∷ prices 0x4abebc21 1
    -- three times 4,166,666.75 is 12,500,000.25, and 13 times 961,538.5 and 5,101 times 2,450.5 are 12,500,000.5: 32-bit floats round all three to 12,500,000
    ∷ prices 0x4a7e502b 2
    ∷ prices 0x496ac028 12
    ∷ prices 0x45192800 5100
    -- where the range ends: 65,535 times 6,250,095 / 32,768 is 12,499,999.26, and times 12,500,191 / 65,536 it is 12,500,000.26
    ∷ prices 0x433ebcde 65535
    ∷ prices 0x433ebcdf 65534
    ∷ []

unfoldable pub read_so : List Fact
read_so =
    costs (metric 0 0 0 7) 7 (1 ∷ 7 ∷ 0 ∷ 0 ∷ 0 ∷ 0 ∷ [])
    ∷ costs (metric 0 0 1 2) 258 (1 ∷ 258 ∷ 0 ∷ 0 ∷ 0 ∷ 0 ∷ [])
    -- the metric stands, whatever the bandwidth; 1 and 65,535 are within the range, 0 and 65,536 fall back to the bandwidth
    ∷ costs (max_1250000 ++ metric 0 0 0 7 ++ res_12500000) 7 (1 ∷ 7 ∷ 1 ∷ 0x49989680 ∷ 1 ∷ 0x4b3ebc20 ∷ [])
    ∷ costs (metric 0 0 0 1 ++ max_1250000) 1 (1 ∷ 1 ∷ 1 ∷ 0x49989680 ∷ 0 ∷ 0 ∷ [])
    ∷ costs (metric 0 0 255 255 ++ max_1250000) 65535 (1 ∷ 65535 ∷ 1 ∷ 0x49989680 ∷ 0 ∷ 0 ∷ [])
    ∷ costs (metric 0 0 0 0 ++ max_1250000) 10 (1 ∷ 0 ∷ 1 ∷ 0x49989680 ∷ 0 ∷ 0 ∷ [])
    ∷ costs (metric 0 1 0 0 ++ max_1250000) 10 (1 ∷ 65536 ∷ 1 ∷ 0x49989680 ∷ 0 ∷ 0 ∷ [])
    ∷ costs (metric 255 255 255 255 ++ max_1250000) 10 (1 ∷ 4294967295 ∷ 1 ∷ 0x49989680 ∷ 0 ∷ 0 ∷ [])
    -- no cost goes by the reservable bandwidth
    ∷ costs (max_1250000 ++ res_12500000) 10 (0 ∷ 0 ∷ 1 ∷ 0x49989680 ∷ 1 ∷ 0x4b3ebc20 ∷ [])
    -- of repeats the last stands, also where it cannot be used
    ∷ costs (max_1250000 ++ (0 ∷ 7 ∷ 0 ∷ 4 ∷ 0x3f ∷ 0x80 ∷ 0 ∷ 0 ∷ []) ++ res_12500000) 10 (0 ∷ 0 ∷ 1 ∷ 0x49989680 ∷ 1 ∷ 0x4b3ebc20 ∷ [])
    ∷ costs (metric 0 0 0 7 ++ metric 0 0 0 9) 9 (1 ∷ 9 ∷ 0 ∷ 0 ∷ 0 ∷ 0 ∷ [])
    ∷ costs (max_1 ++ max_12500000 ++ max_1250000) 10 (0 ∷ 0 ∷ 1 ∷ 0x49989680 ∷ 0 ∷ 0 ∷ [])
    ∷ costs (metric 0 0 0 7 ++ max_1250000 ++ metric 0 0 0 0) 10 (1 ∷ 0 ∷ 1 ∷ 0x49989680 ∷ 0 ∷ 0 ∷ [])
    -- others are skipped, with their padding: of 5 bytes, of none, of types whose first byte is not 0, and of 4 and 8
    ∷ costs (other ++ max_1250000) 10 (0 ∷ 0 ∷ 1 ∷ 0x49989680 ∷ 0 ∷ 0 ∷ [])
    ∷ costs (max_1250000 ++ other) 10 (0 ∷ 0 ∷ 1 ∷ 0x49989680 ∷ 0 ∷ 0 ∷ [])
    ∷ costs ((0 ∷ 1 ∷ 0 ∷ 0 ∷ []) ++ metric 0 0 0 7) 7 (1 ∷ 7 ∷ 0 ∷ 0 ∷ 0 ∷ 0 ∷ [])
    ∷ costs (metric 0 0 0 7 ++ (1 ∷ 5 ∷ 0 ∷ 4 ∷ 0 ∷ 0 ∷ 0 ∷ 9 ∷ [])) 7 (1 ∷ 7 ∷ 0 ∷ 0 ∷ 0 ∷ 0 ∷ [])
    ∷ costs (metric 0 0 0 7 ++ (128 ∷ 6 ∷ 0 ∷ 1 ∷ 1 ∷ 2 ∷ 3 ∷ 4 ∷ [])) 7 (1 ∷ 7 ∷ 0 ∷ 0 ∷ 0 ∷ 0 ∷ [])
    ∷ costs (metric 0 0 0 7 ++ (0 ∷ 4 ∷ 0 ∷ 4 ∷ 0 ∷ 0 ∷ 0 ∷ 9 ∷ []) ++ (0 ∷ 8 ∷ 0 ∷ 4 ∷ 0 ∷ 0 ∷ 0 ∷ 9 ∷ [])) 7 (1 ∷ 7 ∷ 0 ∷ 0 ∷ 0 ∷ 0 ∷ [])
    ∷ []

unfoldable pub refused_so : List Fact
refused_so =
    -- neither 5 nor 6 can be used: at the end
    refuses [] 29 0
    ∷ refuses res_12500000 29 8
    ∷ refuses (metric 0 0 0 0) 29 8
    ∷ refuses (metric 0 1 0 0 ++ other) 29 20
    ∷ refuses (metric 0 0 0 7 ++ metric 0 0 0 0) 29 16
    -- cut short: in the header, in the value, in the padding; by a length of 256
    ∷ refuses (metric 0 0 0 7 ++ (0 ∷ 6 ∷ 0 ∷ [])) 29 8
    ∷ refuses (metric 0 0 0 7 ++ (0 ∷ 9 ∷ 0 ∷ 5 ∷ 1 ∷ 2 ∷ 3 ∷ 4 ∷ [])) 29 8
    ∷ refuses (metric 0 0 0 7 ++ (0 ∷ 9 ∷ 0 ∷ 5 ∷ 1 ∷ 2 ∷ 3 ∷ 4 ∷ 5 ∷ 0 ∷ 0 ∷ [])) 29 8
    ∷ refuses (metric 0 0 0 7 ++ (0 ∷ 9 ∷ 1 ∷ 0 ∷ 0 ∷ 0 ∷ 0 ∷ 0 ∷ [])) 29 8
    -- a length other than 4
    ∷ refuses (metric 0 0 0 7 ++ (0 ∷ 5 ∷ 0 ∷ 3 ∷ 0 ∷ 0 ∷ 0 ∷ 7 ∷ [])) 29 8
    ∷ refuses (metric 0 0 0 7 ++ (0 ∷ 6 ∷ 0 ∷ 0 ∷ [])) 29 8
    ∷ refuses (metric 0 0 0 7 ++ (0 ∷ 7 ∷ 0 ∷ 8 ∷ 0x3f ∷ 0x80 ∷ 0 ∷ 0 ∷ 0 ∷ 0 ∷ 0 ∷ 0 ∷ [])) 29 8
    -- its length, and that it is cut short, are tested before a bandwidth
    ∷ refuses (metric 0 0 0 7 ++ (0 ∷ 7 ∷ 0 ∷ 8 ∷ 0x7f ∷ 0xc0 ∷ 0 ∷ 0 ∷ 0 ∷ 0 ∷ 0 ∷ 0 ∷ [])) 29 8
    ∷ refuses (metric 0 0 0 7 ++ (0 ∷ 6 ∷ 0 ∷ 4 ∷ 0x7f ∷ 0xc0 ∷ 0 ∷ [])) 29 8
    -- the greatest below 1, 0 with both signs, less than 0; an infinity with both signs; NaNs
    ∷ refuses (metric 0 0 0 7 ++ (0 ∷ 6 ∷ 0 ∷ 4 ∷ 0x3f ∷ 0x7f ∷ 0xff ∷ 0xff ∷ [])) 28 8
    ∷ refuses (metric 0 0 0 7 ++ (0 ∷ 7 ∷ 0 ∷ 4 ∷ 0x3f ∷ 0x7f ∷ 0xff ∷ 0xff ∷ [])) 28 8
    ∷ refuses (0 ∷ 6 ∷ 0 ∷ 4 ∷ 0 ∷ 0 ∷ 0 ∷ 0 ∷ []) 28 0
    ∷ refuses (0 ∷ 6 ∷ 0 ∷ 4 ∷ 0x80 ∷ 0 ∷ 0 ∷ 0 ∷ []) 28 0
    ∷ refuses (0 ∷ 6 ∷ 0 ∷ 4 ∷ 0xc0 ∷ 0 ∷ 0 ∷ 0 ∷ []) 28 0
    ∷ refuses (0 ∷ 6 ∷ 0 ∷ 4 ∷ 0x7f ∷ 0x80 ∷ 0 ∷ 0 ∷ []) 28 0
    ∷ refuses (0 ∷ 6 ∷ 0 ∷ 4 ∷ 0xff ∷ 0x80 ∷ 0 ∷ 0 ∷ []) 28 0
    ∷ refuses (0 ∷ 6 ∷ 0 ∷ 4 ∷ 0x7f ∷ 0xc0 ∷ 0 ∷ 0 ∷ []) 28 0
    ∷ refuses (0 ∷ 6 ∷ 0 ∷ 4 ∷ 0xff ∷ 0x80 ∷ 0 ∷ 1 ∷ []) 28 0
    -- 1 with its bytes turned round is a number far below 1
    ∷ refuses (0 ∷ 6 ∷ 0 ∷ 4 ∷ 0 ∷ 0 ∷ 0x80 ∷ 0x3f ∷ []) 28 0
    -- the first fault decides: 28 before 29, 29 before 28, and either before the end; a good repeat after it changes nothing
    ∷ refuses ((0 ∷ 6 ∷ 0 ∷ 4 ∷ 0 ∷ 0 ∷ 0 ∷ 0 ∷ []) ++ (0 ∷ 5 ∷ 0 ∷ 3 ∷ 0 ∷ 0 ∷ 0 ∷ 7 ∷ [])) 28 0
    ∷ refuses ((0 ∷ 5 ∷ 0 ∷ 3 ∷ 0 ∷ 0 ∷ 0 ∷ 7 ∷ []) ++ (0 ∷ 6 ∷ 0 ∷ 4 ∷ 0 ∷ 0 ∷ 0 ∷ 0 ∷ [])) 29 0
    ∷ refuses (max_1 ++ (0 ∷ 6 ∷ 0 ∷ 4 ∷ 0 ∷ 0 ∷ 0 ∷ 0 ∷ []) ++ max_1) 28 8
    ∷ []

abbrev pub FactsHold : Type 0
FactsHold = T (every holds patterns) × T (every holds priced) × T (every holds read_so) × T (every holds refused_so)
