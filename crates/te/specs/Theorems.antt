-- What is proved of the call, over all values (02, #108): which bandwidth can be used, what it costs over whole numbers, and that products are exact; what each
-- sub-TLV says, with its numbers written out, which fault decides, what is kept, and what the link costs.
-- Assumes nothing.
use Rattle.std.specs.Prelude.{ℕ, ◌+◌, ◌*◌, ◌≤◌, ◌<◌, ◌%◌, true, false, Bool, ◌↔◌, ◌≢◌, ◌⊎◌, ◌≡◌, T, ℤ, pos, Float, length, drop}
use mathlib.Core.List.{List, [], ◌∷◌, ◌++◌, Memᴰ}
use Rattle.std.specs.Float.{inf, fin, binary32, binary64}
use Rattle.std.specs.Float.Ieee.{up, down, mul, lt, le, of_int, of_bits, fits}
use Rattle.stream_rules.specs.Theorems.{two_at, four_at}
use Rattle.te.specs.SubTlvs.{usable, sub_in}
use Rattle.te.specs.declared.LinkRecord.{LinkRecord}
use Rattle.te.specs.Cost.{bandwidth_cost, costing}
use Rattle.topology_types.specs.Outcome.{answer}
use Rattle.te.specs.SubTlvs.{Found, Refused, Skipped, Is}
use Rattle.te.specs.declared.SubTlv.{SubTlv}
use Rattle.te.specs.declared.SubTlv.TheVariants.{TeMetric, MaxBandwidth, Reservable}
use Rattle.te.specs.declared.CostAnswer.{CostAnswer}

-- 02, #108, 28: a bandwidth can be used if and only if it is not below 1 and finite, by the comparisons of IEEE 754 with 1 and with the infinity
abbrev pub UsableEach : Type 0
UsableEach = (x : Float) → T (usable x) ↔ ((le (of_int binary32 (pos 1)) x ≡ true) × (lt x (inf false) ≡ true))

-- by its 32 bits: from those of 1 on, and below those of the infinity
abbrev pub UsablePatterns : Type 0
UsablePatterns = (n : ℕ) → T (usable (of_bits binary32 n)) ↔ ((0x3f80_0000 ≤ n) × (n < 0x7f80_0000))

-- 02, #108: the products are taken in 64-bit floats, where they are exact: c times the bandwidth is n times 2 to the d, of the same size as over whole
-- numbers, and it is not above 12,500,000 there if and only if it is not above it over whole numbers
pub record Product (c m : ℕ) (e : ℤ) : Type 0 where
  pub n : ℕ
  pub d : ℤ
  pub is : mul binary64 (of_int binary64 (pos c)) (fin false m e) ≡ fin false n d
  pub exact : n * up d * down e ≡ c * (m * up e) * down d
  pub decides : (le (mul binary64 (of_int binary64 (pos c)) (fin false m e)) (of_int binary64 (pos 12500000)) ≡ true) ↔ (c * (m * up e) ≤ 12500000 * down e)

-- for every c of 16 bits and every 32-bit float that is finite and not below 1
abbrev pub ProductsExact : Type 0
ProductsExact = (c m : ℕ) (e : ℤ) → c < 65536 → T (fits binary32 (fin false m e)) → T (usable (fin false m e)) → Product c m e

-- 02, #108: the greatest whole number whose product with the bandwidth is not above 12,500,000, held to 1 to 65,535
pub record Greatest (m : ℕ) (e : ℤ) (c : ℕ) : Type 0 where
  pub least : 1 ≤ c
  pub most : c ≤ 65535
  pub not_above : 1 < c → c * (m * up e) ≤ 12500000 * down e
  pub greatest : c < 65535 → 12500000 * down e < (c + 1) * (m * up e)

abbrev pub BandwidthCosts : Type 0
BandwidthCosts = (m : ℕ) (e : ℤ) (c : ℕ) → T (usable (fin false m e)) → (bandwidth_cost (fin false m e) ≡ c) ↔ Greatest m e c

-- 02, #108: the fields of a record. An absent one is 0; a bandwidth that is present is finite and not below 1.
pub record Kept (r : LinkRecord) : Type 0 where
  pub metric_absent : r.hasmetric ≡ false → r.metric ≡ 0
  pub maximum_absent : r.hasmaximum ≡ false → r.maximum ≡ fin false 0 (pos 0)
  pub maximum_present : r.hasmaximum ≡ true → T (usable r.maximum)
  pub reservable_absent : r.hasreservable ≡ false → r.reservable ≡ fin false 0 (pos 0)
  pub reservable_present : r.hasreservable ≡ true → T (usable r.reservable)

abbrev pub RecordsKept : Type 0
RecordsKept = (value : List ℕ) → Kept (costing value).link

-- RFC 3630, 2.3.2: a sub-TLV has 4 bytes of type and length, then as many as the length says, then none to three of padding, up to a multiple of four
pub record Span (s : List ℕ) (n : ℕ) : Type 0 where
  pub header : 4 ≤ length s
  pub multiple : n % 4 ≡ 0
  pub value : 4 + two_at s 2 ≤ n
  pub padding : n < 8 + two_at s 2

-- all its bytes are there, its padding too
pub record Whole (s : List ℕ) : Type 0 where
  pub n : ℕ
  pub span : Span s n
  pub fits : n ≤ length s

-- the float in the first four bytes of the value
abbrev pub single : List ℕ → Float
single s = of_bits binary32 (four_at s 4)

-- 02, #108: what the bytes from a sub-TLV's first byte on say. 29: it is cut short, in its first 4 bytes or behind them, or it is of type 5, 6 or 7 and its
-- length is not 4. 28: it is of type 6 or 7 and its bandwidth is not finite, or below 1. The types 5, 6 and 7 are the three cases; others are skipped.
pub data SubSays (s : List ℕ) : Found → Type 0 where
  no_header : length s < 4 → SubSays s (Refused 29)
  cut-short : (n : ℕ) → Span s n → length s < n → SubSays s (Refused 29)
  wrong_length : Whole s → 5 ≤ two_at s 0 → two_at s 0 ≤ 7 → two_at s 2 ≢ 4 → SubSays s (Refused 29)
  unusable : Whole s → (two_at s 0 ≡ 6) ⊎ (two_at s 0 ≡ 7) → two_at s 2 ≡ 4 → (T (usable (single s)) → ⊥) → SubSays s (Refused 28)
  other_type : Whole s → (two_at s 0 < 5) ⊎ (7 < two_at s 0) → SubSays s Skipped
  metric : Whole s → two_at s 0 ≡ 5 → two_at s 2 ≡ 4 → SubSays s (Is (TeMetric (four_at s 4)))
  maximum : Whole s → two_at s 0 ≡ 6 → two_at s 2 ≡ 4 → T (usable (single s)) → SubSays s (Is (MaxBandwidth (single s)))
  reservable : Whole s → two_at s 0 ≡ 7 → two_at s 2 ≡ 4 → T (usable (single s)) → SubSays s (Is (Reservable (single s)))

abbrev pub SubsEach : Type 0
SubsEach = (s : List ℕ) (f : Found) → (sub_in s ≡ f) ↔ SubSays s f

-- 02, #108: from the first byte up to an offset the value is sub-TLVs one after another, none of them with a fault; the list has those of types 5, 6 and 7, in
-- their order
pub data SubsBefore (value : List ℕ) : ℕ → List SubTlv → Type 0 where
  start : SubsBefore value 0 []
  skipped : {at : ℕ} {subs : List SubTlv} (n : ℕ) → SubsBefore value at subs → sub_in (drop at value) ≡ Skipped → Span (drop at value) n →
      SubsBefore value (at + n) subs
  taken : {at : ℕ} {subs : List SubTlv} (n : ℕ) (t : SubTlv) → SubsBefore value at subs → sub_in (drop at value) ≡ Is t → Span (drop at value) n →
      SubsBefore value (at + n) (subs ++ (t ∷ []))

-- the last of the sub-TLVs of one case
pub record LastOf {A : Type 0} (make : A → SubTlv) (subs : List SubTlv) (a : A) : Type 0 where
  pub before : List SubTlv
  pub after : List SubTlv
  pub stands : subs ≡ before ++ (make a ∷ after)
  pub none_after : (b : A) → Memᴰ (make b) after → ⊥

abbrev pub NoneOf : {A : Type 0} (make : A → SubTlv) → List SubTlv → Type 0
NoneOf {A} make subs = (a : A) → Memᴰ (make a) subs → ⊥

-- 02, #108: 5 or 6 can be used: the last metric is from 1 to 65,535, or there is a maximum bandwidth
abbrev pub OneUsable : List SubTlv → Type 0
OneUsable subs = ((n : ℕ) × LastOf TeMetric subs n × (1 ≤ n) × (n ≤ 65535)) ⊎ ((x : Float) × LastOf MaxBandwidth subs x)

-- 02, #108: which fault decides, and where it points: the first sub-TLV with a fault, or the end where neither 5 nor 6 can be used
pub record CostSays (value : List ℕ) (at : ℕ) : Type 0 where
  pub says_28 : ((costing value).answer ≡ answer 28 at) ↔
      ((subs : List SubTlv) × SubsBefore value at subs × (at < length value) × (sub_in (drop at value) ≡ Refused 28))
  pub says_29 : ((costing value).answer ≡ answer 29 at) ↔
      ((subs : List SubTlv) × SubsBefore value at subs ×
      (((at < length value) × (sub_in (drop at value) ≡ Refused 29)) ⊎ ((at ≡ length value) × (OneUsable subs → ⊥))))
  pub says_0 : ((costing value).answer ≡ answer 0 at) ↔ ((at ≡ 0) × ((subs : List SubTlv) × SubsBefore value (length value) subs × OneUsable subs))
  pub no_other : Memᴰ (costing value).answer.number (0 ∷ 28 ∷ 29 ∷ [])

abbrev pub AnswersEach : Type 0
AnswersEach = (value : List ℕ) (at : ℕ) → CostSays value at

-- 02, #108: a field of the record, by whether it is present: of repeats the last stands, and an absent one is 0
pub record FieldOf {A : Type 0} (make : A → SubTlv) (zero : A) (subs : List SubTlv) (has : Bool) (a : A) : Type 0 where
  pub present : has ≡ true → LastOf make subs a
  pub absent : has ≡ false → NoneOf make subs × (a ≡ zero)

pub record RecordOf (subs : List SubTlv) (r : LinkRecord) : Type 0 where
  pub metric : FieldOf TeMetric 0 subs r.hasmetric r.metric
  pub maximum : FieldOf MaxBandwidth (fin false 0 (pos 0)) subs r.hasmaximum r.maximum
  pub reservable : FieldOf Reservable (fin false 0 (pos 0)) subs r.hasreservable r.reservable

-- 02, #108: the cost is the metric if within 1 to 65,535, else the greatest whole number whose product with the maximum bandwidth is not above 12,500,000,
-- held to that range
pub record CostOf (r : LinkRecord) (c : ℕ) : Type 0 where
  pub by_metric : 1 ≤ r.metric → r.metric ≤ 65535 → c ≡ r.metric
  pub by_bandwidth : (r.metric < 1) ⊎ (65535 < r.metric) → (m : ℕ) × (e : ℤ) × (r.hasmaximum ≡ true) × (r.maximum ≡ fin false m e) × Greatest m e c

-- what is returned where nothing is refused
abbrev pub CostsReturned : Type 0
CostsReturned = (value : List ℕ) → (costing value).answer.number ≡ 0 →
    (subs : List SubTlv) × SubsBefore value (length value) subs × RecordOf subs (costing value).link × CostOf (costing value).link (costing value).cost

-- 02, #108: refused, all are 0
pub record Zeros (c : CostAnswer) : Type 0 where
  pub cost : c.cost ≡ 0
  pub link : c.link ≡ record {
    metric = 0;
    hasmetric = false;
    hasmaximum = false;
    hasreservable = false;
    maximum = fin false 0 (pos 0);
    reservable = fin false 0 (pos 0);
  }

abbrev pub RefusedZero : Type 0
RefusedZero = (value : List ℕ) → (costing value).answer.number ≢ 0 → Zeros (costing value)
