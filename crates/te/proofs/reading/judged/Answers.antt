-- Each end knows the type, and whether the bandwidth can be used.
-- Assumes nothing.
use Rattle.te.proofs.Patterns.{no_nan, none_from, too_low, not_low}
use Rattle.te.proofs.Judged.{metric, refused, maximum, reservable}
use Rattle.te.proofs.reading.judged.Goals as goal

pub returns-then-kind-eq-TE_METRIC : goal.returns-then-kind-eq-TE_METRIC
returns-then-kind-eq-TE_METRIC c = metric _ _ c.if-kind-eq-TE_METRIC.true

pub returns-then-number-ge-INFINITE : goal.returns-then-number-ge-INFINITE
returns-then-number-ge-INFINITE c = refused _ _ c.if-kind-eq-TE_METRIC.false (none_from _ c.if-number-ge-INFINITE.true)

pub float_from_bits-bandwidth : goal.float_from_bits-bandwidth
float_from_bits-bandwidth c = no_nan _ c.if-number-ge-INFINITE.false

pub returns-then-bandwidth : goal.returns-then-bandwidth
returns-then-bandwidth c = refused _ _ c.if-kind-eq-TE_METRIC.false (too_low _ c.if-number-ge-INFINITE.false c.if-bandwidth.true)

pub returns-then-kind-eq-MAX_BANDWIDTH : goal.returns-then-kind-eq-MAX_BANDWIDTH
returns-then-kind-eq-MAX_BANDWIDTH c =
    maximum _ _ c.if-kind-eq-TE_METRIC.false (not_low _ c.if-number-ge-INFINITE.false c.if-bandwidth.false) c.if-kind-eq-MAX_BANDWIDTH.true

pub returns-else-kind-eq-MAX_BANDWIDTH : goal.returns-else-kind-eq-MAX_BANDWIDTH
returns-else-kind-eq-MAX_BANDWIDTH c =
    reservable _ _ c.if-kind-eq-TE_METRIC.false (not_low _ c.if-number-ge-INFINITE.false c.if-bandwidth.false) c.if-kind-eq-MAX_BANDWIDTH.false
