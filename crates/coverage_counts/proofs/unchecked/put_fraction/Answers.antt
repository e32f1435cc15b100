-- The two numbers are put, and the byte that ends them behind them.
-- Assumes nothing.
use Rattle.std.proofs.Common.{arith}
use Rattle.text.specs.Lines.{answer_text}
use Rattle.text.proofs.Stores.{joined}
use Rattle.text.proofs.Texts.{answer_length}
use Rattle.listing_rules.specs.Listing.{spaced}
use Rattle.coverage_rules.specs.Printed.{fraction_text}
use Rattle.coverage_counts.proofs.unchecked.put_fraction.Goals as goal

pub put-requires : goal.put-requires
put-requires c = omega (arith, answer_length c.args.part c.args.whole)

pub returns : goal.returns
unfolding fraction_text spaced answer_text
returns c = joined c.put_pair.ensures c.put.ensures
