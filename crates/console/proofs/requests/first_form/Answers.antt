-- The chain finds the first form that the line has.
-- Assumes nothing.
use Rattle.std.proofs.Common.{rules, tests}
use Rattle.std.proofs.lemmas.Iterator.{YieldsList-from_slice}
use Rattle.std.proofs.lemmas.Iterator.Search.{find_from_yields_List}
use Rattle.console.specs.Inner.{has}
use Rattle.console.proofs.requests.first_form.Goals as goal

pub returns : goal.returns
returns c = record {
  found =
      find_from_yields_List (has c.args.line.now) _ _ c.find.result c.find.ensures.ran (YieldsList-from_slice c.args.forms.now (cc)) (λ x b q k. search (rules, tests));
}
