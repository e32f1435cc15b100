-- A place more is put behind those passed.
-- Assumes nothing.
use Rattle.std.proofs.Common.{arith, get_or}
use Rattle.std.proofs.lemmas.List.{take_more}
use Rattle.std.proofs.Math.Seq.{take_all}
use Rattle.listing_rules.specs.Inner.{spaced_number, fields_text}
use Rattle.listing_rules.proofs.InTurn.{none, more}
use Rattle.listing_rules.proofs.Fields.{field_length}
use Rattle.report.proofs.unchecked.fields.put_fields.Goals as goal

pub loop-n-init : goal.loop-n-init
loop-n-init c = none spaced_number 3 _

pub loop-n-preserved : goal.loop-n-preserved
loop-n-preserved c =
    let at = c.loop-n in
    let numbers = c.args.numbers.now in
    more spaced_number 3 at.invariant (get_or numbers at.n-index 0) (field_length _ (c.requires.0 at.n-index c.loop-n-test.true)) c.put_place.ensures
    (take_more numbers at.n-index 0 c.loop-n-test.true)

pub returns : goal.returns
unfolding fields_text
returns c = rw (take_all c.loop-n.n-index c.args.numbers.now (omega arith)) at c.loop-n.invariant.puts
