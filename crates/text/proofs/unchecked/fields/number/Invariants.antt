use Rattle.std.proofs.Common.{◌≡◌, ◌≤◌, true}
use Rattle.text.specs.Numbers.{numeral, onto}
use Rattle.text.proofs.Scan.{Left}
use Rattle.text.proofs.unchecked.fields.number.Given as goal

abbrev pub invariant-loop-c : goal.invariant-loop-c
invariant-loop-c l = record {
  in_range : l.value ≤ l.most;
  digits : numeral l.s ≡ true;
  left : Left (onto l.value) l.s l.c-index (onto 0 l.s);
}
