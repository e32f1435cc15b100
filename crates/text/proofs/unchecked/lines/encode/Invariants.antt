use Rattle.std.proofs.Common.{◌≡◌, ◌*◌, drop}
use Rattle.std.proofs.lemmas.List.Edits.{sets}
use Rattle.text.specs.Hex.{hex_of}
use Rattle.text.proofs.unchecked.lines.encode.Given as goal

abbrev pub invariant-loop-i : goal.invariant-loop-i
invariant-loop-i l = sets l.out (2 * l.i) (hex_of (drop l.i l.bytes)) ≡ sets l.fn.out 0 (hex_of l.bytes)
