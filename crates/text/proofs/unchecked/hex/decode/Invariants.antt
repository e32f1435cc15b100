use Rattle.std.proofs.Common.{◌≡◌, ◌*◌, drop}
use Rattle.std.proofs.lemmas.List.Edits.{sets}
use Rattle.text.specs.Hex.{bytes_of}
use Rattle.text.proofs.unchecked.hex.decode.Given as goal

abbrev pub invariant-loop-i : goal.invariant-loop-i
invariant-loop-i l = sets l.out l.i (bytes_of (drop (2 * l.i) l.s)) ≡ sets l.fn.out 0 (bytes_of l.s)
